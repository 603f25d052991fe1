-- What the reader of amounts answers.
use Rattle.std.specs.Prelude.{◌≡◌, Option, Some, None, Result, List, ℕ}
use Rattle.std.specs.Option.{SomeIff, ok_or}
use Rattle.std.proofs.Common.{refl}
use Rattle.np_frac.specs.Ratio.{Ratio}
use Rattle.np_frac.specs.Amount.{IsAmount, amount_of}
use Rattle.np_frac.proofs.TextTests.{amount-is, not-amount}
use Rattle.np_records.specs.Faults.{Reads}
use Rattle.net_csv.specs.declared.refused.Code.{Code}
use Rattle.net_csv.specs.declared.refused.Code.TheVariants as code
use Rattle.net_csv.specs.Fields.{amount_fault}

pub amount-answer : (bs : List ℕ) (o : Option Ratio) (r : Result Ratio Code) → SomeIff o (IsAmount bs) (amount_of bs) → r ≡ ok_or o code.BadNumber → Reads r (amount_fault bs) (amount_of bs)
amount-answer bs None r h e = rw (e, not-amount bs h) refl
amount-answer bs (Some x) r h e = rw (e, amount-is bs h.0) (refl, h.1)
