-- What the readers of fractions and periods answer.
use Rattle.std.specs.Prelude.{◌≡◌, ℕ, ◌≤◌, ◌&&◌, nat_le, Bool, true, false, Option, Some, None, List, if◌then◌else◌}
use Rattle.std.specs.Option.{SomeIff}
use Rattle.std.proofs.Common.{refl, arith}
use Rattle.std.proofs.lemmas.Bool.Decides.{nat_tests}
use Rattle.np_frac.specs.Ratio.{Ratio}
use Rattle.np_frac.specs.Text.{IsFraction, fraction_of, is_number, number}
use Rattle.np_frac.proofs.TextTests.{fraction-is, not-fraction, and-left, and-right}
use Rattle.np_records.specs.Rows.{is_period}
use Rattle.certificates.specs.Fields.{fraction_in}

pub fraction-answer : (bs : List ℕ) (o : Option Ratio) → SomeIff o (IsFraction bs) (fraction_of bs) → o ≡ fraction_in bs
fraction-answer bs None h = rw (not-fraction bs h) refl
fraction-answer bs (Some x) h = rw (fraction-is bs h.0, h.1) refl

-- a number that a test lets through
pub given-if : (b : Bool) (n p : ℕ) → Some p ≡ (if b then Some n else None) → (b ≡ true) × (p ≡ n)
given-if true n p e = (refl, cc e)
given-if false n p e = absurd (cc e)

pub none-if : (b : Bool) (n : ℕ) → None ≡ (if b then Some n else None) → b ≡ false
none-if true n e = absurd (cc e)
none-if false n e = refl

-- a period is from 1 to the last one
pub period-bounds : (last : ℕ) (bs : List ℕ) → is_period last bs ≡ true → (1 ≤ number bs) × (number bs ≤ last)
period-bounds last bs h =
    let low : nat_le 1 (number bs) ≡ true = and-right (is_number 9 bs) _ (and-left (is_number 9 bs && nat_le 1 (number bs)) _ h) in
    let high : nat_le (number bs) last ≡ true = and-right (is_number 9 bs && nat_le 1 (number bs)) _ h in
    (grind (arith, nat_tests), grind (arith, nat_tests))
