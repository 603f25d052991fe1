use Rattle.std.proofs.Common.{refl}
use Rattle.np_frac.specs.Amount.{amount_of}
use Rattle.np_frac.proofs.Amounts.{value_is_amount, whole_amount}
use Rattle.np_frac.proofs.AmountTexts.{amount_text}
use Rattle.np_frac.proofs.laws.amounts.Goals as goal

pub returns-clause-value : goal.returns-clause-value
returns-clause-value c = λ bs h. value_is_amount (amount_of bs) bs h refl

pub returns-clause-text : goal.returns-clause-text
returns-clause-text c = amount_text

pub returns-clause-whole : goal.returns-clause-whole
returns-clause-whole c = whole_amount
