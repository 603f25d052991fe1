use Rattle.np_frac.proofs.RatioLaws.{+ᵣ_at_most, *ᵣ_at_most, *ᵣ_at_least}
use Rattle.np_frac.proofs.Field.{*ᵣ_above, inverse_above}
use Rattle.np_frac.proofs.laws.order_of_results.Goals as goal

pub returns-clause-sum : goal.returns-clause-sum
returns-clause-sum c = λ a b c d. +ᵣ_at_most

pub returns-clause-product : goal.returns-clause-product
returns-clause-product c = λ a b c. *ᵣ_at_most

pub returns-clause-turned : goal.returns-clause-turned
returns-clause-turned c = λ a b c. *ᵣ_at_least

pub returns-clause-above : goal.returns-clause-above
returns-clause-above c = λ a b. *ᵣ_above

pub returns-clause-inverse_above : goal.returns-clause-inverse_above
returns-clause-inverse_above c = λ a. inverse_above
