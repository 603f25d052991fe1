use Rattle.np_frac.proofs.Facts.{at_most_by_cross, below_by_cross, below_by_test}
use Rattle.np_frac.proofs.RatioLaws.{≤ᵣ_refl, ≤ᵣ_trans, ≤ᵣ_antisym, below_or, <ᵣ_is_≤ᵣ, clash}
use Rattle.np_frac.proofs.laws.order.Goals as goal

pub returns-clause-cross : goal.returns-clause-cross
returns-clause-cross c = at_most_by_cross

pub returns-clause-below_cross : goal.returns-clause-below_cross
returns-clause-below_cross c = below_by_cross

pub returns-clause-tested : goal.returns-clause-tested
returns-clause-tested c = below_by_test

pub returns-clause-reflexive : goal.returns-clause-reflexive
returns-clause-reflexive c = ≤ᵣ_refl

pub returns-clause-transitive : goal.returns-clause-transitive
returns-clause-transitive c = λ a b c. ≤ᵣ_trans

pub returns-clause-antisymmetric : goal.returns-clause-antisymmetric
returns-clause-antisymmetric c = λ a b. ≤ᵣ_antisym

pub returns-clause-total : goal.returns-clause-total
returns-clause-total c = below_or

pub returns-clause-weaker : goal.returns-clause-weaker
returns-clause-weaker c = λ a b. <ᵣ_is_≤ᵣ

pub returns-clause-exclusive : goal.returns-clause-exclusive
returns-clause-exclusive c = λ a b. clash
