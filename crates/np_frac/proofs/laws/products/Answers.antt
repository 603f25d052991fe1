use Rattle.np_frac.proofs.Facts.{product_by_cross}
use Rattle.np_frac.proofs.RatioLaws.{*ᵣ_comm, *ᵣ_assoc, *ᵣ-+ᵣ, *ᵣ-zero, negated-*ᵣ}
use Rattle.np_frac.proofs.Field.{*ᵣ-one}
use Rattle.np_frac.proofs.laws.products.Goals as goal

pub returns-clause-cross : goal.returns-clause-cross
returns-clause-cross c = product_by_cross

pub returns-clause-commutes : goal.returns-clause-commutes
returns-clause-commutes c = *ᵣ_comm

pub returns-clause-associates : goal.returns-clause-associates
returns-clause-associates c = *ᵣ_assoc

pub returns-clause-distributes : goal.returns-clause-distributes
returns-clause-distributes c = *ᵣ-+ᵣ

pub returns-clause-one : goal.returns-clause-one
returns-clause-one c = *ᵣ-one

pub returns-clause-zero : goal.returns-clause-zero
returns-clause-zero c = *ᵣ-zero

pub returns-clause-negated : goal.returns-clause-negated
returns-clause-negated c = negated-*ᵣ
