use Rattle.np_frac.proofs.Facts.{sum_by_cross}
use Rattle.np_frac.proofs.RatioLaws.{+ᵣ_comm, +ᵣ_assoc, +ᵣ-zero}
use Rattle.np_frac.proofs.Field.{+ᵣ-negated}
use Rattle.np_frac.proofs.laws.sums.Goals as goal

pub returns-clause-cross : goal.returns-clause-cross
returns-clause-cross c = sum_by_cross

pub returns-clause-commutes : goal.returns-clause-commutes
returns-clause-commutes c = +ᵣ_comm

pub returns-clause-associates : goal.returns-clause-associates
returns-clause-associates c = +ᵣ_assoc

pub returns-clause-zero : goal.returns-clause-zero
returns-clause-zero c = +ᵣ-zero

pub returns-clause-opposite : goal.returns-clause-opposite
returns-clause-opposite c = +ᵣ-negated
