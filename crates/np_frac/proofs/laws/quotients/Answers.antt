use Rattle.np_frac.proofs.Facts.{quotient_times}
use Rattle.np_frac.proofs.Field.{one-zero, *ᵣ-inverse}
use Rattle.np_frac.proofs.laws.quotients.Goals as goal

pub returns-clause-apart : goal.returns-clause-apart
returns-clause-apart c = one-zero

pub returns-clause-inverse : goal.returns-clause-inverse
returns-clause-inverse c = *ᵣ-inverse

pub returns-clause-quotient : goal.returns-clause-quotient
returns-clause-quotient c = quotient_times
