use Rattle.cert_checker.proofs.Verdicts as theorems
use Rattle.cert_checker.proofs.laws.walk_accepts.Goals as goal

pub returns-clause-optimal : goal.returns-clause-optimal
returns-clause-optimal c = theorems.accepts_optimal

pub returns-clause-infeasible : goal.returns-clause-infeasible
returns-clause-infeasible c = theorems.accepts_infeasible

pub returns-clause-unbounded : goal.returns-clause-unbounded
returns-clause-unbounded c = theorems.accepts_unbounded
