use Rattle.netplan_top.proofs.AcceptedFacts.{optimal_accepted, infeasible_accepted, unbounded_accepted}
use Rattle.netplan_top.proofs.laws.solved_plans_are_accepted.Goals as goal

pub returns-clause-optimal : goal.returns-clause-optimal
returns-clause-optimal c =
    optimal_accepted c.written_schemes_are_read.ensures.followed c.written_schemes_are_read.ensures.bytes c.written_plans_are_read.ensures.full c.written_plans_are_read.ensures.read

pub returns-clause-infeasible : goal.returns-clause-infeasible
returns-clause-infeasible c =
    infeasible_accepted c.written_schemes_are_read.ensures.followed c.written_schemes_are_read.ensures.bytes c.written_plans_are_read.ensures.full c.written_plans_are_read.ensures.read

pub returns-clause-unbounded : goal.returns-clause-unbounded
returns-clause-unbounded c =
    unbounded_accepted c.written_schemes_are_read.ensures.followed c.written_schemes_are_read.ensures.bytes c.written_plans_are_read.ensures.full c.written_plans_are_read.ensures.read
