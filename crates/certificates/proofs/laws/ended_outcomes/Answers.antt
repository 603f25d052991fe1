use Rattle.certificates.proofs.Outcomes.{optimal_shows, infeasible_forbids, unbounded_falls, parts_fit, log_fits}
use Rattle.certificates.proofs.laws.ended_outcomes.Goals as goal

pub returns-clause-optimal : goal.returns-clause-optimal
returns-clause-optimal c = optimal_shows c.schemes.ensures.net c.expansions.ensures c.outcomes.ensures.optimal c.amounts.ensures.feasible c.filled_plans.ensures.shown

pub returns-clause-infeasible : goal.returns-clause-infeasible
returns-clause-infeasible c = infeasible_forbids c.schemes.ensures.net c.expansions.ensures c.outcomes.ensures.infeasible c.other_verdicts.ensures.forbidden

pub returns-clause-unbounded : goal.returns-clause-unbounded
returns-clause-unbounded c = unbounded_falls c.schemes.ensures.net c.expansions.ensures c.outcomes.ensures.unbounded c.other_verdicts.ensures.falls

pub returns-clause-parts : goal.returns-clause-parts
returns-clause-parts c = parts_fit c.schemes.ensures.net c.expansions.ensures c.parts.ensures

pub returns-clause-log : goal.returns-clause-log
returns-clause-log c = log_fits c.schemes.ensures.net c.expansions.ensures c.parts.ensures
