use Rattle.demo_network.proofs.Feasible.{has_plan}
use Rattle.demo_network.proofs.NoRay.{falls_nowhere}
use Rattle.demo_network.proofs.laws.demo_has_plans.Goals as goal

pub returns-clause-plan : goal.returns-clause-plan
returns-clause-plan c = has_plan

pub returns-clause-not_forbidden : goal.returns-clause-not_forbidden
returns-clause-not_forbidden c = λ n scheme demo p forbids. let plan = has_plan n scheme demo in c.infeasible_by_prices.ensures scheme p forbids plan.0 plan.1

pub returns-clause-falls_nowhere : goal.returns-clause-falls_nowhere
returns-clause-falls_nowhere c = falls_nowhere
