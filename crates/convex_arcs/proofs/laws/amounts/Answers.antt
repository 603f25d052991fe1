use Rattle.convex_arcs.proofs.Exactly.{is_exact, by_place, balances}
use Rattle.convex_arcs.proofs.Bounds.{are_feasible}
use Rattle.convex_arcs.proofs.Costs.{cost_no_more}
use Rattle.convex_arcs.proofs.laws.amounts.Goals as goal

pub returns-clause-exact : goal.returns-clause-exact
returns-clause-exact c = is_exact

pub returns-clause-by_place : goal.returns-clause-by_place
returns-clause-by_place c = by_place

pub returns-clause-balance : goal.returns-clause-balance
returns-clause-balance c = balances

pub returns-clause-feasible : goal.returns-clause-feasible
returns-clause-feasible c = are_feasible

pub returns-clause-cost : goal.returns-clause-cost
returns-clause-cost c = cost_no_more
