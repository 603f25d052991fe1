use Rattle.convex_arcs.proofs.Filling.{fills_feasibly, costs_the_same, gathers_back, least_on_both_sides, least_plans_fill}
use Rattle.convex_arcs.proofs.Shown.{shown_on_both_sides}
use Rattle.convex_arcs.proofs.laws.filled_plans.Goals as goal

pub returns-clause-feasible : goal.returns-clause-feasible
returns-clause-feasible c = fills_feasibly

pub returns-clause-cost : goal.returns-clause-cost
returns-clause-cost c = costs_the_same

pub returns-clause-gathered : goal.returns-clause-gathered
returns-clause-gathered c = gathers_back

pub returns-clause-least : goal.returns-clause-least
returns-clause-least c = least_on_both_sides

pub returns-clause-shown : goal.returns-clause-shown
returns-clause-shown c = shown_on_both_sides

pub returns-clause-fills : goal.returns-clause-fills
returns-clause-fills c = least_plans_fill
