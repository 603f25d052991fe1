use Rattle.np_model.specs.Scheme.Plans.{staged}
use Rattle.convex_arcs.proofs.Filling.{costs_the_same, least_on_both_sides, least_plans_fill}
use Rattle.convex_arcs.proofs.Parallel.{is_net}
use Rattle.convex_arcs.proofs.laws.schemes.Goals as goal

pub returns-clause-net : goal.returns-clause-net
returns-clause-net c = λ scheme. is_net scheme.supply (staged scheme) (c.expansions.ensures scheme)

pub returns-clause-gathers : goal.returns-clause-gathers
returns-clause-gathers c = λ scheme flows h. least_on_both_sides scheme.supply (staged scheme) flows (c.expansions.ensures scheme) h

pub returns-clause-fills : goal.returns-clause-fills
returns-clause-fills c = λ scheme x h. (
  least_plans_fill scheme.supply (staged scheme) x (c.expansions.ensures scheme) h,
  costs_the_same scheme.supply (staged scheme) x (c.expansions.ensures scheme) h.feasible,
)
