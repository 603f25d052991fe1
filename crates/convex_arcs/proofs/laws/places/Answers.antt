use Rattle.convex_arcs.proofs.Parallel.{stand, no_others}
use Rattle.convex_arcs.proofs.laws.places.Goals as goal

pub returns-clause-each : goal.returns-clause-each
returns-clause-each c = stand

pub returns-clause-no_others : goal.returns-clause-no_others
returns-clause-no_others c = no_others
