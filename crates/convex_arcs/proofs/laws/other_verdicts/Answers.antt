use Rattle.convex_arcs.proofs.Forbidden.{forbidden_on_both_sides}
use Rattle.convex_arcs.proofs.Falling.{falls_on_both_sides}
use Rattle.convex_arcs.proofs.laws.other_verdicts.Goals as goal

pub returns-clause-forbidden : goal.returns-clause-forbidden
returns-clause-forbidden c = forbidden_on_both_sides

pub returns-clause-falls : goal.returns-clause-falls
returns-clause-falls c = falls_on_both_sides
