use Rattle.std.proofs.Common.{◌≡◌, take}
use Rattle.convex_arcs.specs.Segments.{flat_arcs}
use Rattle.convex_arcs.proofs.flat.flatten.Given as goal

abbrev pub invariant-loop-staged : goal.invariant-loop-staged
invariant-loop-staged l = l.arcs.items ≡ flat_arcs (take l.staged-index l.staged-items)
