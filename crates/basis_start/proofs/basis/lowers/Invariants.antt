use Rattle.std.proofs.Common.{◌≡◌, map, take}
use Rattle.basis_start.proofs.basis.lowers.Given as goal

abbrev pub invariant-loop-arc : goal.invariant-loop-arc
invariant-loop-arc l = l.flows.items ≡ map (λ arc. arc.lower) (take l.arc-index l.arcs)
