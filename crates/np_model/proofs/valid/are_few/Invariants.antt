use Rattle.std.proofs.Common.{◌≡◌, ◌≤◌, take}
use Rattle.np_model.specs.Scheme.Valid.{expanded_arcs}
use Rattle.np_model.proofs.valid.are_few.Given as goal

abbrev pub invariant-loop-i : goal.invariant-loop-i
invariant-loop-i l = (l.arcs ≡ expanded_arcs l.periods (take l.i l.flows)) × (l.arcs ≤ 100000)
