use Rattle.std.proofs.Common.{◌≡◌, map, take}
use Rattle.np_model.specs.Basis.Graphs.{arc_at}
use Rattle.np_model.specs.Basis.Phases.{phase_net}
use Rattle.np_model.specs.Basis.Sound.{bound_at}
use Rattle.simplex_driver.specs.Store.{written}
use Rattle.simplex_driver.proofs.rounds.write_bounds.Given as goal

abbrev pub invariant-loop-arc : goal.invariant-loop-arc
invariant-loop-arc l = l.flows ≡ written (map (λ m. (m.0, bound_at (arc_at (phase_net l.phase l.full).arcs m.0) m.1)) (take l.arc-index l.arc-items)) l.initial.flows
