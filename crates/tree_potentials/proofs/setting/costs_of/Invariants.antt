use Rattle.std.proofs.Common.{◌≡◌, ◌++◌, drop}
use Rattle.np_model.specs.Basis.Graphs.{cost_at}
use Rattle.np_model.specs.Basis.Phases.{phase_net}
use Rattle.tree_potentials.specs.Along.{costs_in}
use Rattle.tree_potentials.proofs.setting.costs_of.Given as goal

abbrev pub invariant-loop-arc : goal.invariant-loop-arc
invariant-loop-arc l = l.costs.items ++ costs_in (cost_at (phase_net l.phase l.full).arcs) (drop l.arc-index l.basics) ≡ costs_in (cost_at (phase_net l.phase l.full).arcs) l.basics
