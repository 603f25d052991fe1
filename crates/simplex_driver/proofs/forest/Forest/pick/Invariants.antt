use Rattle.std.proofs.Common.{ℕ, ◌<◌}
use Rattle.std.specs.Prelude.{slice_index_or}
use Rattle.np_model.specs.declared.rows.Overflow.{Overflow}
use Rattle.np_model.specs.Basis.Phases.{phase_net, real_arcs}
use Rattle.np_model.specs.Basis.States.{values_of}
use Rattle.np_runs.specs.Ended.{AttemptOverflows}
use Rattle.simplex_driver.specs.Store.{state_of}
use Rattle.simplex_driver.proofs.Trying.{HasFound}
use Rattle.simplex_driver.proofs.forest.Forest.pick.Given as goal

abbrev pub invariant-loop-arc : goal.invariant-loop-arc
invariant-loop-arc l = record {
  before : (k : ℕ) → k < l.arc-index → (overflow : Overflow) × AttemptOverflows (phase_net l.phase l.full) (real_arcs l.full) (values_of (state_of l.self)) (slice_index_or l.list k 0) overflow;
  found : HasFound (phase_net l.phase l.full) (real_arcs l.full) (state_of l.self) l.list l.arc-index l.found;
}
