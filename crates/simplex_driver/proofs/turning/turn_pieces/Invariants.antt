use Rattle.std.proofs.Common.{◌≡◌, length}
use Rattle.np_model.specs.Basis.Phases.{phase_net}
use Rattle.np_model.specs.declared.phase.Phase.TheVariants.{Two}
use Rattle.simplex_driver.proofs.Turned.{IsTurnedTo}
use Rattle.simplex_driver.proofs.turning.turn_pieces.Given as goal

abbrev pub invariant-loop-node : goal.invariant-loop-node
invariant-loop-node l = record {
  long : length l.table ≡ length l.initial.table;
  turned : IsTurnedTo (phase_net Two l.full) l.initial.slots l.node l.slots l.table;
}
