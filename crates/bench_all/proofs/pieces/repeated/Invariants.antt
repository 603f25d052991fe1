use Rattle.np_model.specs.declared.phase.Phase.TheVariants.{Two}
use Rattle.np_model.specs.Basis.Phases.{phase_net}
use Rattle.np_model.specs.Basis.Sound.{IsInNet}
use Rattle.bench_all.proofs.pieces.repeated.Given as goal

abbrev pub invariant-loop : goal.invariant-loop
invariant-loop l = IsInNet (phase_net Two l.full) l.piece.lists
