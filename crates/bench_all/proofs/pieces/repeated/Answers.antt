use Rattle.np_model.specs.declared.phase.Phase.TheVariants.{Two}
use Rattle.np_model.specs.Basis.Phases.{phase_net}
use Rattle.bench_all.proofs.Nets.{still_in_net}
use Rattle.bench_all.proofs.pieces.repeated.Goals as goal

pub loop-preserved : goal.loop-preserved
loop-preserved c =
    still_in_net (phase_net Two c.args.full.now) c.loop.piece.lists c.potentials.new.piece.lists c.in_ok-potentials.ensures.nodes c.in_ok-potentials.ensures.basics
    c.in_ok-potentials.ensures.marks c.loop.invariant
