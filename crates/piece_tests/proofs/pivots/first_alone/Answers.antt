use Rattle.np_model.specs.declared.phase.Phase.TheVariants.{One}
use Rattle.np_model.specs.Basis.Phases.{phase_net}
use Rattle.piece_tests.proofs.Started as fixtures
use Rattle.piece_tests.proofs.pivots.first_alone.Goals as goal

pub returns : goal.returns
returns c = fixtures.first_alone (phase_net One c.args.begun.full) c.args.begun.first.lists c.args.begun.second.lists c.requires
