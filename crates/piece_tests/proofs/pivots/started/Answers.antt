use Rattle.std.proofs.Common.{subst}
use Rattle.np_model.specs.Basis.Phases.{network_of}
use Rattle.basis_start.specs.Start.{IsAnswer}
use Rattle.piece_tests.proofs.Started.{start_of_two}
use Rattle.piece_tests.proofs.pivots.started.Goals as goal

pub returns-in_ok-second-in-Ok : goal.returns-in_ok-second-in-Ok
returns-in_ok-second-in-Ok c =
    start_of_two c.starts.ensures.pieces (network_of c.args.net.now) c.in-Ok.basis c.in_ok-first-in-Ok.first.lists c.in_ok-second-in-Ok.second.lists c.requires
    (subst (IsAnswer (network_of c.args.net.now)) c.in-Ok.is c.start.ensures) c.supply_of-left.ensures.fits c.supply_of-right.ensures.fits c.in_ok-first-in-Ok.ensures c.in_ok-second-in-Ok.ensures
