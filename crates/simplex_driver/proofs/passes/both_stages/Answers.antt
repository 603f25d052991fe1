use Rattle.std.proofs.Common.{rules}
use Rattle.np_model.specs.Basis.Phases.{network_of}
use Rattle.simplex_driver.proofs.Driving as driving
use Rattle.simplex_driver.proofs.passes.both_stages.Goals as goal

pub gone_slot-requires : goal.gone_slot-requires
gone_slot-requires c =
    driving.opened c.in-Ok.start.full c.in_ok-forest-in-Ok.forest c.started.ensures
    (driving.supplies_fit (network_of c.args.net.now) (network_of c.in-Ok.start.full.net) c.as_slice.result.now c.in-Ok.ensures.same (search rules) c.read_values.ensures)
    (driving.good_start c.in-Ok.start.full (network_of c.args.net.now) c.in-Ok.ensures.same c.in-Ok.ensures.start.artificial_are c.in-Ok.ensures.start.residuals_fit)
    c.in_ok-forest-in-Ok.ensures.state c.in_ok-forest-in-Ok.ensures.kept

pub lost_node-requires-clause-goes : goal.lost_node-requires-clause-goes
lost_node-requires-clause-goes c =
    driving.opened c.in-Ok.start.full c.in_ok-other-in-Ok.other c.started.ensures
    (driving.supplies_fit (network_of c.args.net.now) (network_of c.in-Ok.start.full.net) c.as_slice.result.now c.in-Ok.ensures.same (search rules) c.read_values.ensures)
    (driving.good_start c.in-Ok.start.full (network_of c.args.net.now) c.in-Ok.ensures.same c.in-Ok.ensures.start.artificial_are c.in-Ok.ensures.start.residuals_fit)
    c.in_ok-other-in-Ok.ensures.state c.in_ok-other-in-Ok.ensures.kept
