use Rattle.std.proofs.Common.{rules}
use Rattle.np_model.specs.Basis.Phases.{phase_net, real_arcs}
use Rattle.simplex_driver.specs.Store.{state_of}
use Rattle.simplex_driver.proofs.Pricing.{listed_by, part_is}
use Rattle.simplex_driver.proofs.forest.Forest.listed.Goals as goal

pub returns : goal.returns
returns g c = listed_by (phase_net c.args.phase c.args.full.now) (real_arcs c.args.full.now) (state_of c.args.self.now) c.first_marks-marks.result.now c.deref-2.result.now
    (part_is c.first_marks-marks.result.now c.deref.result.now c.args.self.now.marks.items c.len.result (real_arcs c.args.full.now) c.first_marks-marks.ensures c.deref.ensures.value (search rules)) c.deref-2.ensures.value
    c.cyclic_order.ensures c.args.from c.candidates.result c.candidates.ensures.answer c.candidates.ensures.all
