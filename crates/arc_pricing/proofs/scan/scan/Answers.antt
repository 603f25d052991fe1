use Rattle.std.proofs.Common.{arith}
use Rattle.np_model.specs.Basis.Phases.{phase_net, real_arcs}
use Rattle.arc_pricing.specs.Prices.{is_eligible}
use Rattle.arc_pricing.specs.Candidates.{values_by}
use Rattle.arc_pricing.proofs.Order.{one_more, one_fits, here_first}
use Rattle.arc_pricing.proofs.scan.scan.Goals as goal

pub returns-in-Err-clause-cause : goal.returns-in-Err-clause-cause
returns-in-Err-clause-cause c =
    here_first (phase_net c.args.phase c.args.full.now) (real_arcs c.args.full.now) (values_by c.args.marks.now c.args.potentials.now) c.args.start c.loop-arc.arc c.args.end c.in-Err.overflow (omega arith) (omega arith)
    c.loop-arc.invariant.fit c.in-Err.ensures

pub loop-arc-preserved : goal.loop-arc-preserved
loop-arc-preserved c =
    let net = phase_net c.args.phase c.args.full.now in
    let s = values_by c.args.marks.now c.args.potentials.now in
    record {
      listed = one_more (is_eligible net (real_arcs c.args.full.now) s) c.args.start c.loop-arc.arc c.args.found.now.items c.loop-arc.found.items c.keep.new.found.items c.in-Ok.enters (omega arith) c.in-Ok.ensures.0 c.loop-arc.invariant.listed c.in_ok-keep-in-Ok.ensures;
      fit = one_fits net (real_arcs c.args.full.now) s c.args.start c.loop-arc.arc c.loop-arc.invariant.fit c.in-Ok.ensures.1;
    }
