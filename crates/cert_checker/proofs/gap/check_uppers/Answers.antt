use Rattle.std.proofs.Common.{arith, length}
use Rattle.std.proofs.lemmas.Result.{err_from_is_err_and}
use Rattle.np_model.specs.Network.Arcs.{AreNodes}
use Rattle.cert_checker.specs.Walk.{upper_clause}
use Rattle.cert_checker.specs.Steps.Arcs.{as_stage}
use Rattle.cert_checker.proofs.Pairs.{arc_here, arcs_go_on, arcs_stop, arcs_end}
use Rattle.cert_checker.proofs.gap.check_uppers.Goals as goal

pub check_upper-requires : goal.check_upper-requires
check_upper-requires c = arc_here c.args.arcs.now c.loop-i.i c.index-arcs-i.result c.loop-i-test.true c.index-arcs-i.is (λ arc. AreNodes (length c.args.prices.now) (as_stage arc).ends) c.requires

pub loop-i-preserved : goal.loop-i-preserved
loop-i-preserved c = arcs_go_on c.args.arcs.now c.loop-i.i c.index-arcs-i.result c.loop-i-test.true c.index-arcs-i.is (upper_clause c.args.prices.now) c.check_upper.result c.in_ok-check_upper.field-0 c.loop-i.invariant c.check_upper.ensures c.in_ok-check_upper.was

pub returns-in_err-check_upper : goal.returns-in_err-check_upper
returns-in_err-check_upper c =
    let p = err_from_is_err_and c.from_residual.result c.from_residual.ensures.1 in
    rw (p.1, p.2) (arcs_stop c.args.arcs.now c.loop-i.i c.index-arcs-i.result c.loop-i-test.true c.index-arcs-i.is (upper_clause c.args.prices.now) c.check_upper.result c.in_err-check_upper.field-0.0 c.loop-i.invariant c.check_upper.ensures c.in_err-check_upper.was)

pub returns : goal.returns
returns c = arcs_end (upper_clause c.args.prices.now) c.args.arcs.now c.loop-i.i (omega arith) c.loop-i.invariant
