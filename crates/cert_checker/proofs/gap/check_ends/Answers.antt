use Rattle.std.proofs.Common.{arith}
use Rattle.std.proofs.lemmas.Result.{err_from_is_err_and}
use Rattle.cert_checker.specs.Walk.{end_clause}
use Rattle.cert_checker.proofs.Pairs.{arcs_go_on, arcs_stop, arcs_end}
use Rattle.cert_checker.proofs.gap.check_ends.Goals as goal

pub loop-i-preserved : goal.loop-i-preserved
loop-i-preserved c = arcs_go_on c.args.arcs.now c.loop-i.i c.index-arcs-i.result c.loop-i-test.true c.index-arcs-i.is end_clause c.check_end.result c.in_ok-check_end.field-0 c.loop-i.invariant c.check_end.ensures c.in_ok-check_end.was

pub returns-in_err-check_end : goal.returns-in_err-check_end
returns-in_err-check_end c =
    let p = err_from_is_err_and c.from_residual.result c.from_residual.ensures.1 in
    rw (p.1, p.2) (arcs_stop c.args.arcs.now c.loop-i.i c.index-arcs-i.result c.loop-i-test.true c.index-arcs-i.is end_clause c.check_end.result c.in_err-check_end.field-0.0 c.loop-i.invariant c.check_end.ensures c.in_err-check_end.was)

pub returns : goal.returns
returns c = arcs_end end_clause c.args.arcs.now c.loop-i.i (omega arith) c.loop-i.invariant
