use Rattle.std.proofs.Common.{arith}
use Rattle.std.proofs.lemmas.Result.{err_from_is_err_and}
use Rattle.cert_checker.specs.Walk.{bound_clause}
use Rattle.cert_checker.proofs.Pairs.{pairs_go_on, pairs_stop, pairs_end}
use Rattle.cert_checker.proofs.bound.check_bounds.Goals as goal

pub loop-i-preserved : goal.loop-i-preserved
loop-i-preserved c =
    pairs_go_on c.args.arcs.now c.loop-i.i c.index-arcs-i.result c.loop-i-test.true c.index-arcs-i.is bound_clause c.args.amounts.now c.index-amounts-i.result c.check_bound.result c.in_ok-check_bound.field-0 c.requires c.index-amounts-i.is c.loop-i.invariant c.check_bound.ensures c.in_ok-check_bound.was

pub returns-in_err-check_bound : goal.returns-in_err-check_bound
returns-in_err-check_bound c =
    let p = err_from_is_err_and c.from_residual.result c.from_residual.ensures.1 in
    rw (p.1, p.2) (pairs_stop c.args.arcs.now c.loop-i.i c.index-arcs-i.result c.loop-i-test.true c.index-arcs-i.is bound_clause c.args.amounts.now c.index-amounts-i.result c.check_bound.result c.in_err-check_bound.field-0.0 c.requires c.index-amounts-i.is c.loop-i.invariant c.check_bound.ensures c.in_err-check_bound.was)

pub returns : goal.returns
returns c = pairs_end bound_clause c.args.arcs.now c.args.amounts.now c.loop-i.i c.requires (omega arith) c.loop-i.invariant
