use Rattle.std.proofs.Common.{arith, length}
use Rattle.std.proofs.lemmas.Result.{err_from_is_err_and}
use Rattle.np_model.specs.Network.Arcs.{AreNodes}
use Rattle.cert_checker.specs.Walk.{reduced_clause}
use Rattle.cert_checker.specs.Steps.Parts.{EndsFit}
use Rattle.cert_checker.specs.Steps.Arcs.{as_stage}
use Rattle.cert_checker.proofs.Pairs.{arc_here, stage_here, pairs_go_on, pairs_stop, pairs_end}
use Rattle.cert_checker.proofs.reduced.check_reduced.Goals as goal

pub check_arc-requires-clause-joined : goal.check_arc-requires-clause-joined
check_arc-requires-clause-joined c = arc_here c.args.arcs.now c.loop-i.i c.index-arcs-i.result c.loop-i-test.true c.index-arcs-i.is (λ arc. AreNodes (length c.args.prices.now) (as_stage arc).ends) c.requires.joined

pub check_arc-requires-clause-ends : goal.check_arc-requires-clause-ends
check_arc-requires-clause-ends c = stage_here c.args.arcs.now c.loop-i.i c.index-arcs-i.result c.loop-i-test.true c.index-arcs-i.is EndsFit c.requires.ends

pub loop-i-preserved : goal.loop-i-preserved
loop-i-preserved c =
    pairs_go_on c.args.arcs.now c.loop-i.i c.index-arcs-i.result c.loop-i-test.true c.index-arcs-i.is (reduced_clause c.args.prices.now) c.args.amounts.now c.index-amounts-i.result c.check_arc.result c.in_ok-check_arc.field-0 c.requires.long c.index-amounts-i.is c.loop-i.invariant c.check_arc.ensures c.in_ok-check_arc.was

pub returns-in_err-check_arc : goal.returns-in_err-check_arc
returns-in_err-check_arc c =
    let p = err_from_is_err_and c.from_residual.result c.from_residual.ensures.1 in
    rw (p.1, p.2) (pairs_stop c.args.arcs.now c.loop-i.i c.index-arcs-i.result c.loop-i-test.true c.index-arcs-i.is (reduced_clause c.args.prices.now) c.args.amounts.now c.index-amounts-i.result c.check_arc.result c.in_err-check_arc.field-0.0 c.requires.long c.index-amounts-i.is c.loop-i.invariant c.check_arc.ensures c.in_err-check_arc.was)

pub returns : goal.returns
returns c = pairs_end (reduced_clause c.args.prices.now) c.args.arcs.now c.args.amounts.now c.loop-i.i c.requires.long (omega arith) c.loop-i.invariant
