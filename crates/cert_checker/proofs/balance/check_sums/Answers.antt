use Rattle.std.proofs.Common.{◌<◌, length, arith}
use Rattle.std.proofs.lemmas.Result.{err_from_is_err_and}
use Rattle.std.specs.List.{zip, enumerate_from}
use Rattle.cert_checker.specs.Steps.Parts.{sum_clause}
use Rattle.cert_checker.proofs.First.{goes_on, stops, finds_none}
use Rattle.cert_checker.proofs.Balances.{sum_at, length-sums}
use Rattle.cert_checker.proofs.balance.check_sums.Goals as goal

pub loop-node-preserved : goal.loop-node-preserved
loop-node-preserved c =
    let all = enumerate_from 0 (zip c.args.wanted.now c.args.sums.now) in
    let here : c.loop-node.node < length all = omega (arith, length-sums c.args.wanted.now c.args.sums.now c.requires.each) in
    goes_on (sum_clause c.args.by.row c.args.by.clause c.args.by.nodes) all c.loop-node.node (c.loop-node.node, (c.index-wanted-node.result, c.index-sums-node.result)) c.check_sum.result c.in_ok-check_sum.field-0 here
    (sum_at c.args.wanted.now c.args.sums.now c.loop-node.node c.index-wanted-node.result c.index-sums-node.result c.requires.each c.loop-node-test.true c.index-wanted-node.is c.index-sums-node.is)
    c.loop-node.invariant c.check_sum.ensures c.in_ok-check_sum.was

pub returns-in_err-check_sum : goal.returns-in_err-check_sum
returns-in_err-check_sum c =
    let p = err_from_is_err_and c.from_residual.result c.from_residual.ensures.1 in
    let all = enumerate_from 0 (zip c.args.wanted.now c.args.sums.now) in
    let here : c.loop-node.node < length all = omega (arith, length-sums c.args.wanted.now c.args.sums.now c.requires.each) in
    rw (p.1, p.2)
    (stops (sum_clause c.args.by.row c.args.by.clause c.args.by.nodes) all c.loop-node.node (c.loop-node.node, (c.index-wanted-node.result, c.index-sums-node.result)) c.check_sum.result c.in_err-check_sum.field-0.0 here
    (sum_at c.args.wanted.now c.args.sums.now c.loop-node.node c.index-wanted-node.result c.index-sums-node.result c.requires.each c.loop-node-test.true c.index-wanted-node.is c.index-sums-node.is)
    c.loop-node.invariant c.check_sum.ensures c.in_err-check_sum.was)

pub returns : goal.returns
returns c =
    finds_none (sum_clause c.args.by.row c.args.by.clause c.args.by.nodes) (enumerate_from 0 (zip c.args.wanted.now c.args.sums.now)) c.loop-node.node
    (omega (arith, length-sums c.args.wanted.now c.args.sums.now c.requires.each)) c.loop-node.invariant
