use Rattle.std.proofs.Common.{◌+◌, ◌∙◌, sym, arith, Ok}
use Rattle.std.proofs.lemmas.Result.{err_from_is_err_and}
use Rattle.std.specs.List.{enumerate_from}
use Rattle.std.proofs.lemmas.List.FromFn.{length-enumerate_from}
use Rattle.np_frac.specs.Ratio.{zero_ratio}
use Rattle.np_frac.proofs.Folds.{runs_on, run_stops, run_ends}
use Rattle.cert_checker.specs.Walk.{add_supply}
use Rattle.cert_checker.proofs.Balances.{numbered_at}
use Rattle.cert_checker.proofs.gap.supply_worth.Goals as goal

pub loop-node-preserved : goal.loop-node-preserved
loop-node-preserved c =
    sym c.in_ok-running.was
    ∙ runs_on (add_supply c.args.supply.now) (Ok zero_ratio) (enumerate_from 0 c.args.prices.now) c.loop-node.node (c.loop-node.node, c.index-prices-node.result) c.loop-node.running c.add_supply.result
    (omega (arith, length-enumerate_from 0 c.args.prices.now, c.loop-node-test.true)) (numbered_at c.args.prices.now c.loop-node.node c.index-prices-node.result c.loop-node-test.true c.index-prices-node.is)
    c.loop-node.invariant c.add_supply.ensures

pub returns-in_err-running : goal.returns-in_err-running
returns-in_err-running c =
    let p = err_from_is_err_and c.from_residual.result c.from_residual.ensures.1 in
    rw (p.1, p.2)
    (run_stops (add_supply c.args.supply.now) (Ok zero_ratio) (enumerate_from 0 c.args.prices.now) (c.loop-node.node + 1) c.in_err-running.field-0.0
    (sym c.in_err-running.was
    ∙ runs_on (add_supply c.args.supply.now) (Ok zero_ratio) (enumerate_from 0 c.args.prices.now) c.loop-node.node (c.loop-node.node, c.index-prices-node.result) c.loop-node.running c.add_supply.result
    (omega (arith, length-enumerate_from 0 c.args.prices.now, c.loop-node-test.true)) (numbered_at c.args.prices.now c.loop-node.node c.index-prices-node.result c.loop-node-test.true c.index-prices-node.is)
    c.loop-node.invariant c.add_supply.ensures))

pub returns : goal.returns
returns c = run_ends (add_supply c.args.supply.now) (Ok zero_ratio) (enumerate_from 0 c.args.prices.now) c.loop-node.node c.loop-node.running (omega (arith, length-enumerate_from 0 c.args.prices.now, c.loop-node-test.false)) c.loop-node.invariant
