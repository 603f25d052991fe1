use Rattle.std.proofs.Common.{◌+◌, ◌∙◌, sym, arith, Ok, length, map}
use Rattle.std.proofs.lemmas.Result.{err_from_is_err_and}
use Rattle.std.specs.List.{enumerate_from}
use Rattle.np_frac.specs.Ratio.{zero_ratio}
use Rattle.np_frac.proofs.Folds.{run, run_stops, run_ends}
use Rattle.np_model.specs.Network.Arcs.{AreNodes}
use Rattle.cert_checker.specs.Walk.{add_supply, add_least}
use Rattle.cert_checker.specs.Steps.Arcs.{as_stage}
use Rattle.cert_checker.proofs.Pairs.{arc_here, arc_runs, length-stages}
use Rattle.cert_checker.proofs.gap.gap_of.Goals as goal

pub add_least-requires : goal.add_least-requires
add_least-requires c = arc_here c.args.arcs.now c.loop-i.i c.index-arcs-i.result c.loop-i-test.true c.index-arcs-i.is (λ arc. AreNodes (length c.args.prices.now) (as_stage arc).ends) c.requires.joined

pub loop-i-init : goal.loop-i-init
loop-i-init c = sym c.in_ok-running.was ∙ c.supply_worth.ensures

pub loop-i-preserved : goal.loop-i-preserved
loop-i-preserved c =
    sym c.in_ok-running-2.was ∙ arc_runs c.args.arcs.now c.loop-i.i c.index-arcs-i.result c.loop-i-test.true c.index-arcs-i.is (add_least c.args.prices.now) (run (add_supply c.args.supply.now) (Ok zero_ratio) (enumerate_from 0 c.args.prices.now)) c.loop-i.running c.add_least.result c.loop-i.invariant c.add_least.ensures

pub returns-in_err-running : goal.returns-in_err-running
returns-in_err-running c =
    let p = err_from_is_err_and c.from_residual.result c.from_residual.ensures.1 in
    rw (p.1, p.2) (run_stops (add_least c.args.prices.now) (run (add_supply c.args.supply.now) (Ok zero_ratio) (enumerate_from 0 c.args.prices.now)) (map as_stage c.args.arcs.now) 0 c.in_err-running.field-0.0 (sym c.in_err-running.was ∙ c.supply_worth.ensures))

pub returns-in_err-running-2 : goal.returns-in_err-running-2
returns-in_err-running-2 c =
    let p = err_from_is_err_and c.from_residual-in_err-running-2.result c.from_residual-in_err-running-2.ensures.1 in
    rw (p.1, p.2)
    (run_stops (add_least c.args.prices.now) (run (add_supply c.args.supply.now) (Ok zero_ratio) (enumerate_from 0 c.args.prices.now)) (map as_stage c.args.arcs.now) (c.loop-i.i + 1) c.in_err-running-2.field-0.0
    (sym c.in_err-running-2.was ∙ arc_runs c.args.arcs.now c.loop-i.i c.index-arcs-i.result c.loop-i-test.true c.index-arcs-i.is (add_least c.args.prices.now) (run (add_supply c.args.supply.now) (Ok zero_ratio) (enumerate_from 0 c.args.prices.now)) c.loop-i.running c.add_least.result c.loop-i.invariant c.add_least.ensures))

pub returns : goal.returns
returns c =
    run_ends (add_least c.args.prices.now) (run (add_supply c.args.supply.now) (Ok zero_ratio) (enumerate_from 0 c.args.prices.now)) (map as_stage c.args.arcs.now) c.loop-i.i c.loop-i.running (omega (arith, length-stages c.args.arcs.now, c.loop-i-test.false)) c.loop-i.invariant
