use Rattle.std.proofs.Common.{◌+◌, ◌∙◌, sym, arith, Ok}
use Rattle.std.proofs.lemmas.Result.{err_from_is_err_and}
use Rattle.np_frac.specs.Ratio.{zero_ratio}
use Rattle.np_frac.proofs.Folds.{run_stops, run_ends}
use Rattle.cert_checker.specs.Walk.{add_cost}
use Rattle.cert_checker.specs.Steps.Parts.{EndsFit}
use Rattle.cert_checker.proofs.Pairs.{pairs_of, length-pairs, pair_runs, stage_here}
use Rattle.cert_checker.proofs.cost.cost_of.Goals as goal

pub add_cost-requires : goal.add_cost-requires
add_cost-requires c = stage_here c.args.arcs.now c.loop-i.i c.index-arcs-i.result c.loop-i-test.true c.index-arcs-i.is EndsFit c.requires.ends

pub loop-i-preserved : goal.loop-i-preserved
loop-i-preserved c =
    sym c.in_ok-running.was ∙ pair_runs c.args.arcs.now c.loop-i.i c.index-arcs-i.result c.loop-i-test.true c.index-arcs-i.is add_cost (Ok zero_ratio) c.args.amounts.now c.index-amounts-i.result c.loop-i.running c.add_cost.result c.requires.long c.index-amounts-i.is c.loop-i.invariant c.add_cost.ensures

pub returns-in_err-running : goal.returns-in_err-running
returns-in_err-running c =
    let p = err_from_is_err_and c.from_residual.result c.from_residual.ensures.1 in
    rw (p.1, p.2)
    (run_stops add_cost (Ok zero_ratio) (pairs_of c.args.arcs.now c.args.amounts.now) (c.loop-i.i + 1) c.in_err-running.field-0.0
    (sym c.in_err-running.was ∙ pair_runs c.args.arcs.now c.loop-i.i c.index-arcs-i.result c.loop-i-test.true c.index-arcs-i.is add_cost (Ok zero_ratio) c.args.amounts.now c.index-amounts-i.result c.loop-i.running c.add_cost.result c.requires.long c.index-amounts-i.is c.loop-i.invariant c.add_cost.ensures))

pub returns : goal.returns
returns c =
    run_ends add_cost (Ok zero_ratio) (pairs_of c.args.arcs.now c.args.amounts.now) c.loop-i.i c.loop-i.running (omega (arith, length-pairs c.args.arcs.now c.args.amounts.now c.requires.long, c.loop-i-test.false)) c.loop-i.invariant
