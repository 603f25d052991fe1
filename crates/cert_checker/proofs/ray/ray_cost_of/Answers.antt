use Rattle.std.proofs.Common.{◌+◌, ◌∙◌, sym, arith, Ok}
use Rattle.std.proofs.lemmas.Result.{err_from_is_err_and}
use Rattle.np_frac.specs.Ratio.{zero_ratio}
use Rattle.np_frac.proofs.Folds.{run_stops, run_ends}
use Rattle.cert_checker.specs.Walk.{add_ray_cost}
use Rattle.cert_checker.proofs.Pairs.{pairs_of, length-pairs, pair_runs}
use Rattle.cert_checker.proofs.ray.ray_cost_of.Goals as goal

pub loop-i-preserved : goal.loop-i-preserved
loop-i-preserved c =
    sym c.in_ok-running.was ∙ pair_runs c.args.arcs.now c.loop-i.i c.index-arcs-i.result c.loop-i-test.true c.index-arcs-i.is add_ray_cost (Ok zero_ratio) c.args.ray.now c.index-ray-i.result c.loop-i.running c.add_ray_cost.result c.requires c.index-ray-i.is c.loop-i.invariant c.add_ray_cost.ensures

pub returns-in_err-running : goal.returns-in_err-running
returns-in_err-running c =
    let p = err_from_is_err_and c.from_residual.result c.from_residual.ensures.1 in
    rw (p.1, p.2)
    (run_stops add_ray_cost (Ok zero_ratio) (pairs_of c.args.arcs.now c.args.ray.now) (c.loop-i.i + 1) c.in_err-running.field-0.0
    (sym c.in_err-running.was ∙ pair_runs c.args.arcs.now c.loop-i.i c.index-arcs-i.result c.loop-i-test.true c.index-arcs-i.is add_ray_cost (Ok zero_ratio) c.args.ray.now c.index-ray-i.result c.loop-i.running c.add_ray_cost.result c.requires c.index-ray-i.is c.loop-i.invariant c.add_ray_cost.ensures))

pub returns : goal.returns
returns c =
    run_ends add_ray_cost (Ok zero_ratio) (pairs_of c.args.arcs.now c.args.ray.now) c.loop-i.i c.loop-i.running (omega (arith, length-pairs c.args.arcs.now c.args.ray.now c.requires, c.loop-i-test.false)) c.loop-i.invariant
