use Rattle.std.proofs.Common.{arith}
use Rattle.std.proofs.lemmas.Result.{err_from_is_err_and}
use Rattle.cert_checker.specs.Walk.{ray_clause}
use Rattle.cert_checker.proofs.Pairs.{pairs_go_on, pairs_stop, pairs_end}
use Rattle.cert_checker.proofs.ray.check_rays.Goals as goal

pub loop-i-preserved : goal.loop-i-preserved
loop-i-preserved c =
    pairs_go_on c.args.arcs.now c.loop-i.i c.index-arcs-i.result c.loop-i-test.true c.index-arcs-i.is ray_clause c.args.ray.now c.index-ray-i.result c.check_ray.result c.in_ok-check_ray.field-0 c.requires c.index-ray-i.is c.loop-i.invariant c.check_ray.ensures c.in_ok-check_ray.was

pub returns-in_err-check_ray : goal.returns-in_err-check_ray
returns-in_err-check_ray c =
    let p = err_from_is_err_and c.from_residual.result c.from_residual.ensures.1 in
    rw (p.1, p.2) (pairs_stop c.args.arcs.now c.loop-i.i c.index-arcs-i.result c.loop-i-test.true c.index-arcs-i.is ray_clause c.args.ray.now c.index-ray-i.result c.check_ray.result c.in_err-check_ray.field-0.0 c.requires c.index-ray-i.is c.loop-i.invariant c.check_ray.ensures c.in_err-check_ray.was)

pub returns : goal.returns
returns c = pairs_end ray_clause c.args.arcs.now c.args.ray.now c.loop-i.i c.requires (omega arith) c.loop-i.invariant
