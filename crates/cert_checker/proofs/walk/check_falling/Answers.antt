use Rattle.std.proofs.Common.{◌≡◌, ◌∙◌, List, Err, subst}
use Rattle.std.proofs.lemmas.Result.{err_from_is_err_and}
use Rattle.std.specs.Prelude.{map}
use Rattle.std.specs.List.{zip, enumerate_from}
use Rattle.np_frac.specs.Ratio.{Ratio, zero_ratio}
use Rattle.np_model.specs.declared.rows.CheckRow.TheVariants.{C6}
use Rattle.cert_checker.specs.declared.answer.Clause.TheVariants.{RayBalance}
use Rattle.cert_checker.specs.Walk.{ray_clause, node_clause, with_stage_ends, first_refusal, goes_on_unless, UnlessMemory}
use Rattle.cert_checker.specs.Steps.Arcs.{as_stage}
use Rattle.cert_checker.proofs.First.{as_meant, accepted_ok, first_part, next_part, part_holds}
use Rattle.cert_checker.proofs.walk.check_falling.Goals as goal

pub returns-in_err-check_balance : goal.returns-in_err-check_balance
returns-in_err-check_balance c =
    let p = err_from_is_err_and c.from_residual-in_err-check_balance.result c.from_residual-in_err-check_balance.ensures.1 in
    let zeros : c.deref.result.now ≡ map (λ amount. zero_ratio) c.args.supply.now = c.deref.ensures.value ∙ c.in_ok-wanted.ensures in
    let pairs = zip (map as_stage c.args.arcs.now) c.args.ray.now in
    let flows = with_stage_ends (map as_stage c.args.arcs.now) c.args.ray.now in
    let balanced = subst (λ (wanted : List Ratio). UnlessMemory c.check_balance.result (goes_on_unless (first_refusal (node_clause C6 RayBalance c.args.nodes flows) (enumerate_from 0 wanted)))) zeros c.check_balance.ensures in
    let signed = accepted_ok (first_refusal ray_clause pairs) c.in_ok-check_rays.field-0 c.check_rays.result c.check_rays.ensures c.in_ok-check_rays.was in
    rw (p.1, p.2) (next_part _ _ (Err c.in_err-check_balance.field-0.0) signed (first_part _ _ c.in_err-check_balance.field-0.0 c.check_balance.result balanced c.in_err-check_balance.was))

pub returns : goal.returns
returns c =
    let zeros : c.deref.result.now ≡ map (λ amount. zero_ratio) c.args.supply.now = c.deref.ensures.value ∙ c.in_ok-wanted.ensures in
    let pairs = zip (map as_stage c.args.arcs.now) c.args.ray.now in
    let flows = with_stage_ends (map as_stage c.args.arcs.now) c.args.ray.now in
    let balanced = subst (λ (wanted : List Ratio). UnlessMemory c.check_balance.result (goes_on_unless (first_refusal (node_clause C6 RayBalance c.args.nodes flows) (enumerate_from 0 wanted)))) zeros c.check_balance.ensures in
    let signed = accepted_ok (first_refusal ray_clause pairs) c.in_ok-check_rays.field-0 c.check_rays.result c.check_rays.ensures c.in_ok-check_rays.was in
    next_part _ _ c.check_ray_cost.result signed
    (next_part _ _ c.check_ray_cost.result (part_holds _ c.in_ok-check_balance.field-0 c.check_balance.result balanced c.in_ok-check_balance.was)
    (as_meant c.check_ray_cost.result _ c.check_ray_cost.ensures))
