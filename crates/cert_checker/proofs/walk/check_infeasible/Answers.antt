use Rattle.std.proofs.Common.{refl, ◌∙◌, Ok, ap, unwrap_or, length}
use Rattle.std.proofs.lemmas.Result.{err_from_is_err_and}
use Rattle.np_frac.specs.Ratio.{Ratio}
use Rattle.np_model.specs.Scheme.Plans.{staged}
use Rattle.cert_checker.specs.Walk.{walk, claimed_amount, infeasible_refusal}
use Rattle.cert_checker.specs.declared.answer.Checked.TheVariants as checked
use Rattle.cert_checker.proofs.First.{as_meant, accepted_ok}
use Rattle.cert_checker.proofs.Whole.{infeasible_fits, walk_infeasible, one_refuses, one_holds, lists_joined, forbidden_told}
use Rattle.cert_checker.proofs.walk.check_infeasible.Goals as goal

pub check_forbidden-requires-clause-joined : goal.check_forbidden-requires-clause-joined
check_forbidden-requires-clause-joined c =
    let fits = infeasible_fits c.args.scheme.now c.args.plan.now c.requires.is c.requires.fits in
    lists_joined c.args.scheme.now c.args.plan.now c.as_slice-arcs.result.now c.in_ok-staged.staged.items c.as_slice-arcs.ensures.value c.in_ok-staged.ensures c.as_slice.result.now (ap length c.as_slice.ensures ∙ (fits.prices refl))

pub returns-in_err-check_forbidden : goal.returns-in_err-check_forbidden
returns-in_err-check_forbidden c =
    let p = err_from_is_err_and c.from_residual-in_err-check_forbidden.result c.from_residual-in_err-check_forbidden.ensures.1 in
    let gap = c.unwrap_or-gap.ensures ∙ ap (λ zero. unwrap_or c.args.plan.now.amount zero) c.whole.ensures in
    let told = forbidden_told c.args.scheme.now c.args.plan.now c.as_slice-arcs.result.now c.in_ok-staged.staged.items c.as_slice-arcs.ensures.value c.in_ok-staged.ensures c.as_slice-2.result.now c.as_slice.result.now c.unwrap_or-gap.result c.check_forbidden.result c.as_slice-2.ensures c.as_slice.ensures gap c.check_forbidden.ensures in
    rw (p.1, p.2) (one_refuses (infeasible_refusal c.args.scheme.now.supply (staged c.args.scheme.now) c.args.plan.now.prices (claimed_amount c.args.plan.now)) (walk c.args.scheme.now c.args.plan.now) (checked.Infeasible (claimed_amount c.args.plan.now)) (walk_infeasible c.args.scheme.now c.args.plan.now c.requires.is) c.in_err-check_forbidden.field-0.0 c.check_forbidden.result (as_meant c.check_forbidden.result _ told) c.in_err-check_forbidden.was)

pub returns : goal.returns
returns c =
    let gap = c.unwrap_or-gap.ensures ∙ ap (λ zero. unwrap_or c.args.plan.now.amount zero) c.whole.ensures in
    let told = forbidden_told c.args.scheme.now c.args.plan.now c.as_slice-arcs.result.now c.in_ok-staged.staged.items c.as_slice-arcs.ensures.value c.in_ok-staged.ensures c.as_slice-2.result.now c.as_slice.result.now c.unwrap_or-gap.result c.check_forbidden.result c.as_slice-2.ensures c.as_slice.ensures gap c.check_forbidden.ensures in
    ap (λ (x : Ratio). Ok (checked.Infeasible x)) gap ∙ one_holds (infeasible_refusal c.args.scheme.now.supply (staged c.args.scheme.now) c.args.plan.now.prices (claimed_amount c.args.plan.now)) (walk c.args.scheme.now c.args.plan.now) (checked.Infeasible (claimed_amount c.args.plan.now)) (walk_infeasible c.args.scheme.now c.args.plan.now c.requires.is) (accepted_ok (infeasible_refusal c.args.scheme.now.supply (staged c.args.scheme.now) c.args.plan.now.prices (claimed_amount c.args.plan.now)) c.in_ok-check_forbidden.field-0 c.check_forbidden.result told c.in_ok-check_forbidden.was)
