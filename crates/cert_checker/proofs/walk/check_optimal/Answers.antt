use Rattle.std.proofs.Common.{refl, ◌∙◌, Ok, ap, unwrap_or, length}
use Rattle.std.proofs.lemmas.Result.{err_from_is_err_and}
use Rattle.np_frac.specs.Ratio.{Ratio}
use Rattle.np_model.specs.Scheme.Plans.{staged}
use Rattle.cert_checker.specs.Walk.{walk, claimed_amount, feasible_refusal, shown_refusal}
use Rattle.cert_checker.specs.declared.answer.Checked.TheVariants as checked
use Rattle.cert_checker.proofs.First.{as_meant, accepted_ok, part_holds}
use Rattle.cert_checker.proofs.Whole.{optimal_fits, walk_optimal, first_refuses, next_refuses, both_hold, lists_joined, feasible_told, shown_told, ends_told}
use Rattle.cert_checker.proofs.walk.check_optimal.Goals as goal

pub check_feasible-requires-clause-joined : goal.check_feasible-requires-clause-joined
check_feasible-requires-clause-joined c =
    lists_joined c.args.scheme.now c.args.plan.now c.as_slice-arcs.result.now c.in_ok-staged.staged.items c.as_slice-arcs.ensures.value c.in_ok-staged.ensures c.as_slice.result.now (ap length c.as_slice.ensures)

pub check_shown-requires-clause-joined : goal.check_shown-requires-clause-joined
check_shown-requires-clause-joined c =
    let fits = optimal_fits c.args.scheme.now c.args.plan.now c.requires.is c.requires.fits in
    lists_joined c.args.scheme.now c.args.plan.now c.as_slice-arcs.result.now c.in_ok-staged.staged.items c.as_slice-arcs.ensures.value c.in_ok-staged.ensures c.as_slice-2.result.now (ap length c.as_slice-2.ensures ∙ (fits.prices refl))

pub check_shown-requires-clause-ends : goal.check_shown-requires-clause-ends
check_shown-requires-clause-ends c =
    let told = feasible_told c.args.scheme.now c.args.plan.now c.as_slice-arcs.result.now c.in_ok-staged.staged.items c.as_slice-arcs.ensures.value c.in_ok-staged.ensures (length c.as_slice-nodes.result.now) c.as_slice.result.now c.as_slice-amounts.result.now c.check_feasible.result (ap length c.as_slice-nodes.ensures) c.as_slice.ensures c.as_slice-amounts.ensures c.check_feasible.ensures in
    let feasible = part_holds (feasible_refusal (length c.args.scheme.now.nodes) c.args.scheme.now.supply (staged c.args.scheme.now) c.args.plan.now.flows) c.in_ok-check_feasible.field-0 c.check_feasible.result told c.in_ok-check_feasible.was in
    let fits = optimal_fits c.args.scheme.now c.args.plan.now c.requires.is c.requires.fits in
    ends_told c.args.scheme.now c.args.plan.now c.as_slice-arcs.result.now c.in_ok-staged.staged.items c.as_slice-arcs.ensures.value c.in_ok-staged.ensures (fits.flows refl) feasible

pub returns-in_err-check_feasible-clause-walk : goal.returns-in_err-check_feasible-clause-walk
returns-in_err-check_feasible-clause-walk c =
    let p = err_from_is_err_and c.from_residual-in_err-check_feasible.result c.from_residual-in_err-check_feasible.ensures.1 in
    let told = feasible_told c.args.scheme.now c.args.plan.now c.as_slice-arcs.result.now c.in_ok-staged.staged.items c.as_slice-arcs.ensures.value c.in_ok-staged.ensures (length c.as_slice-nodes.result.now) c.as_slice.result.now c.as_slice-amounts.result.now c.check_feasible.result (ap length c.as_slice-nodes.ensures) c.as_slice.ensures c.as_slice-amounts.ensures c.check_feasible.ensures in
    rw (p.1, p.2) (first_refuses (feasible_refusal (length c.args.scheme.now.nodes) c.args.scheme.now.supply (staged c.args.scheme.now) c.args.plan.now.flows) (shown_refusal (staged c.args.scheme.now) c.args.plan.now.flows c.args.plan.now.prices (claimed_amount c.args.plan.now)) (walk c.args.scheme.now c.args.plan.now) (checked.Optimal (claimed_amount c.args.plan.now)) (walk_optimal c.args.scheme.now c.args.plan.now c.requires.is) c.in_err-check_feasible.field-0.0 c.check_feasible.result told c.in_err-check_feasible.was)

pub returns-in_err-check_shown-clause-walk : goal.returns-in_err-check_shown-clause-walk
returns-in_err-check_shown-clause-walk c =
    let p = err_from_is_err_and c.from_residual-in_err-check_shown.result c.from_residual-in_err-check_shown.ensures.1 in
    let told = feasible_told c.args.scheme.now c.args.plan.now c.as_slice-arcs.result.now c.in_ok-staged.staged.items c.as_slice-arcs.ensures.value c.in_ok-staged.ensures (length c.as_slice-nodes.result.now) c.as_slice.result.now c.as_slice-amounts.result.now c.check_feasible.result (ap length c.as_slice-nodes.ensures) c.as_slice.ensures c.as_slice-amounts.ensures c.check_feasible.ensures in
    let feasible = part_holds (feasible_refusal (length c.args.scheme.now.nodes) c.args.scheme.now.supply (staged c.args.scheme.now) c.args.plan.now.flows) c.in_ok-check_feasible.field-0 c.check_feasible.result told c.in_ok-check_feasible.was in
    let cost = c.unwrap_or-cost.ensures ∙ ap (λ zero. unwrap_or c.args.plan.now.amount zero) c.whole.ensures in
    let shown = shown_told c.args.scheme.now c.args.plan.now c.as_slice-arcs.result.now c.in_ok-staged.staged.items c.as_slice-arcs.ensures.value c.in_ok-staged.ensures c.as_slice-amounts.result.now c.as_slice-2.result.now c.unwrap_or-cost.result c.check_shown.result c.as_slice-amounts.ensures c.as_slice-2.ensures cost c.check_shown.ensures in
    rw (p.1, p.2) (next_refuses (feasible_refusal (length c.args.scheme.now.nodes) c.args.scheme.now.supply (staged c.args.scheme.now) c.args.plan.now.flows) (shown_refusal (staged c.args.scheme.now) c.args.plan.now.flows c.args.plan.now.prices (claimed_amount c.args.plan.now)) (walk c.args.scheme.now c.args.plan.now) (checked.Optimal (claimed_amount c.args.plan.now)) (walk_optimal c.args.scheme.now c.args.plan.now c.requires.is) c.in_err-check_shown.field-0.0 c.check_shown.result feasible (as_meant c.check_shown.result _ shown) c.in_err-check_shown.was)

pub returns-clause-walk : goal.returns-clause-walk
returns-clause-walk c =
    let told = feasible_told c.args.scheme.now c.args.plan.now c.as_slice-arcs.result.now c.in_ok-staged.staged.items c.as_slice-arcs.ensures.value c.in_ok-staged.ensures (length c.as_slice-nodes.result.now) c.as_slice.result.now c.as_slice-amounts.result.now c.check_feasible.result (ap length c.as_slice-nodes.ensures) c.as_slice.ensures c.as_slice-amounts.ensures c.check_feasible.ensures in
    let feasible = part_holds (feasible_refusal (length c.args.scheme.now.nodes) c.args.scheme.now.supply (staged c.args.scheme.now) c.args.plan.now.flows) c.in_ok-check_feasible.field-0 c.check_feasible.result told c.in_ok-check_feasible.was in
    let cost = c.unwrap_or-cost.ensures ∙ ap (λ zero. unwrap_or c.args.plan.now.amount zero) c.whole.ensures in
    let shown = shown_told c.args.scheme.now c.args.plan.now c.as_slice-arcs.result.now c.in_ok-staged.staged.items c.as_slice-arcs.ensures.value c.in_ok-staged.ensures c.as_slice-amounts.result.now c.as_slice-2.result.now c.unwrap_or-cost.result c.check_shown.result c.as_slice-amounts.ensures c.as_slice-2.ensures cost c.check_shown.ensures in
    ap (λ (x : Ratio). Ok (checked.Optimal x)) cost
    ∙ both_hold (feasible_refusal (length c.args.scheme.now.nodes) c.args.scheme.now.supply (staged c.args.scheme.now) c.args.plan.now.flows) (shown_refusal (staged c.args.scheme.now) c.args.plan.now.flows c.args.plan.now.prices (claimed_amount c.args.plan.now)) (walk c.args.scheme.now c.args.plan.now) (checked.Optimal (claimed_amount c.args.plan.now)) (walk_optimal c.args.scheme.now c.args.plan.now c.requires.is) feasible (accepted_ok (shown_refusal (staged c.args.scheme.now) c.args.plan.now.flows c.args.plan.now.prices (claimed_amount c.args.plan.now)) c.in_ok-check_shown.field-0 c.check_shown.result shown c.in_ok-check_shown.was)

pub returns-clause-optimal : goal.returns-clause-optimal
returns-clause-optimal c =
    let cost = c.unwrap_or-cost.ensures ∙ ap (λ zero. unwrap_or c.args.plan.now.amount zero) c.whole.ensures in
    ap checked.Optimal cost
