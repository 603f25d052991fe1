use Rattle.std.proofs.Common.{ap, length}
use Rattle.std.proofs.lemmas.Result.{err_from_is_err_and}
use Rattle.np_model.specs.Scheme.Plans.{staged}
use Rattle.cert_checker.specs.Walk.{walk, feasible_refusal, falling_refusal}
use Rattle.cert_checker.specs.declared.answer.Checked.TheVariants as checked
use Rattle.cert_checker.proofs.First.{part_holds}
use Rattle.cert_checker.proofs.Whole.{walk_unbounded, first_refuses, next_refuses, both_hold, lists_joined, feasible_told, falling_told}
use Rattle.cert_checker.proofs.walk.check_unbounded.Goals as goal

pub check_feasible-requires-clause-joined : goal.check_feasible-requires-clause-joined
check_feasible-requires-clause-joined c =
    lists_joined c.args.scheme.now c.args.plan.now c.as_slice-arcs.result.now c.in_ok-staged.staged.items c.as_slice-arcs.ensures.value c.in_ok-staged.ensures c.as_slice-supply.result.now (ap length c.as_slice-supply.ensures)

pub check_falling-requires-clause-joined : goal.check_falling-requires-clause-joined
check_falling-requires-clause-joined c =
    lists_joined c.args.scheme.now c.args.plan.now c.as_slice-arcs.result.now c.in_ok-staged.staged.items c.as_slice-arcs.ensures.value c.in_ok-staged.ensures c.as_slice-supply.result.now (ap length c.as_slice-supply.ensures)

pub returns-in_err-check_feasible : goal.returns-in_err-check_feasible
returns-in_err-check_feasible c =
    let p = err_from_is_err_and c.from_residual-in_err-check_feasible.result c.from_residual-in_err-check_feasible.ensures.1 in
    let told = feasible_told c.args.scheme.now c.args.plan.now c.as_slice-arcs.result.now c.in_ok-staged.staged.items c.as_slice-arcs.ensures.value c.in_ok-staged.ensures (length c.as_slice-nodes.result.now) c.as_slice-supply.result.now c.as_slice.result.now c.check_feasible.result (ap length c.as_slice-nodes.ensures) c.as_slice-supply.ensures c.as_slice.ensures c.check_feasible.ensures in
    rw (p.1, p.2) (first_refuses (feasible_refusal (length c.args.scheme.now.nodes) c.args.scheme.now.supply (staged c.args.scheme.now) c.args.plan.now.flows) (falling_refusal (length c.args.scheme.now.nodes) c.args.scheme.now.supply (staged c.args.scheme.now) c.args.plan.now.ray) (walk c.args.scheme.now c.args.plan.now) checked.Unbounded (walk_unbounded c.args.scheme.now c.args.plan.now c.requires.is) c.in_err-check_feasible.field-0.0 c.check_feasible.result told c.in_err-check_feasible.was)

pub returns-in_err-check_falling : goal.returns-in_err-check_falling
returns-in_err-check_falling c =
    let p = err_from_is_err_and c.from_residual-in_err-check_falling.result c.from_residual-in_err-check_falling.ensures.1 in
    let told = feasible_told c.args.scheme.now c.args.plan.now c.as_slice-arcs.result.now c.in_ok-staged.staged.items c.as_slice-arcs.ensures.value c.in_ok-staged.ensures (length c.as_slice-nodes.result.now) c.as_slice-supply.result.now c.as_slice.result.now c.check_feasible.result (ap length c.as_slice-nodes.ensures) c.as_slice-supply.ensures c.as_slice.ensures c.check_feasible.ensures in
    let feasible = part_holds (feasible_refusal (length c.args.scheme.now.nodes) c.args.scheme.now.supply (staged c.args.scheme.now) c.args.plan.now.flows) c.in_ok-check_feasible.field-0 c.check_feasible.result told c.in_ok-check_feasible.was in
    let falling = falling_told c.args.scheme.now c.args.plan.now c.as_slice-arcs.result.now c.in_ok-staged.staged.items c.as_slice-arcs.ensures.value c.in_ok-staged.ensures (length c.as_slice-nodes.result.now) c.as_slice-supply.result.now c.as_slice-2.result.now c.check_falling.result (ap length c.as_slice-nodes.ensures) c.as_slice-supply.ensures c.as_slice-2.ensures c.check_falling.ensures in
    rw (p.1, p.2) (next_refuses (feasible_refusal (length c.args.scheme.now.nodes) c.args.scheme.now.supply (staged c.args.scheme.now) c.args.plan.now.flows) (falling_refusal (length c.args.scheme.now.nodes) c.args.scheme.now.supply (staged c.args.scheme.now) c.args.plan.now.ray) (walk c.args.scheme.now c.args.plan.now) checked.Unbounded (walk_unbounded c.args.scheme.now c.args.plan.now c.requires.is) c.in_err-check_falling.field-0.0 c.check_falling.result feasible falling c.in_err-check_falling.was)

pub returns : goal.returns
returns c =
    let told = feasible_told c.args.scheme.now c.args.plan.now c.as_slice-arcs.result.now c.in_ok-staged.staged.items c.as_slice-arcs.ensures.value c.in_ok-staged.ensures (length c.as_slice-nodes.result.now) c.as_slice-supply.result.now c.as_slice.result.now c.check_feasible.result (ap length c.as_slice-nodes.ensures) c.as_slice-supply.ensures c.as_slice.ensures c.check_feasible.ensures in
    let feasible = part_holds (feasible_refusal (length c.args.scheme.now.nodes) c.args.scheme.now.supply (staged c.args.scheme.now) c.args.plan.now.flows) c.in_ok-check_feasible.field-0 c.check_feasible.result told c.in_ok-check_feasible.was in
    let falling = falling_told c.args.scheme.now c.args.plan.now c.as_slice-arcs.result.now c.in_ok-staged.staged.items c.as_slice-arcs.ensures.value c.in_ok-staged.ensures (length c.as_slice-nodes.result.now) c.as_slice-supply.result.now c.as_slice-2.result.now c.check_falling.result (ap length c.as_slice-nodes.ensures) c.as_slice-supply.ensures c.as_slice-2.ensures c.check_falling.ensures in
    both_hold (feasible_refusal (length c.args.scheme.now.nodes) c.args.scheme.now.supply (staged c.args.scheme.now) c.args.plan.now.flows) (falling_refusal (length c.args.scheme.now.nodes) c.args.scheme.now.supply (staged c.args.scheme.now) c.args.plan.now.ray) (walk c.args.scheme.now c.args.plan.now) checked.Unbounded (walk_unbounded c.args.scheme.now c.args.plan.now c.requires.is) feasible (part_holds (falling_refusal (length c.args.scheme.now.nodes) c.args.scheme.now.supply (staged c.args.scheme.now) c.args.plan.now.ray) c.in_ok-check_falling.field-0 c.check_falling.result falling c.in_ok-check_falling.was)
