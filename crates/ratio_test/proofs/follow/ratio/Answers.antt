use Rattle.std.proofs.Common.{◌≡◌, ◌<◌, ℕ, Ok, Err, List, take, refl, sym, subst, inl, inr, arith}
use Rattle.std.specs.List.Sorted.{IsStrictlyIncreasing}
use Rattle.std.specs.Result.{IsOk}
use Rattle.std.proofs.lemmas.List.{take_all}
use Rattle.gain_graphs.specs.Arcs.{IsIn}
use Rattle.np_frac.specs.Ratio.{Ratio, zero_ratio}
use Rattle.np_model.specs.Basis.Graphs.{arc_at}
use Rattle.np_model.specs.Basis.Phases.{phase_net, all_arcs}
use Rattle.np_model.specs.Basis.Pieces.{beside}
use Rattle.np_model.specs.Basis.Sound.{values_in}
use Rattle.np_model.specs.Rows.Arcs.{limit_of}
use Rattle.np_model.specs.Basis.Needed.{lists_of}
use Rattle.np_model.specs.Rows.Moving.{numbers_of_steps}
use Rattle.ratio_test.specs.Steps.Soonest.{IsSoonestOf}
use Rattle.ratio_test.proofs.Held.{counted, basic_is_arc}
use Rattle.ratio_test.proofs.First.{all_found}
use Rattle.ratio_test.proofs.Whole.{ratio_is}
use Rattle.ratio_test.proofs.OneStep.{limit_is, amount_is, stands, soonest_more, fit_more, past_here}
use Rattle.ratio_test.proofs.follow.ratio.Goals as goal

pub flow_of-flow-requires-clause-moves : goal.flow_of-flow-requires-clause-moves
flow_of-flow-requires-clause-moves g c = λ κs h.
    let steps = c.as_slice-steps.result.now in
    let rises : IsStrictlyIncreasing (numbers_of_steps steps) = rw c.as_slice-steps.ensures c.requires.along.ascend in
    c.requires.along.on_arcs c.step-item.result.0 (rw (← c.as_slice-steps.ensures) (stands steps c.loop-step.step-index c.step-item.result rises c.loop-step-test.true c.step-item.is))

pub limit_of-requires : goal.limit_of-requires
limit_of-requires g c =
    let pieces = lists_of (λ p. g.T.Piece.lists p.now) (g.T.Piece.lists c.args.first.now) c.args.second in
    let steps = c.as_slice-steps.result.now in
    let x = c.step-item.result in
    let rises : IsStrictlyIncreasing (numbers_of_steps steps) = rw c.as_slice-steps.ensures c.requires.along.ascend in
    let here : IsIn x.0 (numbers_of_steps c.args.direction.now.steps) = rw (← c.as_slice-steps.ensures) (stands steps c.loop-step.step-index x rises c.loop-step-test.true c.step-item.is) in
    elim (c.requires.along.on_arcs x.0 here) [
      | inl e ↦ subst (λ (n : ℕ). n < all_arcs c.args.full.now) (sym e) (counted c.args.phase c.args.full.now c.args.direction.now.enter c.requires.outside.is_arc)
      | inr k ↦ counted c.args.phase c.args.full.now x.0 (basic_is_arc (phase_net c.args.phase c.args.full.now) pieces c.requires.within x.0 k)
    ]

pub returns-in-Err : goal.returns-in-Err
returns-in-Err g c =
    let net = phase_net c.args.phase c.args.full.now in
    let pieces = lists_of (λ p. g.T.Piece.lists p.now) (g.T.Piece.lists c.args.first.now) c.args.second in
    let steps = c.as_slice-steps.result.now in
    let x = c.step-item.result in
    let i = c.loop-step.step-index in
    let rises : IsStrictlyIncreasing (numbers_of_steps steps) = rw c.as_slice-steps.ensures c.requires.along.ascend in
    let limit = λ (a : ℕ). limit_of (arc_at net.arcs a) ((values_in net pieces).flow a) (beside zero_ratio steps a) in
    let here : limit x.0 ≡ Err c.in-Err.past =
    limit_is (arc_at net.arcs x.0) c.flow_of-flow.result ((values_in net pieces).flow x.0) x.1 (beside zero_ratio steps x.0) c.limit_of.result (Err c.in-Err.past)
    c.limit_of.ensures c.flow_of-flow.ensures (amount_is steps i x rises c.loop-step-test.true c.step-item.is) c.in-Err.is in
    record {
      row = refl;
      place = refl;
      past = rw (← c.as_slice-steps.ensures) (past_here steps i x rises c.loop-step-test.true c.step-item.is limit c.in-Err.past here c.loop-step.invariant.fit);
    }

pub loop-step-preserved : goal.loop-step-preserved
loop-step-preserved g c =
    let net = phase_net c.args.phase c.args.full.now in
    let pieces = lists_of (λ p. g.T.Piece.lists p.now) (g.T.Piece.lists c.args.first.now) c.args.second in
    let steps = c.as_slice-steps.result.now in
    let x = c.step-item.result in
    let i = c.loop-step.step-index in
    let rises : IsStrictlyIncreasing (numbers_of_steps steps) = rw c.as_slice-steps.ensures c.requires.along.ascend in
    let limit = λ (a : ℕ). limit_of (arc_at net.arcs a) ((values_in net pieces).flow a) (beside zero_ratio steps a) in
    let here : limit x.0 ≡ Ok c.in-Ok.limit =
    limit_is (arc_at net.arcs x.0) c.flow_of-flow.result ((values_in net pieces).flow x.0) x.1 (beside zero_ratio steps x.0) c.limit_of.result (Ok c.in-Ok.limit)
    c.limit_of.ensures c.flow_of-flow.ensures (amount_is steps i x rises c.loop-step-test.true c.step-item.is) c.in-Ok.is in
    record {
      soonest = rw c.with_limit-stop.ensures (soonest_more steps i x rises c.loop-step-test.true c.step-item.is limit c.args.direction.now.enter c.loop-step.stop c.in-Ok.limit here c.loop-step.invariant.soonest);
      fit = fit_more steps i x rises c.loop-step-test.true c.step-item.is limit c.in-Ok.limit here c.loop-step.invariant.fit;
    }

pub returns : goal.returns
returns g c =
    let net = phase_net c.args.phase c.args.full.now in
    let pieces = lists_of (λ p. g.T.Piece.lists p.now) (g.T.Piece.lists c.args.first.now) c.args.second in
    let direction = c.args.direction.now in
    let limit = λ (t : List (ℕ × Ratio)) (a : ℕ). limit_of (arc_at net.arcs a) ((values_in net pieces).flow a) (beside zero_ratio t a) in
    let all : take c.loop-step.step-index c.as_slice-steps.result.now ≡ c.as_slice-steps.result.now = take_all c.loop-step.step-index c.as_slice-steps.result.now (omega arith) in
    let each : (a : ℕ) → IsIn a (numbers_of_steps direction.steps) → IsOk (limit direction.steps a) =
    subst (λ (t : List (ℕ × Ratio)). (a : ℕ) → IsIn a (numbers_of_steps t) → IsOk (limit t a)) c.as_slice-steps.ensures
    (subst (λ (t : List (ℕ × Ratio)). (a : ℕ) → IsIn a (numbers_of_steps t) → IsOk (limit c.as_slice-steps.result.now a)) all c.loop-step.invariant.fit) in
    let soonest : IsSoonestOf (limit direction.steps) (beside zero_ratio direction.steps) direction.enter (numbers_of_steps direction.steps) c.loop-step.stop =
    subst (λ (t : List (ℕ × Ratio)). IsSoonestOf (limit t) (beside zero_ratio t) direction.enter (numbers_of_steps t) c.loop-step.stop) c.as_slice-steps.ensures
    (subst (λ (t : List (ℕ × Ratio)). IsSoonestOf (limit c.as_slice-steps.result.now) (beside zero_ratio c.as_slice-steps.result.now) direction.enter (numbers_of_steps t) c.loop-step.stop) all c.loop-step.invariant.soonest) in
    record {
      ratio = rw c.answer_of.ensures (ratio_is c.args.phase c.args.full.now pieces direction c.loop-step.stop c.requires.within c.requires.outside c.requires.along each soonest);
      fits = all_found (limit direction.steps) (numbers_of_steps direction.steps) each;
    }
