use Rattle.std.proofs.Common.{◌++◌, ◌∷◌, [], sym, subst, ap, ◌∙◌, refl}
use Rattle.np_basis.proofs.Ascending.{ascends}
use Rattle.np_frac.specs.Fits.{Fits}
use Rattle.np_frac.specs.Ratio.{Ratio}
use Rattle.std.specs.Prelude.{ℕ, ◌+◌}
use Rattle.np_model.specs.declared.arc.Ends.{Ends}
use Rattle.tree_search.specs.Places.{numbers_of_arcs}
use Rattle.np_model.specs.Rows.Moving.{numbers_of_steps}
use Rattle.piece_lists.proofs.Walking.{Walked, moves, stays, overflows, finished}
use Rattle.piece_lists.proofs.flowing.moved.Goals as goal

pub loop-arc-preserved-in_default : goal.loop-arc-preserved-in_default
loop-arc-preserved-in_default c =
    let b = c.arc-item.result in
    subst (Walked c.args.arcs.now c.args.steps.now c.args.step (c.loop-arc.arc-index + 1) c.loop-arc.next) (sym (c.in_ok-list-2.ensures ∙ ap (λ (x : ℕ × Ends × Ratio). c.loop-arc.list.items ++ x ∷ []) c.kept.ensures.same))
    (stays c.args.arcs.now c.args.steps.now c.args.step (ascends (numbers_of_arcs c.args.arcs.now) c.requires.arcs_ascend) (ascends (numbers_of_steps c.args.steps.now) c.requires.steps_ascend) c.loop-arc.arc-index c.loop-arc.next b
    c.loop-arc.list.items c.loop-arc-test.true c.arc-item.is c.loop-arc.invariant c.in_default.ensures (subst (λ (x : ℕ × Ends × Ratio). Fits x.2) c.kept.ensures.same c.kept.ensures.fits))

pub returns-in-Err : goal.returns-in-Err
returns-in-Err c = (
  refl,
  refl,
  overflows c.args.arcs.now c.args.steps.now c.args.step (ascends (numbers_of_arcs c.args.arcs.now) c.requires.arcs_ascend) (ascends (numbers_of_steps c.args.steps.now) c.requires.steps_ascend) c.loop-arc.arc-index c.loop-arc.next c.arc-item.result
      c.loop-arc.list.items c.loop-arc-test.true c.arc-item.is c.loop-arc.invariant (c.arc-item.result.0, c.in-Some.amount) c.in-Some.ensures.0 c.in-Some.ensures.1 refl c.in-Err.past (sym c.in-Err.ensures.row),
)

pub loop-arc-preserved : goal.loop-arc-preserved
loop-arc-preserved c =
    subst (Walked c.args.arcs.now c.args.steps.now c.args.step (c.loop-arc.arc-index + 1) (c.loop-arc.next + 1)) (sym c.in_ok-list-3.ensures)
    (moves c.args.arcs.now c.args.steps.now c.args.step (ascends (numbers_of_arcs c.args.arcs.now) c.requires.arcs_ascend) (ascends (numbers_of_steps c.args.steps.now) c.requires.steps_ascend) c.loop-arc.arc-index c.loop-arc.next c.arc-item.result
    c.loop-arc.list.items c.loop-arc-test.true c.arc-item.is c.loop-arc.invariant (c.arc-item.result.0, c.in-Some.amount) c.in-Some.ensures.0 c.in-Some.ensures.1 refl c.in-Ok.flow (sym c.in-Ok.ensures.row) c.in-Ok.ensures.fits)

pub returns : goal.returns
returns c = finished c.args.arcs.now c.args.steps.now c.args.step c.loop-arc.arc-index c.loop-arc.next c.loop-arc.list.items c.loop-arc-test.false c.loop-arc.invariant
