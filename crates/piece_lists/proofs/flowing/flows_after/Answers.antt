use Rattle.std.proofs.Common.{◌∙◌, sym, subst, ap}
use Rattle.std.specs.Prelude.{ℕ, ◌==◌, not, filter}
use Rattle.gain_graphs.specs.Arcs.{IsIn}
use Rattle.np_frac.specs.Ratio.{Ratio}
use Rattle.np_model.specs.declared.arc.Ends.{Ends}
use Rattle.tree_search.specs.Places.{numbers_of_arcs}
use Rattle.piece_lists.specs.Flowing.{IsFirstPast}
use Rattle.piece_lists.specs.Steps.{AreMoved}
use Rattle.piece_lists.proofs.Swapped.{numbers_in, first_past, after_is, only_new}
use Rattle.piece_lists.proofs.flowing.flows_after.Goals as goal

pub merged-requires-clause-same : goal.merged-requires-clause-same
merged-requires-clause-same c = only_new c.args.basics.now c.args.entering c.requires.enters

pub moved-requires-clause-own : goal.moved-requires-clause-own
moved-requires-clause-own c = λ a i. subst (λ x. IsIn a (numbers_of_arcs x)) (sym c.as_slice.ensures.value) (numbers_in c.args.basics.now c.in_ok-all.all.items c.args.entering c.in_ok-all.ensures a (c.requires.own a i))

pub returns-in-Err : goal.returns-in-Err
returns-in-Err c =
    first_past c.args.basics.now c.in_ok-all.all.items c.args.entering c.in_ok-all.ensures c.args.entering.0 c.args.steps.now c.args.step c.in-Err.refusal
    (subst (λ x. IsFirstPast x c.args.entering.0 c.args.steps.now c.args.step c.in-Err.refusal) c.as_slice.ensures.value c.in-Err.ensures)

pub returns : goal.returns
returns c =
    after_is c.args.basics.now c.in_ok-all.all.items c.args.entering c.in_ok-all.ensures c.args.leave c.args.steps.now c.args.step c.in-Ok.after.items c.in_ok-rest.rest.items
    (subst (λ x. AreMoved x c.args.steps.now c.args.step c.in-Ok.after.items) c.as_slice.ensures.value c.in-Ok.ensures)
    (c.in_ok-rest.ensures ∙ ap (λ x. filter (λ (y : ℕ × Ends × Ratio). not (y.0 == c.args.leave)) x) c.as_slice-2.ensures.value)
