use Rattle.std.proofs.Common.{◌≡◌, ◌∙◌, ℕ, List, map, sym, subst, ap}
use Rattle.gain_graphs.specs.Arcs.{IsIn}
use Rattle.np_frac.specs.Ratio.{Ratio}
use Rattle.np_model.specs.declared.arc.Ends.{Ends}
use Rattle.np_model.specs.declared.log.Mark.{Mark}
use Rattle.quasi_tree.specs.Store.{Store}
use Rattle.pivot_step.proofs.exchange.kept.Goals as goal

pub picked-requires-clause-has : goal.picked-requires-clause-has
picked-requires-clause-has c = λ n i.
    subst (λ (t : List (ℕ × Ends × Ratio)). IsIn n (map (λ (x : ℕ × Ends × Ratio). x.0) t)) (sym (c.as_slice-2.ensures.value ∙ ap (λ (s : Store). s.lists.basics) c.after.view_is))
    (c.requires.basics n (subst (λ (t : List (ℕ × Ends × Ratio)). IsIn n (map (λ (x : ℕ × Ends × Ratio). x.0) t)) (c.as_slice-3.ensures.value ∙ ap (λ (s : Store). s.lists.basics) (c.own.view_is ∙ c.lists-own.ensures.lists)) i))

pub picked-requires-2-clause-has : goal.picked-requires-2-clause-has
picked-requires-2-clause-has c = λ n i.
    subst (λ (t : List (ℕ × Mark)). IsIn n (map (λ (x : ℕ × Mark). x.0) t)) (sym (c.as_slice-4.ensures.value ∙ ap (λ (s : Store). s.lists.marks) c.after.view_is))
    (c.requires.marked n (subst (λ (t : List (ℕ × Mark)). IsIn n (map (λ (x : ℕ × Mark). x.0) t)) (c.as_slice-5.ensures.value ∙ ap (λ (s : Store). s.lists.marks) (c.own.view_is ∙ c.lists-own.ensures.lists)) i))

pub returns : goal.returns
returns c =
    let own_nodes : c.in_ok-nodes.nodes.items ≡ c.args.piece.now.lists.nodes = c.in_ok-nodes.ensures.items ∙ c.as_slice.ensures.value ∙ ap (λ (s : Store). s.lists.nodes) (c.own.view_is ∙ c.lists-own.ensures.lists) in
    let all_basics : c.as_slice-2.result.now ≡ c.args.after.now.lists.basics = c.as_slice-2.ensures.value ∙ ap (λ (s : Store). s.lists.basics) c.after.view_is in
    let own_basics : c.as_slice-3.result.now ≡ c.args.piece.now.lists.basics = c.as_slice-3.ensures.value ∙ ap (λ (s : Store). s.lists.basics) (c.own.view_is ∙ c.lists-own.ensures.lists) in
    let all_marks : c.as_slice-4.result.now ≡ c.args.after.now.lists.marks = c.as_slice-4.ensures.value ∙ ap (λ (s : Store). s.lists.marks) c.after.view_is in
    let own_marks : c.as_slice-5.result.now ≡ c.args.piece.now.lists.marks = c.as_slice-5.ensures.value ∙ ap (λ (s : Store). s.lists.marks) (c.own.view_is ∙ c.lists-own.ensures.lists) in
    record {
      nodes = own_nodes;
      basics = c.in_ok-basics.ensures.numbers ∙ ap (map (λ (b : ℕ × Ends × Ratio). b.0)) own_basics;
      marked = c.in_ok-marks.ensures.numbers ∙ ap (map (λ (m : ℕ × Mark). m.0)) own_marks;
      basics_from = λ b i. subst (IsIn b) all_basics (c.in_ok-basics.ensures.from b i);
      marks_from = λ m i. subst (IsIn m) all_marks (c.in_ok-marks.ensures.from m i);
    }
