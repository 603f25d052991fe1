use Rattle.std.proofs.Common.{◌∙◌, ℕ, List, map, sym, subst, ap, inl, inr, refl}
use Rattle.std.specs.List.Sorted.{IsStrictlyIncreasing}
use Rattle.gain_graphs.specs.Arcs.{IsIn}
use Rattle.np_frac.specs.Ratio.{Ratio}
use Rattle.np_model.specs.declared.arc.Ends.{Ends}
use Rattle.np_model.specs.declared.log.Mark.{Mark}
use Rattle.quasi_tree.specs.Store.{Store}
use Rattle.piece_lists.specs.Merged.{IsMerged}
use Rattle.piece_lists.proofs.Joined.{both_in_one}
use Rattle.piece_lists.proofs.joining.both.Goals as goal

pub merged-requires-clause-first_ascends : goal.merged-requires-clause-first_ascends
merged-requires-clause-first_ascends c = subst (λ (t : List (ℕ × Ratio)). IsStrictlyIncreasing (map (λ (x : ℕ × Ratio). x.0) t)) (sym (c.as_slice.ensures.value ∙ ap (λ (s : Store). s.lists.nodes) c.first.view_is)) (c.requires.nodes_ascend c.args.first.now.lists (inl refl))

pub merged-requires-clause-second_ascends : goal.merged-requires-clause-second_ascends
merged-requires-clause-second_ascends c = subst (λ (t : List (ℕ × Ratio)). IsStrictlyIncreasing (map (λ (x : ℕ × Ratio). x.0) t)) (sym (c.as_slice-2.ensures.value ∙ ap (λ (s : Store). s.lists.nodes) c.second.view_is)) (c.requires.nodes_ascend c.args.second.now.lists (inr (inl refl)))

pub merged-requires-clause-same : goal.merged-requires-clause-same
merged-requires-clause-same c = λ x y i j e. c.requires.same_node c.args.first.now.lists c.args.second.now.lists x y (inl refl) (inr (inl refl)) (subst (λ (t : List (ℕ × Ratio)). IsIn x t) (c.as_slice.ensures.value ∙ ap (λ (s : Store). s.lists.nodes) c.first.view_is) i) (subst (λ (t : List (ℕ × Ratio)). IsIn y t) (c.as_slice-2.ensures.value ∙ ap (λ (s : Store). s.lists.nodes) c.second.view_is) j) e

pub merged-requires-2-clause-first_ascends : goal.merged-requires-2-clause-first_ascends
merged-requires-2-clause-first_ascends c = subst (λ (t : List (ℕ × Ends × Ratio)). IsStrictlyIncreasing (map (λ (x : ℕ × Ends × Ratio). x.0) t)) (sym (c.as_slice-3.ensures.value ∙ ap (λ (s : Store). s.lists.basics) c.first.view_is)) (c.requires.basics_ascend c.args.first.now.lists (inl refl))

pub merged-requires-2-clause-second_ascends : goal.merged-requires-2-clause-second_ascends
merged-requires-2-clause-second_ascends c = subst (λ (t : List (ℕ × Ends × Ratio)). IsStrictlyIncreasing (map (λ (x : ℕ × Ends × Ratio). x.0) t)) (sym (c.as_slice-4.ensures.value ∙ ap (λ (s : Store). s.lists.basics) c.second.view_is)) (c.requires.basics_ascend c.args.second.now.lists (inr (inl refl)))

pub merged-requires-2-clause-same : goal.merged-requires-2-clause-same
merged-requires-2-clause-same c = λ x y i j e. c.requires.same_basic c.args.first.now.lists c.args.second.now.lists x y (inl refl) (inr (inl refl)) (subst (λ (t : List (ℕ × Ends × Ratio)). IsIn x t) (c.as_slice-3.ensures.value ∙ ap (λ (s : Store). s.lists.basics) c.first.view_is) i) (subst (λ (t : List (ℕ × Ends × Ratio)). IsIn y t) (c.as_slice-4.ensures.value ∙ ap (λ (s : Store). s.lists.basics) c.second.view_is) j) e

pub merged-requires-3-clause-first_ascends : goal.merged-requires-3-clause-first_ascends
merged-requires-3-clause-first_ascends c = subst (λ (t : List (ℕ × Mark)). IsStrictlyIncreasing (map (λ (x : ℕ × Mark). x.0) t)) (sym (c.as_slice-5.ensures.value ∙ ap (λ (s : Store). s.lists.marks) c.first.view_is)) (c.requires.marks_ascend c.args.first.now.lists (inl refl))

pub merged-requires-3-clause-second_ascends : goal.merged-requires-3-clause-second_ascends
merged-requires-3-clause-second_ascends c = subst (λ (t : List (ℕ × Mark)). IsStrictlyIncreasing (map (λ (x : ℕ × Mark). x.0) t)) (sym (c.as_slice-6.ensures.value ∙ ap (λ (s : Store). s.lists.marks) c.second.view_is)) (c.requires.marks_ascend c.args.second.now.lists (inr (inl refl)))

pub merged-requires-3-clause-same : goal.merged-requires-3-clause-same
merged-requires-3-clause-same c = λ x y i j e. c.requires.same_mark c.args.first.now.lists c.args.second.now.lists x y (inl refl) (inr (inl refl)) (subst (λ (t : List (ℕ × Mark)). IsIn x t) (c.as_slice-5.ensures.value ∙ ap (λ (s : Store). s.lists.marks) c.first.view_is) i) (subst (λ (t : List (ℕ × Mark)). IsIn y t) (c.as_slice-6.ensures.value ∙ ap (λ (s : Store). s.lists.marks) c.second.view_is) j) e

pub returns : goal.returns
returns c =
    both_in_one c.args.first.now.lists c.args.second.now.lists c.in_ok-nodes.nodes.items c.in_ok-basics.basics.items c.in_ok-marks.marks.items
    (subst (λ (t : List (ℕ × Ratio)). IsMerged (λ (x : ℕ × Ratio). x.0) c.args.first.now.lists.nodes t c.in_ok-nodes.nodes.items) (c.as_slice-2.ensures.value ∙ ap (λ (s : Store). s.lists.nodes) c.second.view_is)
    (subst (λ (t : List (ℕ × Ratio)). IsMerged (λ (x : ℕ × Ratio). x.0) t c.as_slice-2.result.now c.in_ok-nodes.nodes.items) (c.as_slice.ensures.value ∙ ap (λ (s : Store). s.lists.nodes) c.first.view_is) c.in_ok-nodes.ensures))
    (subst (λ (t : List (ℕ × Ends × Ratio)). IsMerged (λ (x : ℕ × Ends × Ratio). x.0) c.args.first.now.lists.basics t c.in_ok-basics.basics.items) (c.as_slice-4.ensures.value ∙ ap (λ (s : Store). s.lists.basics) c.second.view_is)
    (subst (λ (t : List (ℕ × Ends × Ratio)). IsMerged (λ (x : ℕ × Ends × Ratio). x.0) t c.as_slice-4.result.now c.in_ok-basics.basics.items) (c.as_slice-3.ensures.value ∙ ap (λ (s : Store). s.lists.basics) c.first.view_is) c.in_ok-basics.ensures))
    (subst (λ (t : List (ℕ × Mark)). IsMerged (λ (x : ℕ × Mark). x.0) c.args.first.now.lists.marks t c.in_ok-marks.marks.items) (c.as_slice-6.ensures.value ∙ ap (λ (s : Store). s.lists.marks) c.second.view_is)
    (subst (λ (t : List (ℕ × Mark)). IsMerged (λ (x : ℕ × Mark). x.0) t c.as_slice-6.result.now c.in_ok-marks.marks.items) (c.as_slice-5.ensures.value ∙ ap (λ (s : Store). s.lists.marks) c.first.view_is) c.in_ok-marks.ensures))
