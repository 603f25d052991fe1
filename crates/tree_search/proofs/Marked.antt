-- Marks at the arcs of a cycle.
use Rattle.std.proofs.Common.{◌≡◌, ◌≢◌, ◌⊎◌, ◌↔◌, inl, inr, sym, ap, refl, ◌∙◌, subst, ℕ, ◌<◌, ◌+◌, List, [], ◌∷◌, ◌++◌, length, take, slice_index_or, slice_set, arith, Bool, true, false, add-one}
use Rattle.std.proofs.lemmas.List.{get_or-set_same, get_or-set_other}
use Rattle.std.proofs.Math.Seq.{take-suc}
use Rattle.gain_graphs.specs.Arcs.{IsIn}
use Rattle.gain_graphs.proofs.Lists.{in_front, in_back, in_append}
use Rattle.tree_search.specs.declared.piece.Step.{Step}
use Rattle.tree_search.specs.Search.{step_arcs}

arcs_append : (l k : List Step) → step_arcs (l ++ k) ≡ step_arcs l ++ step_arcs k
arcs_append [] k = refl
arcs_append (s ∷ l) k = ap (λ t. s.arc ∷ t) (arcs_append l k)

pub marked_more : (cycle : List Step) (i : ℕ) (d : Step) (marks : List Bool) (n : ℕ) → i < length cycle → length marks ≡ n → ((j : ℕ) (t : Step) → j < length cycle → (slice_index_or cycle j t).arc < n)
    → ((u : ℕ) → u < n → (slice_index_or marks u false ≡ true) ↔ IsIn u (step_arcs (take i cycle)))
    → (u : ℕ) → u < n → (slice_index_or (slice_set marks (slice_index_or cycle i d).arc true) u false ≡ true) ↔ IsIn u (step_arcs (take (i + 1) cycle))
marked_more cycle i d marks n h long below inv u hu = go (same_or u a)
  where
    a : ℕ
    a = (slice_index_or cycle i d).arc

    same_or : (i j : ℕ) → (i ≡ j) ⊎ (i ≢ j)
    same_or i j = grind arith

    split : step_arcs (take (i + 1) cycle) ≡ step_arcs (take i cycle) ++ a ∷ []
    split = ap (λ n. step_arcs (take n cycle)) (add-one i) ∙ ap step_arcs (take-suc cycle i d h) ∙ arcs_append (take i cycle) (slice_index_or cycle i d ∷ [])

    inside : a < length marks
    inside = subst (λ t. a < t) (sym long) (below i d h)

    go : (u ≡ a) ⊎ (u ≢ a) → (slice_index_or (slice_set marks a true) u false ≡ true) ↔ IsIn u (step_arcs (take (i + 1) cycle))
    go (inl e) = (
      (λ _. subst (IsIn u) (sym split) (in_back u (step_arcs (take i cycle)) (a ∷ []) (inl e))),
      (λ _. ap (λ t. slice_index_or (slice_set marks a true) t false) e ∙ get_or-set_same marks a true false inside),
    )
    go (inr n') = (
      (λ m. subst (IsIn u) (sym split) (in_front u (step_arcs (take i cycle)) (a ∷ []) ((inv u hu).0 (sym (get_or-set_other marks a u true false n') ∙ m)))),
      (λ i'. get_or-set_other marks a u true false n' ∙ (inv u hu).1 (elim (in_append u (step_arcs (take i cycle)) (a ∷ []) (subst (IsIn u) split i')) [ inl j ↦ j | inr j ↦ elim j [ inl e ↦ absurd (n' e) | inr z ↦ absurd z ] ])),
    )
