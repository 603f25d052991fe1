-- On a cycle just two of its arcs meet at each of its nodes.
use Rattle.std.specs.Prelude.{◌≡◌, ◌≢◌, ◌⊎◌, ℕ, List, [], ◌∷◌}
use Rattle.std.proofs.Common.{refl, sym, subst, ◌∙◌, inl, inr}
use Rattle.gain_graphs.specs.Arcs.{IsIn, AreDistinct}
use Rattle.gain_graphs.specs.Cycles.{Joins, IsWay, arcs_along, nodes_along, last_arc}
use Rattle.gain_graphs.proofs.Ways as ways
use Rattle.np_model.specs.declared.arc.Ends.{Ends}
use Rattle.np_model.specs.Basis.Graphs.{graph_of}

-- the arcs a and z follow one another at the node v
abbrev pub Follow : List (ℕ × ℕ) → ℕ → ℕ → ℕ → Type 0
Follow [] a v z = ⊥
Follow (y ∷ []) a v z = ⊥
Follow (y ∷ h ∷ w) a v z = ((a ≡ y.0) × (v ≡ y.1) × (z ≡ h.0)) ⊎ Follow (h ∷ w) a v z

module _ (ends : ℕ → Ends) (own : List ℕ) where
  pub follow_node : (w : List (ℕ × ℕ)) (a v z : ℕ) → Follow w a v z → IsIn v (nodes_along w)
  follow_node [] a v z f = absurd f
  follow_node (y ∷ []) a v z f = absurd f
  follow_node (y ∷ h ∷ w) a v z (inl m) = inl m.1
  follow_node (y ∷ h ∷ w) a v z (inr f) = inr (follow_node (h ∷ w) a v z f)

  pub not_last : (w : List (ℕ × ℕ)) (u k a v z : ℕ) → IsWay (graph_of ends) own u w k → AreDistinct (nodes_along w) → Follow w a v z → v ≢ k
  not_last [] u k a v z c n f = absurd f
  not_last (y ∷ []) u k a v z c n f = absurd f
  not_last (y ∷ h ∷ w) u k a v z c n (inl m) = λ e. n.0 (subst (λ t. IsIn t (nodes_along (h ∷ w))) (sym e ∙ m.1) (ways.last_node (graph_of ends) own w y.1 k h c.2))
  not_last (y ∷ h ∷ w) u k a v z c n (inr f) = not_last (h ∷ w) y.1 k a v z c.2 n.1 f

  -- at a node within the way there are just these two of its arcs
  pub two : (w : List (ℕ × ℕ)) (u k a v z b p : ℕ) → IsWay (graph_of ends) own u w k → AreDistinct (nodes_along w) → v ≢ u → Follow w a v z → IsIn b (arcs_along w) → Joins (graph_of ends b) v p
      → (b ≡ a) ⊎ (b ≡ z)
  two [] u k a v z b p c n o f i j = absurd f
  two (y ∷ []) u k a v z b p c n o f i j = absurd f
  two (y ∷ h ∷ w) u k a v z b p c n o (inl m) i j = elim i [
    | inl e ↦ inl (e ∙ sym m.0)
    | inr i' ↦ elim i' [
      | inl e ↦ inr (e ∙ sym m.2)
      | inr q ↦ absurd (n.0 (subst (λ t. IsIn t (h.1 ∷ nodes_along w)) m.1 (ways.at_arc (graph_of ends) own w h.1 k b v p c.2.2 q j)))
    ]
  ]
  two (y ∷ h ∷ w) u k a v z b p c n o (inr f) i j =
      let apart : v ≢ y.1 = λ e. n.0 (subst (λ t. IsIn t (nodes_along (h ∷ w))) e (follow_node (h ∷ w) a v z f)) in
      elim i [
        | inl e ↦ absurd (elim (ways.joins_same (graph_of ends y.0) u y.1 v p c.1 (subst (λ t. Joins (graph_of ends t) v p) e j)) [ inl m ↦ o m.0 | inr m ↦ apart m.0 ])
        | inr i' ↦ two (h ∷ w) y.1 k a v z b p c.2 n.1 apart f i' j
      ]

pub follow_arcs : (w : List (ℕ × ℕ)) (a v z : ℕ) → Follow w a v z → IsIn a (arcs_along w) × IsIn z (arcs_along w)
follow_arcs [] a v z f = absurd f
follow_arcs (y ∷ []) a v z f = absurd f
follow_arcs (y ∷ h ∷ w) a v z (inl m) = (inl m.0, inr (inl m.2))
follow_arcs (y ∷ h ∷ w) a v z (inr f) = let r = follow_arcs (h ∷ w) a v z f in (inr r.0, inr r.1)

pub follow_apart : (w : List (ℕ × ℕ)) (a v z : ℕ) → AreDistinct (arcs_along w) → Follow w a v z → a ≢ z
follow_apart [] a v z n f = absurd f
follow_apart (y ∷ []) a v z n f = absurd f
follow_apart (y ∷ h ∷ w) a v z n (inl m) = λ e. n.0 (inl (sym m.0 ∙ e ∙ m.2))
follow_apart (y ∷ h ∷ w) a v z n (inr f) = follow_apart (h ∷ w) a v z n.1 f

pub last_in : (a : ℕ) (v : ℕ) (w : List (ℕ × ℕ)) → IsIn (last_arc a w) (arcs_along ((a, v) ∷ w))
last_in a v [] = inl refl
last_in a v (y ∷ w) = inr (last_in y.0 y.1 w)
