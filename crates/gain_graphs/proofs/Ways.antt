-- Ways over links, and the nodes and arcs on them.
use Rattle.std.proofs.Common.{◌≡◌, ◌⊎◌, inl, inr, sym, ap, refl, ◌∙◌, subst, ℕ, List, [], ◌∷◌, ◌++◌}
use Rattle.gain_graphs.specs.Arcs.{IsIn, AreDistinct, Ends, Link, Drain, Feed}
use Rattle.gain_graphs.specs.Cycles.{arcs_along, nodes_along, last_arc, Joins, IsWay}

pub arcs_append : (v w : List (ℕ × ℕ)) → arcs_along (v ++ w) ≡ arcs_along v ++ arcs_along w
arcs_append [] w = refl
arcs_append (x ∷ v) w = ap (λ t. x.0 ∷ t) (arcs_append v w)

pub nodes_append : (v w : List (ℕ × ℕ)) → nodes_along (v ++ w) ≡ nodes_along v ++ nodes_along w
nodes_append [] w = refl
nodes_append (x ∷ v) w = ap (λ t. x.1 ∷ t) (nodes_append v w)

module _ {Scalar : Type 0} where
  pub joins_same : (e : Ends Scalar) (u x p q : ℕ) → Joins e u x → Joins e p q → ((p ≡ u) × (q ≡ x)) ⊎ ((p ≡ x) × (q ≡ u))
  joins_same (Link i j g) u x p q a b = elim a [
    | inl r ↦ elim b [ inl s ↦ inl (s.0 ∙ sym r.0, s.1 ∙ sym r.1) | inr s ↦ inr (s.0 ∙ sym r.1, s.1 ∙ sym r.0) ]
    | inr r ↦ elim b [ inl s ↦ inr (s.0 ∙ sym r.1, s.1 ∙ sym r.0) | inr s ↦ inl (s.0 ∙ sym r.0, s.1 ∙ sym r.1) ]
  ]
  joins_same (Drain i) u x p q a b = absurd a
  joins_same (Feed i) u x p q a b = absurd a

  pub joins_back : (e : Ends Scalar) (u x : ℕ) → Joins e u x → Joins e x u
  joins_back (Link i j g) u x a = elim a [ inl r ↦ inr (r.1, r.0) | inr r ↦ inl (r.1, r.0) ]
  joins_back (Drain i) u x a = a
  joins_back (Feed i) u x a = a

  -- the other end of an arc at a node
  pub other_end : (e : Ends Scalar) (u x y : ℕ) → Joins e u x → Joins e u y → x ≡ y
  other_end e u x y a b = elim (joins_same e u x u y a b) [ inl r ↦ sym r.1 | inr r ↦ sym r.0 ∙ sym r.1 ]

module _ {Scalar : Type 0} (ends : ℕ → Ends Scalar) where
  -- the nodes at an arc of a way
  pub at_arc : (own : List ℕ) (w : List (ℕ × ℕ)) (u v a p q : ℕ) → IsWay ends own u w v → IsIn a (arcs_along w) → Joins (ends a) p q → IsIn p (u ∷ nodes_along w)
  at_arc own [] u v a p q r i k = absurd i
  at_arc own (x ∷ w) u v a p q r (inl e) k = elim (joins_same (ends x.0) u x.1 p q r.1 (subst (λ t. Joins (ends t) p q) e k)) [ inl s ↦ inl s.0 | inr s ↦ inr (inl s.0) ]
  at_arc own (x ∷ w) u v a p q r (inr i) k = inr (at_arc own w x.1 v a p q r.2 i k)

  pub last_node : (own : List ℕ) (w : List (ℕ × ℕ)) (u v : ℕ) (x : ℕ × ℕ) → IsWay ends own u (x ∷ w) v → IsIn v (nodes_along (x ∷ w))
  last_node own [] u v x r = inl (sym r.2)
  last_node own (y ∷ w) u v x r = inr (last_node own w x.1 v y r.2)

  -- an arc at the end of a way that comes to no node twice is its last one
  pub is_last : (own : List ℕ) (t : List (ℕ × ℕ)) (y k : ℕ) → AreDistinct (y ∷ nodes_along t) → IsWay ends own y t k → (b q d : ℕ) → IsIn b (arcs_along t) → Joins (ends b) k q → b ≡ last_arc d t
  is_last own [] y k a r b q d i j = absurd i
  is_last own (x ∷ []) y k a r b q d i j = elim i [ inl e ↦ e | inr z ↦ absurd z ]
  is_last own (x ∷ z ∷ t) y k a r b q d (inr i) j = is_last own (z ∷ t) x.1 k a.1 r.2 b q x.0 i j
  is_last own (x ∷ z ∷ t) y k a r b q d (inl e) j =
      let n : IsIn k (nodes_along (z ∷ t)) = last_node own t x.1 k z r.2 in
      absurd (elim (joins_same (ends x.0) y x.1 k q r.1 (subst (λ s. Joins (ends s) k q) e j)) [
        | inl s ↦ a.0 (inr (subst (λ s'. IsIn s' (nodes_along (z ∷ t))) s.0 n))
        | inr s ↦ a.1.0 (subst (λ s'. IsIn s' (nodes_along (z ∷ t))) s.0 n)
      ])

  pub way_arcs : (own : List ℕ) (w : List (ℕ × ℕ)) (u v : ℕ) → IsWay ends own u w v → (a : ℕ) → IsIn a (arcs_along w) → IsIn a own
  way_arcs own [] u v r a i = absurd i
  way_arcs own (x ∷ w) u v r a (inl e) = subst (λ t. IsIn t own) (sym e) r.0
  way_arcs own (x ∷ w) u v r a (inr i) = way_arcs own w x.1 v r.2 a i

  pub way_append : (own : List ℕ) (v w : List (ℕ × ℕ)) (u x z : ℕ) → IsWay ends own u v x → IsWay ends own x w z → IsWay ends own u (v ++ w) z
  way_append own [] w u x z r s = subst (λ t. IsWay ends own t w z) (sym r) s
  way_append own (y ∷ v) w u x z r s = (r.0, r.1, way_append own v w y.1 x z r.2 s)
