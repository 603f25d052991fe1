-- A quasi-tree has at most one cycle, and it is not breakeven.
use Rattle.std.proofs.Common.{◌≡◌, ◌≢◌, ◌⊎◌, inl, inr, sym, ap, refl, ◌∙◌, subst, ap₂, ℕ, ◌≤◌, List, [], ◌∷◌, ◌++◌, map, arith}
use Rattle.gain_graphs.specs.Field.{Field}
use Rattle.gain_graphs.specs.Arcs.{IsIn, AreDistinct, Ends, Link, Drain, Feed, Step, Along, Against, HasOneEnd, IsWalk, AreJoined, product, pull}
use Rattle.gain_graphs.specs.QuasiTrees.{LiesIn, IsQuasiTree}
use Rattle.gain_graphs.specs.Cycles.{arcs_along, nodes_along, Joins, IsWay, IsCycle, IsLeastFirst}
use Rattle.gain_graphs.proofs.Lists.{in_others, in_with, in_map, length_map, map_append, in_map_of, split_at, decide_in}
use Rattle.gain_graphs.proofs.Algebra
use Rattle.gain_graphs.proofs.Walks
use Rattle.gain_graphs.proofs.Rigid
use Rattle.gain_graphs.proofs.Weights
use Rattle.gain_graphs.proofs.Spare
use Rattle.gain_graphs.proofs.Ways
use Rattle.gain_graphs.proofs.Alike

module _ {Scalar : Type 0} (F : Field Scalar) (ends : ℕ → Ends Scalar) where
  infixl 60 ◌⊕◌
  infixl 70 ◌⊗◌
  open F use {one, ◌⊕◌, ◌⊗◌, negated, inverse, plus_negated, times_assoc, times_one}

  -- a way as a walk
  unfoldable pub step_of : (e : Ends Scalar) (u x : ℕ) → Joins e u x → Step Scalar
  step_of (Link i j g) u x (inl r) = Along i j g
  step_of (Link i j g) u x (inr r) = Against i j g
  step_of (Drain i) u x r = absurd r
  step_of (Feed i) u x r = absurd r

  pub step_walk : (arcs : List (Ends Scalar)) (e : Ends Scalar) (u x v : ℕ) (j : Joins e u x) (st : List (Step Scalar)) → IsIn e arcs → IsWalk arcs x st v → IsWalk arcs u (step_of e u x j ∷ st) v
  unfolding step_of
  step_walk arcs (Link i j g) u x v (inl r) st k w = (r.0, k, subst (λ z. IsWalk arcs z st v) r.1 w)
  step_walk arcs (Link i j g) u x v (inr r) st k w = (r.0, k, subst (λ z. IsWalk arcs z st v) r.1 w)
  step_walk arcs (Drain i) u x v r st k w = absurd r
  step_walk arcs (Feed i) u x v r st k w = absurd r

  unfoldable pub steps : (own : List ℕ) (w : List (ℕ × ℕ)) (u v : ℕ) → IsWay ends own u w v → List (Step Scalar)
  steps own [] u v r = []
  steps own (x ∷ w) u v r = step_of (ends x.0) u x.1 r.1 ∷ steps own w x.1 v r.2

  pub steps_walk : (own xs : List ℕ) (w : List (ℕ × ℕ)) (u v : ℕ) (r : IsWay ends own u w v) → ((a : ℕ) → IsIn a (arcs_along w) → IsIn a xs) → IsWalk (map ends xs) u (steps own w u v r) v
  unfolding steps
  steps_walk own xs [] u v r sub = r
  steps_walk own xs (x ∷ w) u v r sub =
      step_walk (map ends xs) (ends x.0) u x.1 v r.1 (steps own w x.1 v r.2) (in_map ends x.0 xs (sub x.0 (inl refl))) (steps_walk own xs w x.1 v r.2 (λ a i. sub a (inr i)))

  -- where the pull on the first link is 1, and 0 on those that lead on from its end to its beginning, the product of all is not 1
  first_apart : (ns : List ℕ) (e : Ends Scalar) (u x : ℕ) (j : Joins e u x) (st : List (Step Scalar)) (q : ℕ → Scalar) → LiesIn F ns e → pull F e q ≡ one → q x ≡ product F st ⊗ q u
      → product F (step_of e u x j ∷ st) ≢ one
  unfolding step_of
  first_apart ns (Link i j g) u x (inl r) st q l own back e =
      F.one_is_not_zero (sym own ∙ ap (λ t. q i ⊕ negated t)
      (ap (λ t. g ⊗ t) (ap q (sym r.1) ∙ back ∙ ap (λ t. product F st ⊗ q t) r.0) ∙ sym (times_assoc g (product F st) (q i)) ∙ ap (λ t. t ⊗ q i) e ∙ Algebra.one_times F (q i)) ∙ plus_negated (q i))
  first_apart ns (Link i j g) u x (inr r) st q l own back e =
      let f : product F st ≡ g = sym (Algebra.one_times F (product F st)) ∙ ap (λ t. t ⊗ product F st) (sym (F.times_inverse g l.2)) ∙ times_assoc g (inverse g) (product F st) ∙ ap (λ t. g ⊗ t) e ∙ times_one g in
      F.one_is_not_zero (sym own ∙ ap (λ t. t ⊕ negated (g ⊗ q j)) (ap q (sym r.1) ∙ back ∙ ap₂ (λ a b. a ⊗ q b) f r.0) ∙ plus_negated (g ⊗ q j))
  first_apart ns (Drain i) u x r st q l own back e = absurd r
  first_apart ns (Feed i) u x r st q l own back e = absurd r

  pub others_of : (own before : List ℕ) (a : ℕ) (after : List ℕ) → before ++ a ∷ after ≡ own → (xs : List ℕ) → ((b : ℕ) → IsIn b xs → IsIn b own) → (¬ IsIn a xs) → (b : ℕ) → IsIn b xs → IsIn b (before ++ after)
  others_of own before a after e xs sub h b i = elim (in_others b before a after (subst (λ t. IsIn b t) (sym e) (sub b i))) [ inl p ↦ absurd (h (subst (λ t. IsIn t xs) p i)) | inr k ↦ k ]

  -- the cycle of a quasi-tree is not breakeven
  pub not_breakeven : (ns own : List ℕ) → IsQuasiTree F ns (map ends own) → ((a : ℕ) → IsIn a own → LiesIn F ns (ends a)) → (k : ℕ) (w : List (ℕ × ℕ)) → (c : IsCycle ends own k w)
      → product F (steps own w k k c.closes) ≢ one
  unfolding steps
  not_breakeven ns own p lies k [] c = absurd c.has_arc
  not_breakeven ns own p lies k (x ∷ t) c =
      let r = split_at x.0 own c.closes.0 in
      let y = Weights.of_arc F ends ns own p.nodes_once lies (sym (length_map ends own) ∙ p.as_many) (Rigid.quasi_tree_rigid F ns (map ends own) p) r.0 x.0 r.1 r.2 in
      let walk = steps_walk own (r.0 ++ r.1) t x.1 k c.closes.2 (λ b i. others_of own r.0 x.0 r.1 r.2 (arcs_along t) (Ways.way_arcs ends own t x.1 k c.closes.2) c.arcs_once.0 b i) in
      first_apart ns (ends x.0) k x.1 c.closes.1 (steps own t x.1 k c.closes.2) y.weight (lies x.0 c.closes.0) y.own
      (Rigid.along F ns (map ends (r.0 ++ r.1)) y.weight
      (λ b i. let m = in_map_of ends b (r.0 ++ r.1) i in subst (LiesIn F ns) (sym m.2) (lies m.0 (subst (λ z. IsIn m.0 z) r.2 (in_with m.0 r.0 x.0 r.1 m.1))))
      (λ b i. let m = in_map_of ends b (r.0 ++ r.1) i in ap (λ z. pull F z y.weight) m.2 ∙ y.other m.0 m.1)
      (steps own t x.1 k c.closes.2) x.1 k walk)

  -- without an arc of a way its ends are joined to those of the way
  bypass : (own before : List ℕ) (a : ℕ) (after : List ℕ) → before ++ a ∷ after ≡ own → (w : List (ℕ × ℕ)) (u v : ℕ) → IsWay ends own u w v → AreDistinct (arcs_along w) → IsIn a (arcs_along w)
      → (p : ℕ) × (q : ℕ) × Joins (ends a) p q × AreJoined (map ends (before ++ after)) u p × AreJoined (map ends (before ++ after)) q v
  bypass own before a after e [] u v r d i = absurd i
  bypass own before a after e (x ∷ w) u v r d (inl m) = (
    u,
    x.1,
    subst (λ t. Joins (ends t) u x.1) (sym m) r.1,
    ([], refl),
    (steps own w x.1 v r.2, steps_walk own (before ++ after) w x.1 v r.2 (others_of own before a after e (arcs_along w) (Ways.way_arcs ends own w x.1 v r.2) (λ j. d.0 (subst (λ t. IsIn t (arcs_along w)) m j)))),
  )
  bypass own before a after e (x ∷ w) u v r d (inr i) =
      let b = bypass own before a after e w x.1 v r.2 d.1 i in
      let k : IsIn x.0 (before ++ after) = others_of own before a after e (x.0 ∷ []) (λ y. elim [ inl m ↦ subst (λ t. IsIn t own) (sym m) r.0 | inr z ↦ absurd z ]) (elim [ inl m ↦ d.0 (subst (λ t. IsIn t (arcs_along w)) m i) | inr z ↦ z ]) x.0 (inl refl) in
      (b.0, b.1, b.2, (step_of (ends x.0) u x.1 r.1 ∷ b.3.0, step_walk (map ends (before ++ after)) (ends x.0) u x.1 b.0 r.1 b.3.0 (in_map ends x.0 (before ++ after) k) b.3.1), b.4)

  joins_in : (ns : List ℕ) (e : Ends Scalar) (u x : ℕ) → Joins e u x → LiesIn F ns e → IsIn u ns
  joins_in ns (Link i j g) u x r l = elim r [ inl s ↦ subst (λ t. IsIn t ns) (sym s.0) l.0 | inr s ↦ subst (λ t. IsIn t ns) (sym s.0) l.1 ]
  joins_in ns (Drain i) u x r l = absurd r
  joins_in ns (Feed i) u x r l = absurd r

  pub starts : (ns own : List ℕ) → ((a : ℕ) → IsIn a own → LiesIn F ns (ends a)) → (k : ℕ) (w : List (ℕ × ℕ)) → IsCycle ends own k w → IsIn k ns
  starts ns own lies k [] c = absurd c.has_arc
  starts ns own lies k (x ∷ w) c = joins_in ns (ends x.0) k x.1 c.closes.1 (lies x.0 c.closes.0)

  -- an arc whose ends are joined without it, with what is more than a tree among the others: there is none in a quasi-tree
  no_bridge : (ns : List ℕ) (before : List (Ends Scalar)) (e : Ends Scalar) (after : List (Ends Scalar)) → IsQuasiTree F ns (before ++ e ∷ after) → (p q : ℕ) → Joins e p q → AreJoined (before ++ after) q p
      → (((b : Ends Scalar) × IsIn b (before ++ after) × HasOneEnd b)
      ⊎ ((v : ℕ) × (w : List (Step Scalar)) × IsIn v ns × IsWalk (before ++ after) v w v × (product F w ≢ one))) → ⊥
  no_bridge ns before (Link i j g) after s p q k r x = elim k [
    | inl m ↦ Spare.on_cycle F ns before i j g after s (subst (λ t. AreJoined (before ++ after) j t) m.0 (subst (λ t. AreJoined (before ++ after) t p) m.1 r)) x
    | inr m ↦ Spare.on_cycle F ns before i j g after s (Walks.joined_sym (before ++ after) i j (subst (λ t. AreJoined (before ++ after) i t) m.0 (subst (λ t. AreJoined (before ++ after) t p) m.1 r))) x
  ]
  no_bridge ns before (Drain i) after s p q k r x = absurd k
  no_bridge ns before (Feed i) after s p q k r x = absurd k

  -- an arc of one cycle of a quasi-tree stands in every other
  pub shared : (ns own : List ℕ) → IsQuasiTree F ns (map ends own) → ((a : ℕ) → IsIn a own → LiesIn F ns (ends a)) → (k : ℕ) (w : List (ℕ × ℕ)) → IsCycle ends own k w
      → (k' : ℕ) (w' : List (ℕ × ℕ)) → IsCycle ends own k' w' → (a : ℕ) → IsIn a (arcs_along w) → IsIn a (arcs_along w')
  shared ns own p lies k w c k' w' c' a i = elim (decide_in a (arcs_along w')) [ yes j ↦ j | no h ↦ absurd (none h) ]
    where
      r : (before : List ℕ) × (after : List ℕ) × (before ++ a ∷ after ≡ own)
      r = split_at a own (Ways.way_arcs ends own w k k c.closes a i)

      others : map ends (r.0 ++ r.1) ≡ map ends r.0 ++ map ends r.1
      others = map_append ends r.0 r.1

      split : map ends own ≡ map ends r.0 ++ ends a ∷ map ends r.1
      split = sym (ap (map ends) r.2) ∙ map_append ends r.0 (a ∷ r.1)

      b : (p : ℕ) × (q : ℕ) × Joins (ends a) p q × AreJoined (map ends (r.0 ++ r.1)) k p × AreJoined (map ends (r.0 ++ r.1)) q k
      b = bypass own r.0 a r.1 r.2 w k k c.closes c.arcs_once i

      none : (¬ IsIn a (arcs_along w')) → ⊥
      none h = no_bridge ns (map ends r.0) (ends a) (map ends r.1) (subst (IsQuasiTree F ns) split p) b.0 b.1 b.2
          (subst (λ t. AreJoined t b.1 b.0) others (Walks.joined_trans (map ends (r.0 ++ r.1)) b.1 k b.0 b.4 b.3))
          (inr (
            k',
            steps own w' k' k' c'.closes,
            starts ns own lies k' w' c',
            subst (λ t. IsWalk t k' (steps own w' k' k' c'.closes) k') others (steps_walk own (r.0 ++ r.1) w' k' k' c'.closes (others_of own r.0 a r.1 r.2 (arcs_along w') (Ways.way_arcs ends own w' k' k' c'.closes) h)),
            not_breakeven ns own p lies k' w' c',
          ))

  -- the least node of one cycle is at least that of the other
  below : (ns own : List ℕ) → IsQuasiTree F ns (map ends own) → ((a : ℕ) → IsIn a own → LiesIn F ns (ends a)) → (k : ℕ) (w : List (ℕ × ℕ)) → IsLeastFirst ends own k w
      → (k' : ℕ) (w' : List (ℕ × ℕ)) → IsLeastFirst ends own k' w' → k' ≤ k
  below ns own p lies k [] c k' w' c' = absurd c.goes_up
  below ns own p lies k (x ∷ w) c k' [] c' = absurd c'.goes_up
  below ns own p lies k (x ∷ w) c k' (y ∷ w') c' = go (Ways.at_arc ends own (y ∷ w') k' k' x.0 k x.1 c'.cycle.closes (shared ns own p lies k (x ∷ w) c.cycle k' (y ∷ w') c'.cycle x.0 (inl refl)) c.cycle.closes.1)
    where
      go : IsIn k (k' ∷ nodes_along (y ∷ w')) → k' ≤ k
      go (inl e) = omega arith
      go (inr i) = c'.is_least k i

  -- two walks of the cycle of a quasi-tree, least first, are the same
  pub one_cycle : (ns own : List ℕ) → IsQuasiTree F ns (map ends own) → ((a : ℕ) → IsIn a own → LiesIn F ns (ends a)) → (k : ℕ) (w : List (ℕ × ℕ)) → IsLeastFirst ends own k w
      → (k' : ℕ) (w' : List (ℕ × ℕ)) → IsLeastFirst ends own k' w' → (k ≡ k') × (w ≡ w')
  one_cycle ns own p lies k w c k' w' c' = (same, Alike.same_cycle ends own k w w' c c'' (shared ns own p lies k w c.cycle k' w' c'.cycle) (shared ns own p lies k' w' c'.cycle k w c.cycle))
    where
      same : k ≡ k'
      same = let a : k' ≤ k = below ns own p lies k w c k' w' c' in let b : k ≤ k' = below ns own p lies k' w' c' k w c in omega arith

      c'' : IsLeastFirst ends own k w'
      c'' = subst (λ t. IsLeastFirst ends own t w') (sym same) c'
