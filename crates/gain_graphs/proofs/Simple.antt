-- A closed walk that is not breakeven holds a cycle.
use Rattle.std.proofs.Common.{◌≡◌, ◌≢◌, ◌⊎◌, inl, inr, sym, ap, refl, ◌∙◌, subst, ap₂, ℕ, List, [], ◌∷◌, map, cond, nat_eq, Bool, true, false, eqb-true, eq-eqb}
use Rattle.gain_graphs.specs.Field.{Field}
use Rattle.gain_graphs.specs.Arcs.{IsIn, AreDistinct, Ends, Link, Drain, Feed, Step, Along, Against, IsWalk, product}
use Rattle.gain_graphs.specs.Cycles.{arcs_along, nodes_along, Joins, IsWay, gain_from, gain_along}
use Rattle.gain_graphs.proofs.Lists.{in_map_of, decide_in}
use Rattle.gain_graphs.proofs.Algebra
use Rattle.gain_graphs.proofs.Ways
use Rattle.gain_graphs.proofs.Cycles

module _ {Scalar : Type 0} (F : Field Scalar) (ends : ℕ → Ends Scalar) where
  infixl 70 ◌⊗◌
  open F use {zero, one, ◌⊗◌, inverse, times_assoc, times_one, times_inverse}

  -- a link's ends differ, and its gain is not 0
  abbrev pub IsSound : Ends Scalar → Type 0
  IsSound (Link i j g) = (i ≢ j) × (g ≢ zero)
  IsSound (Drain i) = Unit {0}
  IsSound (Feed i) = Unit {0}

  gain_tail : (i j : ℕ) (g : Scalar) (u : ℕ) → u ≡ i → gain_from F (Link i j g) u ≡ g
  gain_tail i j g u e = rw (eq-eqb u i e)

  gain_head : (i j : ℕ) (g : Scalar) (u : ℕ) → (i ≢ j) → u ≡ j → gain_from F (Link i j g) u ≡ inverse g
  gain_head i j g u n e = go (nat_eq u i) refl
    where
      go : (b : Bool) → nat_eq u i ≡ b → cond b g (inverse g) ≡ inverse g
      go true m = absurd (n (sym (eqb-true u i m) ∙ e))
      go false m = refl

  -- there and back
  gain_back : (e : Ends Scalar) (u x : ℕ) → IsSound e → Joins e u x → gain_from F e u ⊗ gain_from F e x ≡ one
  gain_back (Link i j g) u x s r = elim r [
    | inl m ↦ ap₂ (λ a b. a ⊗ b) (gain_tail i j g u m.0) (gain_head i j g x s.0 m.1) ∙ times_inverse g s.1
    | inr m ↦ ap₂ (λ a b. a ⊗ b) (gain_head i j g u s.0 m.0) (gain_tail i j g x m.1) ∙ Algebra.inverse_times F g s.1
  ]
  gain_back (Drain i) u x s r = absurd r
  gain_back (Feed i) u x s r = absurd r

  pub apart_ends : (e : Ends Scalar) (u x : ℕ) → IsSound e → Joins e u x → u ≢ x
  apart_ends (Link i j g) u x s r m = elim r [ inl k ↦ s.0 (sym k.0 ∙ m ∙ k.1) | inr k ↦ s.0 (sym k.1 ∙ sym m ∙ k.0) ]
  apart_ends (Drain i) u x s r m = absurd r
  apart_ends (Feed i) u x s r m = absurd r

  -- a walk of links as a way
  way_of : (own : List ℕ) → ((a : ℕ) → IsIn a own → IsSound (ends a)) → (st : List (Step Scalar)) (u v : ℕ) → IsWalk (map ends own) u st v → (w : List (ℕ × ℕ)) × IsWay ends own u w v × (gain_along F ends u w ≡ product F st)
  way_of own sound [] u v k = ([], k, refl)
  way_of own sound (Along i j g ∷ st) u v k =
      let m = in_map_of ends (Link i j g) own k.1 in
      let r = way_of own sound st j v k.2 in (
        (m.0, j) ∷ r.0,
        (m.1, subst (λ t. Joins t u j) m.2 (inl (k.0, refl)), r.1),
        ap₂ (λ a b. a ⊗ b) (ap (λ t. gain_from F t u) (sym m.2) ∙ gain_tail i j g u k.0) r.2,
      )
  way_of own sound (Against i j g ∷ st) u v k =
      let m = in_map_of ends (Link i j g) own k.1 in
      let r = way_of own sound st i v k.2 in (
        (m.0, i) ∷ r.0,
        (m.1, subst (λ t. Joins t u i) m.2 (inr (k.0, refl)), r.1),
        ap₂ (λ a b. a ⊗ b) (ap (λ t. gain_from F t u) (sym m.2) ∙ gain_head i j g u (subst IsSound (sym m.2) (sound m.0 m.1)).0 k.0) r.2,
      )

  -- the gain of a link that is left at a node is that of the step over it
  pub gain_of_step : (e : Ends Scalar) (u x : ℕ) → IsSound e → (r : Joins e u x) (st : List (Step Scalar)) (t : Scalar) → t ≡ product F st
      → gain_from F e u ⊗ t ≡ product F (Cycles.step_of F ends e u x r ∷ st)
  unfolding Cycles.step_of
  gain_of_step (Link i j g) u x s (inl r) st t e = ap₂ (λ a b. a ⊗ b) (gain_tail i j g u r.0) e
  gain_of_step (Link i j g) u x s (inr r) st t e = ap₂ (λ a b. a ⊗ b) (gain_head i j g u s.0 r.0) e
  gain_of_step (Drain i) u x s r st t e = absurd r
  gain_of_step (Feed i) u x s r st t e = absurd r

  -- a way without a node twice has no arc twice
  path_arcs : (own : List ℕ) (w : List (ℕ × ℕ)) (u v : ℕ) → IsWay ends own u w v → AreDistinct (u ∷ nodes_along w) → AreDistinct (arcs_along w)
  path_arcs own [] u v r d = record {}
  path_arcs own (x ∷ w) u v r d = ((λ i. d.0 (Ways.at_arc ends own w x.1 v x.0 u x.1 r.2 i r.1)), path_arcs own w x.1 v r.2 d.1)

  record Cut (own : List ℕ) (y u v : ℕ) (w : List (ℕ × ℕ)) : Type 0 where
    pre : List (ℕ × ℕ)
    suf : List (ℕ × ℕ)
    to_u : IsWay ends own y pre u
    from_u : IsWay ends own u suf v
    pre_once : AreDistinct (y ∷ nodes_along pre)
    suf_once : AreDistinct (u ∷ nodes_along suf)
    sub : (z : ℕ) → IsIn z (nodes_along pre) → IsIn z (nodes_along w)
    gains : gain_along F ends y w ≡ gain_along F ends y pre ⊗ gain_along F ends u suf

  cut_at : (own : List ℕ) (w : List (ℕ × ℕ)) (y u v : ℕ) → IsWay ends own y w v → AreDistinct (y ∷ nodes_along w) → IsIn u (nodes_along w) → Cut own y u v w
  cut_at own [] y u v r d i = absurd i
  cut_at own (x ∷ w) y u v r d (inl e) = record {
    pre = (x.0, u) ∷ [];
    suf = w;
    to_u = (r.0, subst (λ t. Joins (ends x.0) y t) (sym e) r.1, refl);
    from_u = subst (λ t. IsWay ends own t w v) (sym e) r.2;
    pre_once = ((λ i. elim i [ inl m ↦ d.0 (inl (m ∙ e)) | inr z ↦ z ]), ((λ z. z), record {}));
    suf_once = subst (λ t. AreDistinct (t ∷ nodes_along w)) (sym e) d.1;
    sub = λ z. elim [ inl m ↦ inl (m ∙ e) | inr k ↦ absurd k ];
    gains = ap₂ (λ a b. a ⊗ b) (sym (times_one (gain_from F (ends x.0) y))) (ap (λ t. gain_along F ends t w) (sym e));
  }
  cut_at own (x ∷ w) y u v r d (inr i) =
      let c = cut_at own w x.1 u v r.2 d.1 i in
      record {
        pre = x ∷ c.pre;
        suf = c.suf;
        to_u = (r.0, r.1, c.to_u);
        from_u = c.from_u;
        pre_once = ((λ k. elim k [ inl m ↦ d.0 (inl m) | inr l ↦ d.0 (inr (c.sub y l)) ]), c.pre_once);
        suf_once = c.suf_once;
        sub = λ z. elim [ inl m ↦ inl m | inr k ↦ inr (c.sub z k) ];
        gains = ap (λ t. gain_from F (ends x.0) y ⊗ t) c.gains ∙ sym (times_assoc (gain_from F (ends x.0) y) (gain_along F ends x.1 c.pre) (gain_along F ends u c.suf));
      }

  -- a closed way back over the arc that it began with is that arc alone
  back_forth : (own : List ℕ) (pre : List (ℕ × ℕ)) (y u a : ℕ) → IsWay ends own y pre u → AreDistinct (y ∷ nodes_along pre) → Joins (ends a) u y → IsIn a (arcs_along pre) → gain_along F ends y pre ≡ gain_from F (ends a) y
  back_forth own [] y u a r d j i = absurd i
  back_forth own (x ∷ pre) y u a r d j (inr i) = absurd (d.0 (Ways.at_arc ends own pre x.1 u a y u r.2 i (Ways.joins_back (ends a) u y j)))
  back_forth own (x ∷ []) y u a r d j (inl e) = times_one (gain_from F (ends x.0) y) ∙ ap (λ t. gain_from F (ends t) y) (sym e)
  back_forth own (x ∷ z ∷ pre) y u a r d j (inl e) =
      let m : x.1 ≡ u = Ways.other_end (ends x.0) y x.1 u r.1 (Ways.joins_back (ends x.0) u y (subst (λ t. Joins (ends t) u y) e j)) in
      absurd (d.1.0 (subst (λ t. IsIn t (nodes_along (z ∷ pre))) (sym m) (Ways.last_node ends own pre x.1 u z r.2)))

  -- a closed way without a node or an arc twice
  pub record SomeCycle (own : List ℕ) : Type 0 where
    pub start : ℕ
    pub first : ℕ × ℕ
    pub rest : List (ℕ × ℕ)
    pub closes : IsWay ends own start (first ∷ rest) start
    pub arcs_once : AreDistinct (arcs_along (first ∷ rest))
    pub nodes_once : AreDistinct (nodes_along (first ∷ rest))

  PathOf : List ℕ → ℕ → ℕ → Scalar → Type 0
  PathOf own u v g = (w : List (ℕ × ℕ)) × IsWay ends own u w v × AreDistinct (u ∷ nodes_along w) × (g ≡ gain_along F ends u w)

  -- detours are cut out: each is there and back, or a cycle
  erase : (own : List ℕ) → ((a : ℕ) → IsIn a own → IsSound (ends a)) → (w : List (ℕ × ℕ)) (u v : ℕ) → IsWay ends own u w v → PathOf own u v (gain_along F ends u w) ⊎ SomeCycle own
  unfolding PathOf
  erase own sound [] u v r = inl ([], r, ((λ z. z), record {}), refl)
  erase own sound (x ∷ w) u v r = go (erase own sound w x.1 v r.2)
    where
      loop : (w' : List (ℕ × ℕ)) → (gain_along F ends x.1 w ≡ gain_along F ends x.1 w') → Cut own x.1 u v w' → PathOf own u v (gain_along F ends u (x ∷ w)) ⊎ SomeCycle own
      loop w' e c = elim (decide_in x.0 (arcs_along c.pre)) [
        | yes i ↦ inl (
          c.suf,
          c.from_u,
          c.suf_once,
          ap (λ t. gain_from F (ends x.0) u ⊗ t) (e ∙ c.gains ∙ ap (λ t. t ⊗ gain_along F ends u c.suf) (back_forth own c.pre x.1 u x.0 c.to_u c.pre_once r.1 i))
              ∙ sym (times_assoc (gain_from F (ends x.0) u) (gain_from F (ends x.0) x.1) (gain_along F ends u c.suf)) ∙ ap (λ t. t ⊗ gain_along F ends u c.suf) (gain_back (ends x.0) u x.1 (sound x.0 r.0) r.1) ∙ Algebra.one_times F (gain_along F ends u c.suf),
        )
        | no h ↦ inr (record { start = u; first = x; rest = c.pre; closes = (r.0, r.1, c.to_u); arcs_once = (h, path_arcs own c.pre x.1 u c.to_u c.pre_once); nodes_once = c.pre_once })
      ]

      go : PathOf own x.1 v (gain_along F ends x.1 w) ⊎ SomeCycle own → PathOf own u v (gain_along F ends u (x ∷ w)) ⊎ SomeCycle own
      go (inr s) = inr s
      go (inl y) = elim (decide_in u (nodes_along y.0)) [
        | yes i ↦ loop y.0 y.3 (cut_at own y.0 x.1 u v y.1 y.2 i)
        | no h ↦ inl (x ∷ y.0, (r.0, r.1, y.1), ((λ k. elim k [ inl m ↦ apart_ends (ends x.0) u x.1 (sound x.0 r.0) r.1 m | inr l ↦ h l ]), y.2), ap (λ t. gain_from F (ends x.0) u ⊗ t) y.3)
      ]

  pub simple : (own : List ℕ) → ((a : ℕ) → IsIn a own → IsSound (ends a)) → (st : List (Step Scalar)) (v : ℕ) → IsWalk (map ends own) v st v → product F st ≢ one → SomeCycle own
  unfolding PathOf
  simple own sound st v k n = go (erase own sound r.0 v v r.1)
    where
      r : (w : List (ℕ × ℕ)) × IsWay ends own v w v × (gain_along F ends v w ≡ product F st)
      r = way_of own sound st v v k

      none : (w : List (ℕ × ℕ)) → IsWay ends own v w v → AreDistinct (v ∷ nodes_along w) → gain_along F ends v r.0 ≡ gain_along F ends v w → ⊥
      none [] c d e = n (sym r.2 ∙ e)
      none (x ∷ w) c d e = d.0 (Ways.last_node ends own w v v x c)

      go : PathOf own v v (gain_along F ends v r.0) ⊎ SomeCycle own → SomeCycle own
      go (inl y) = absurd (none y.0 y.1 y.2 y.3)
      go (inr s) = s
