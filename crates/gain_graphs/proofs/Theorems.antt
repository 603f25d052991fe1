-- The laws, from the lemmas.
use Rattle.std.proofs.Common.{append_assoc, ◌≡◌, inl, inr, sym, ap, refl, ◌∙◌, subst, ℕ, List, [], ◌∷◌, ◌++◌, length, map, arith}
use Rattle.gain_graphs.specs.Field.{Field}
use Rattle.gain_graphs.specs.Arcs.{IsIn, AreDistinct, Ends, Step, Link, Drain, Feed, HasOneEnd, Touches, IsWalk, AreJoined, product, coefficient, balance, pull}
use Rattle.gain_graphs.specs.QuasiTrees.{LiesIn, IsQuasiTree}
use Rattle.gain_graphs.specs.Cycles.{IsNoLoop, IsWay, gain_along}
use Rattle.gain_graphs.specs.Laws as Laws
use Rattle.gain_graphs.proofs.Lists.{in_map, in_map_of, length_map, map_append, split_at, in_others, in_with, in_back}
use Rattle.gain_graphs.proofs.Algebra
use Rattle.gain_graphs.proofs.Sums
use Rattle.gain_graphs.proofs.Equations
use Rattle.gain_graphs.proofs.Walks
use Rattle.gain_graphs.proofs.Rigid
use Rattle.gain_graphs.proofs.Weights
use Rattle.gain_graphs.proofs.Flows
use Rattle.gain_graphs.proofs.Spare
use Rattle.gain_graphs.proofs.Ways
use Rattle.gain_graphs.proofs.Cycles
use Rattle.gain_graphs.proofs.Simple
use Rattle.gain_graphs.proofs.Turning
use Rattle.gain_graphs.proofs.Search
use Rattle.gain_graphs.proofs.Pieces

module _ {Scalar : Type 0} (F : Field Scalar) where
  infixl 60 ◌⊕◌
  infixl 70 ◌⊗◌
  open F use {zero, one, ◌⊕◌, ◌⊗◌, negated, plus_negated}

  pub lies : (ends : ℕ → Ends Scalar) (ns arcs : List ℕ) → IsQuasiTree F ns (map ends arcs) → (a : ℕ) → IsIn a arcs → LiesIn F ns (ends a)
  lies ends ns arcs p a i = p.ends_inside (ends a) (in_map ends a arcs i)

  as_many : (ends : ℕ → Ends Scalar) (ns arcs : List ℕ) → IsQuasiTree F ns (map ends arcs) → length arcs ≡ length ns
  as_many ends ns arcs p = sym (length_map ends arcs) ∙ p.as_many

  rigid : (ends : ℕ → Ends Scalar) (ns arcs : List ℕ) → IsQuasiTree F ns (map ends arcs) → Rigid.IsRigid F ns (map ends arcs)
  rigid ends ns arcs p = Rigid.quasi_tree_rigid F ns (map ends arcs) p

  pub pull_is_sum : Laws.PullIsSum F
  pull_is_sum ns e w d l = Rigid.dot_coefficient F ns e w d l

  pub potentials_exist : Laws.PotentialsExist F
  potentials_exist ends ns arcs p cost =
      let r = Weights.potentials F ends ns arcs p.nodes_once (lies ends ns arcs p) (as_many ends ns arcs p) (rigid ends ns arcs p) cost in
      (r.0, λ a i. ap (λ t. cost a ⊕ negated t) (r.1 a i) ∙ plus_negated (cost a))

  pub potentials_are_unique : Laws.PotentialsAreUnique F
  potentials_are_unique ends ns arcs p cost x y hx hy =
      Weights.same_potentials F ends ns arcs p x y (λ a i. sym (Algebra.same_of F (cost a) (pull F (ends a) x) (hx a i)) ∙ Algebra.same_of F (cost a) (pull F (ends a) y) (hy a i))

  pub weights_exist : Laws.WeightsExist F
  weights_exist ends ns arcs p a i =
      let s = split_at a arcs i in
      let w = Weights.of_arc F ends ns arcs p.nodes_once (lies ends ns arcs p) (as_many ends ns arcs p) (rigid ends ns arcs p) s.0 a s.1 s.2 in (
        w.weight,
        w.own,
        λ b j h. elim (in_others b s.0 a s.1 (subst (λ t. IsIn b t) (sym s.2) j)) [ inl e ↦ absurd (h e) | inr k ↦ w.other b k ],
      )

  -- a quasi-tree with one of its arcs marked
  pub marked : (ends : ℕ → Ends Scalar) (ns arcs : List ℕ) → IsQuasiTree F ns (map ends arcs) → (before : List ℕ) (a : ℕ) (after : List ℕ) → before ++ a ∷ after ≡ arcs
      → IsQuasiTree F ns (map ends before ++ ends a ∷ map ends after)
  marked ends ns arcs p before a after e = subst (λ t. IsQuasiTree F ns t) (sym (ap (map ends) e) ∙ map_append ends before (a ∷ after)) p

  -- no arc stands twice in a quasi-tree: the first could be spared
  stands_once : (ends : ℕ → Ends Scalar) (ns arcs : List ℕ) → IsQuasiTree F ns (map ends arcs) → (before : List ℕ) (a : ℕ) (after : List ℕ) → before ++ a ∷ after ≡ arcs → ¬ IsIn a after
  stands_once ends ns arcs p before a after e i = Spare.spare F ns (map ends before) (ends a) (map ends after) q.as_many (record {
    nodes_once = q.nodes_once;
    ends_inside = λ b k. q.ends_inside b (in_with b (map ends before) (ends a) (map ends after) k);
    root = q.some_node.0;
    inside = q.some_node.1;
    joined = λ v k. let w = q.joined v q.some_node.0 k q.some_node.1 in (w.0, over w.0 v q.some_node.0 w.1);
    extra = elim q.extra [ inl x ↦ inl (x.0, into x.0 x.1, x.2) | inr x ↦ inr (x.0, x.1, x.2, over x.1 x.0 x.0 x.3, x.4) ];
  })
    where
      q : IsQuasiTree F ns (map ends before ++ ends a ∷ map ends after)
      q = marked ends ns arcs p before a after e

      into : (b : Ends Scalar) → IsIn b (map ends before ++ ends a ∷ map ends after) → IsIn b (map ends before ++ map ends after)
      into b k = elim (in_others b (map ends before) (ends a) (map ends after) k) [
        | inl f ↦ subst (λ t. IsIn t (map ends before ++ map ends after)) (sym f) (in_back (ends a) (map ends before) (map ends after) (in_map ends a after i))
        | inr l ↦ l
      ]

      over : (w : List (Step Scalar)) (u v : ℕ) → IsWalk (map ends before ++ ends a ∷ map ends after) u w v → IsWalk (map ends before ++ map ends after) u w v
      over w u v k = (Walks.within (λ z. Unit {0}) (map ends before ++ ends a ∷ map ends after) (map ends before ++ map ends after) (λ x y g l t. (into (Link x y g) l, tt, tt)) w u v tt k).0

  pub once_from : (ends : ℕ → Ends Scalar) (ns arcs : List ℕ) → IsQuasiTree F ns (map ends arcs) → (before after : List ℕ) → before ++ after ≡ arcs → AreDistinct after
  once_from ends ns arcs p before [] e = record {}
  once_from ends ns arcs p before (a ∷ after) e = (stands_once ends ns arcs p before a after e, once_from ends ns arcs p (before ++ a ∷ []) after (append_assoc before (a ∷ []) after ∙ e))

  pub flow_exists : Laws.FlowExists F
  flow_exists ends ns arcs p supply = Flows.flow_exists F ends ns arcs p.nodes_once (lies ends ns arcs p) (as_many ends ns arcs p) (rigid ends ns arcs p) (once_from ends ns arcs p [] arcs refl) supply

  pub flow_is_unique : Laws.FlowIsUnique F
  flow_is_unique ends ns arcs p supply x y hx hy a i = found x hx ∙ sym (found y hy)
    where
      s : (before : List ℕ) × (after : List ℕ) × (before ++ a ∷ after ≡ arcs)
      s = split_at a arcs i

      w : Weights.WeightsOf F ends ns a (s.0 ++ s.1)
      w = Weights.of_arc F ends ns arcs p.nodes_once (lies ends ns arcs p) (as_many ends ns arcs p) (rigid ends ns arcs p) s.0 a s.1 s.2

      found : (z : ℕ → Scalar) → ((v : ℕ) → IsIn v ns → balance F ends z arcs v ≡ supply v) → z a ≡ Equations.dot F ns supply w.weight
      found z h = Weights.by_weights F ends ns z s.0 a s.1 supply p.nodes_once (λ b j. lies ends ns arcs p b (subst (λ t. IsIn b t) s.2 j)) w
          (λ v j. ap (λ t. balance F ends z t v) s.2 ∙ h v j)

  pub no_circulation : Laws.NoCirculation F
  no_circulation ends ns arcs p x h a i =
      flow_is_unique ends ns arcs p (λ v. zero) x (λ b. zero) h (λ v j. Sums.total_zero F (λ b. coefficient F (ends b) v ⊗ zero) arcs (λ b k. Algebra.times_zero F (coefficient F (ends b) v))) a i

  sound : (ends : ℕ → Ends Scalar) (ns arcs : List ℕ) → IsQuasiTree F ns (map ends arcs) → ((a : ℕ) → IsIn a arcs → IsNoLoop (ends a))
      → (a : ℕ) → IsIn a arcs → Simple.IsSound F ends (ends a)
  sound ends ns arcs p no_loop a i = go (ends a) (lies ends ns arcs p a i) (no_loop a i)
    where
      go : (e : Ends Scalar) → LiesIn F ns e → IsNoLoop e → Simple.IsSound F ends e
      go (Link i j g) l h = (h, l.2)
      go (Drain i) l h = tt
      go (Feed i) l h = tt

  pub extra_exists : Laws.ExtraExists F
  extra_exists ends ns arcs p no_loop = elim (Turning.has_extra F ends ns arcs p (sound ends ns arcs p no_loop)) [
    | inl x ↦ inl (let r = in_map_of ends x.0 arcs x.1 in (r.0, r.1, subst HasOneEnd r.2 x.2))
    | inr x ↦ inr x
  ]

  pub one_end_is_unique : Laws.OneEndIsUnique F
  one_end_is_unique ends ns arcs p a b i j h k = elim (in_others b s.0 a s.1 (subst (λ t. IsIn b t) (sym s.2) j)) [
    | inl e ↦ sym e
    | inr m ↦ absurd (Spare.one_extra F ns (map ends s.0) (ends a) (map ends s.1) (marked ends ns arcs p s.0 a s.1 s.2) h
        (inl (ends b, subst (λ t. IsIn (ends b) t) (map_append ends s.0 s.1) (in_map ends b (s.0 ++ s.1) m), k)))
  ]
    where
      s : (before : List ℕ) × (after : List ℕ) × (before ++ a ∷ after ≡ arcs)
      s = split_at a arcs i

  pub not_both : Laws.NotBoth F
  not_both ends ns arcs p a i h start way c =
      let s = split_at a arcs i in
      let q = lies ends ns arcs p in
      Spare.one_extra F ns (map ends s.0) (ends a) (map ends s.1) (marked ends ns arcs p s.0 a s.1 s.2) h (inr (
        start,
        Cycles.steps F ends arcs way start start c.closes,
        Cycles.starts F ends ns arcs q start way c,
        subst (λ t. IsWalk t start (Cycles.steps F ends arcs way start start c.closes) start) (sym (ap (map ends) s.2) ∙ map_append ends s.0 (a ∷ s.1))
            (Cycles.steps_walk F ends arcs arcs way start start c.closes (λ b j. Ways.way_arcs ends arcs way start start c.closes b j)),
        Cycles.not_breakeven F ends ns arcs p q start way c,
      ))

  pub cycle_is_unique : Laws.CycleIsUnique F
  cycle_is_unique ends ns arcs p start way c other round d a =
      let q = lies ends ns arcs p in
      (Cycles.shared F ends ns arcs p q start way c other round d a, Cycles.shared F ends ns arcs p q other round d start way c a)

  pub least_first_exists : Laws.LeastFirstExists F
  least_first_exists ends ns arcs p no_loop start way c = elim (extra_exists ends ns arcs p no_loop) [
    | inl x ↦ absurd (not_both ends ns arcs p x.0 x.1 x.2 start way c)
    | inr x ↦ x
  ]

  pub least_first_is_unique : Laws.LeastFirstIsUnique F
  least_first_is_unique ends ns arcs p start way c other round d = Cycles.one_cycle F ends ns arcs p (lies ends ns arcs p) start way c other round d

  -- the gain along a way is the product of its steps
  gain_is_product : (ends : ℕ → Ends Scalar) (arcs : List ℕ) → ((a : ℕ) → IsIn a arcs → Simple.IsSound F ends (ends a)) → (way : List (ℕ × ℕ)) (u v : ℕ) (r : IsWay ends arcs u way v)
      → gain_along F ends u way ≡ product F (Cycles.steps F ends arcs way u v r)
  unfolding Cycles.steps
  gain_is_product ends arcs h [] u v r = refl
  gain_is_product ends arcs h (x ∷ way) u v r = Simple.gain_of_step F ends (ends x.0) u x.1 (h x.0 r.0) r.1 (Cycles.steps F ends arcs way x.1 v r.2) (gain_along F ends x.1 way) (gain_is_product ends arcs h way x.1 v r.2)

  pub cycle_is_not_breakeven : Laws.CycleIsNotBreakeven F
  cycle_is_not_breakeven ends ns arcs p no_loop start way c e =
      Cycles.not_breakeven F ends ns arcs p (lies ends ns arcs p) start way c (sym (gain_is_product ends arcs (sound ends ns arcs p no_loop) way start start c.closes) ∙ e)

  pub piece_exists : Laws.PieceExists F
  piece_exists n ends basic once valid v h = let r = Search.piece_of F n ends basic once valid v h in (r.least, r.nodes, r.arcs, r.piece, r.holds)

  wider : (ns ms : List ℕ) (e : Ends Scalar) → ((v : ℕ) → IsIn v ns → IsIn v ms) → Touches ns e → Touches ms e
  wider ns ms (Link i j g) h t = elim t [ inl x ↦ inl (h i x) | inr x ↦ inr (h j x) ]
  wider ns ms (Drain i) h t = h i t
  wider ns ms (Feed i) h t = h i t

  pub piece_is_unique : Laws.PieceIsUnique F
  piece_is_unique n ends basic least ns arcs p first ms its q v i j = (
    omega (arith, p.is_least first (back first q.has_least), q.is_least least (on least p.has_least)),
    λ u. (on u, back u),
    λ a. (
      (λ k. let r = (p.touched a).0 k in (q.touched a).1 (r.0, wider ns ms (ends a) on r.1)),
      (λ k. let r = (q.touched a).0 k in (p.touched a).1 (r.0, wider ms ns (ends a) back r.1)),
    ),
  )
    where
      -- each node of a piece is joined to the common one
      across : (s t : ℕ) → AreJoined (map ends basic) s v → AreJoined (map ends basic) t v → (u : ℕ) → AreJoined (map ends basic) s u → AreJoined (map ends basic) t u
      across s t x y u z = Walks.joined_trans (map ends basic) t v u y (Walks.joined_trans (map ends basic) v s u (Walks.joined_sym (map ends basic) s v x) z)

      on : (u : ℕ) → IsIn u ns → IsIn u ms
      on u k = let r = (p.joined u).0 k in (q.joined u).1 (r.0, across least first ((p.joined v).0 i).1 ((q.joined v).0 j).1 u r.1)

      back : (u : ℕ) → IsIn u ms → IsIn u ns
      back u k = let r = (q.joined u).0 k in (p.joined u).1 (r.0, across first least ((q.joined v).0 j).1 ((p.joined v).0 i).1 u r.1)

  pub piece_is_kept : Laws.PieceIsKept F
  piece_is_kept n ends basic other valid least ns arcs p same = Pieces.kept F n ends basic other least ns arcs p valid same
