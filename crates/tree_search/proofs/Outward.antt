-- What leads outwards from the extra arc of a quasi-tree, arc by arc, each to a node that was not seen before: it holds every other arc.
use Rattle.std.proofs.Common.{◌≡◌, ◌≢◌, ◌⊎◌, inl, inr, sym, ap, refl, ◌∙◌, subst, ℕ, List, [], ◌∷◌, ◌++◌, length, map}
use Rattle.std.specs.Prelude.{⊤}
use Rattle.gain_graphs.specs.Field.{Field}
use Rattle.gain_graphs.specs.Arcs.{IsIn, Ends, Link, Drain, Feed, HasOneEnd, AreJoined}
use Rattle.gain_graphs.specs.Cycles.{arcs_along, nodes_along, Joins, IsWay, IsCycle}
use Rattle.gain_graphs.specs.QuasiTrees.{LiesIn, HasExtra, IsQuasiTree}
use Rattle.gain_graphs.proofs.Lists.{in_map, in_append, in_with, in_others, map_append, split_at, decide_in}
use Rattle.gain_graphs.proofs.Walks
use Rattle.gain_graphs.proofs.Ways
use Rattle.gain_graphs.proofs.Spare
use Rattle.gain_graphs.proofs.Cycles

module _ {Scalar : Type 0} (F : Field Scalar) where
  -- an arc whose ends are joined without it, with what is more than a tree among the others: there is none in a quasi-tree
  pub no_bridge : (ns : List ℕ) (before : List (Ends Scalar)) (e : Ends Scalar) (after : List (Ends Scalar)) → IsQuasiTree F ns (before ++ e ∷ after) → (p q : ℕ) → Joins e p q → AreJoined (before ++ after) q p
      → HasExtra F ns (before ++ after) → ⊥
  no_bridge ns before (Link i j g) after s p q k r x = elim k [
    | inl m ↦ Spare.on_cycle F ns before i j g after s (subst (λ t. AreJoined (before ++ after) j t) m.0 (subst (λ t. AreJoined (before ++ after) t p) m.1 r)) x
    | inr m ↦ Spare.on_cycle F ns before i j g after s (Walks.joined_sym (before ++ after) i j (subst (λ t. AreJoined (before ++ after) i t) m.0 (subst (λ t. AreJoined (before ++ after) t p) m.1 r))) x
  ]
  no_bridge ns before (Drain i) after s p q k r x = absurd k
  no_bridge ns before (Feed i) after s p q k r x = absurd k

module _ {Scalar : Type 0} (F : Field Scalar) (ends : ℕ → Ends Scalar) where
  open F use {one}

  -- each entry is a basic arc from a node that was seen before to one that was not
  abbrev pub IsOutward : List ℕ → List ℕ → List (ℕ × ℕ) → Type 0
  IsOutward own seen [] = ⊤
  IsOutward own seen (x ∷ rest) = (¬ IsIn x.1 seen) × ((u : ℕ) × IsIn u seen × Joins (ends x.0) u x.1) × IsIn x.0 own × IsOutward own (x.1 ∷ seen) rest

  -- the nodes and arcs of an extra arc: they stay joined, and stay one, in any arcs that hold them
  pub record StaysExtra (ns nodes arcs : List ℕ) (root : ℕ) : Type 0 where
    pub inside : IsIn root ns
    pub joined : (others : List ℕ) → ((a : ℕ) → IsIn a arcs → IsIn a others) → (u : ℕ) → IsIn u nodes → AreJoined (map ends others) u root
    pub extra : (others : List ℕ) → ((a : ℕ) → IsIn a arcs → IsIn a others) →
        HasExtra F ns (map ends others)

  pub reach : (own others : List ℕ) (root : ℕ) (seen : List ℕ) (steps : List (ℕ × ℕ)) → IsOutward own seen steps → ((u : ℕ) → IsIn u seen → AreJoined (map ends others) u root)
      → ((a : ℕ) → IsIn a (arcs_along steps) → IsIn a others) → (u : ℕ) → IsIn u seen ⊎ IsIn u (nodes_along steps) → AreJoined (map ends others) u root
  reach own others root seen [] o j sub u i = elim i [ inl k ↦ j u k | inr k ↦ absurd k ]
  reach own others root seen (x ∷ steps) o j sub u i =
      reach own others root (x.1 ∷ seen) steps o.3 (λ v. elim [
        | inl e ↦ subst (λ t. AreJoined (map ends others) t root) (sym e)
            (Walks.joined_trans (map ends others) x.1 o.1.0 root (
              Cycles.step_of F ends (ends x.0) x.1 o.1.0 (Ways.joins_back (ends x.0) o.1.0 x.1 o.1.2) ∷ [],
              Cycles.step_walk F ends (map ends others) (ends x.0) x.1 o.1.0 o.1.0 (Ways.joins_back (ends x.0) o.1.0 x.1 o.1.2) [] (in_map ends x.0 others (sub x.0 (inl refl))) refl,
            )
            (j o.1.0 o.1.1))
        | inr k ↦ j v k
      ]) (λ a k. sub a (inr k)) u (elim i [ inl k ↦ inl (inr k) | inr k ↦ elim k [ inl e ↦ inl (inl e) | inr l ↦ inr l ] ])

  -- every basic arc is of the extra arc or in the order
  pub complete : (ns own : List ℕ) → IsQuasiTree F ns (map ends own) → ((a : ℕ) → IsIn a own → LiesIn F ns (ends a))
      → (nodes arcs : List ℕ) (root : ℕ) → StaysExtra ns nodes arcs root → ((a : ℕ) → IsIn a arcs → IsIn a own)
      → (steps : List (ℕ × ℕ)) → IsOutward own nodes steps → ((a : ℕ) → IsIn a (arcs_along steps) → IsIn a own)
      → ((u : ℕ) → IsIn u ns → IsIn u nodes ⊎ IsIn u (nodes_along steps)) → (a : ℕ) → IsIn a own → IsIn a arcs ⊎ IsIn a (arcs_along steps)
  complete ns own p lies nodes arcs root x sub steps o sub_steps all a i = go (decide_in a arcs) (decide_in a (arcs_along steps))
    where
      go : Dec (IsIn a arcs) → Dec (IsIn a (arcs_along steps)) → IsIn a arcs ⊎ IsIn a (arcs_along steps)
      go (yes k) _ = inl k
      go (no h) (yes k) = inr k
      go (no h) (no l) = absurd (Spare.spare F ns (map ends r.0) (ends a) (map ends r.1) (sym (ap length split) ∙ p.as_many) (record {
        nodes_once = p.nodes_once;
        ends_inside = λ e k. p.ends_inside e (subst (λ t. IsIn e t) (sym split) (in_with e (map ends r.0) (ends a) (map ends r.1) k));
        root = root;
        inside = x.inside;
        joined = λ u k. subst (λ t. AreJoined t u root) others (reach own (r.0 ++ r.1) root nodes steps o (λ v j. x.joined (r.0 ++ r.1) keep v j) keep_steps u (all u k));
        extra = subst (λ t. HasExtra F ns t) others (x.extra (r.0 ++ r.1) keep);
      }))
        where
          r : (before : List ℕ) × (after : List ℕ) × (before ++ a ∷ after ≡ own)
          r = split_at a own i

          split : map ends own ≡ map ends r.0 ++ ends a ∷ map ends r.1
          split = sym (ap (map ends) r.2) ∙ map_append ends r.0 (a ∷ r.1)

          others : map ends (r.0 ++ r.1) ≡ map ends r.0 ++ map ends r.1
          others = map_append ends r.0 r.1

          keep : (b : ℕ) → IsIn b arcs → IsIn b (r.0 ++ r.1)
          keep b k = Cycles.others_of F ends own r.0 a r.1 r.2 arcs sub h b k

          keep_steps : (b : ℕ) → IsIn b (arcs_along steps) → IsIn b (r.0 ++ r.1)
          keep_steps b k = Cycles.others_of F ends own r.0 a r.1 r.2 (arcs_along steps) sub_steps l b k

  pub fresh : (own seen : List ℕ) (done : List (ℕ × ℕ)) (b v : ℕ) (later : List (ℕ × ℕ)) → IsOutward own seen (done ++ (b, v) ∷ later) → ¬ IsIn v seen
  fresh own seen [] b v later o = o.0
  fresh own seen (y ∷ done) b v later o = λ i. fresh own (y.1 ∷ seen) done b v later o.3 (inr i)

  pub not_before : (own seen : List ℕ) (done : List (ℕ × ℕ)) (b v : ℕ) (later : List (ℕ × ℕ)) → IsOutward own seen (done ++ (b, v) ∷ later) → (c z : ℕ) → IsIn c (arcs_along done) → Joins (ends c) v z → ⊥
  not_before own seen [] b v later o c z i j = i
  not_before own seen (y ∷ done) b v later o c z (inr i) j = not_before own (y.1 ∷ seen) done b v later o.3 c z i j
  not_before own seen (y ∷ done) b v later o c z (inl e) j =
      let f : ¬ IsIn v (y.1 ∷ seen) = fresh own (y.1 ∷ seen) done b v later o.3 in
      elim (Ways.joins_same (ends y.0) o.1.0 y.1 v z o.1.2 (subst (λ t. Joins (ends t) v z) e j)) [
        | inl m ↦ f (inr (subst (λ t. IsIn t seen) (sym m.0) o.1.1))
        | inr m ↦ f (inl m.0)
      ]

  -- the other arcs at a node come later, so inwards they are known before
  pub inward : (own seen : List ℕ) (done : List (ℕ × ℕ)) (b v : ℕ) (later : List (ℕ × ℕ)) → IsOutward own seen (done ++ (b, v) ∷ later)
      → (c z : ℕ) → IsIn c (arcs_along (done ++ (b, v) ∷ later)) → Joins (ends c) v z → (c ≢ b) → IsIn c (arcs_along later)
  inward own seen done b v later o c z i j n =
      elim (in_others c (arcs_along done) b (arcs_along later) (subst (λ t. IsIn c t) (Ways.arcs_append done ((b, v) ∷ later)) i)) [
        | inl e ↦ absurd (n e)
        | inr k ↦ elim (in_append c (arcs_along done) (arcs_along later) k) [ inl l ↦ absurd (not_before own seen done b v later o c z l j) | inr l ↦ l ]
      ]

  -- an arc with one end is an extra arc
  pub extra_one_end : (ns : List ℕ) (a v : ℕ) → IsIn v ns → HasOneEnd (ends a) → StaysExtra ns (v ∷ []) (a ∷ []) v
  extra_one_end ns a v i h = record {
    inside = i;
    joined = λ others k u. elim [ inl e ↦ ([], e) | inr j ↦ absurd j ];
    extra = λ others k. inl (ends a, in_map ends a others (k a (inl refl)), h);
  }

  suffix : (own others : List ℕ) (w : List (ℕ × ℕ)) (u v : ℕ) → IsWay ends own u w v → ((a : ℕ) → IsIn a (arcs_along w) → IsIn a others) → (x : ℕ) → IsIn x (nodes_along w) → AreJoined (map ends others) x v
  suffix own others [] u v r sub x i = absurd i
  suffix own others (y ∷ w) u v r sub x (inl e) = subst (λ t. AreJoined (map ends others) t v) (sym e) (Cycles.steps F ends own w y.1 v r.2, Cycles.steps_walk F ends own others w y.1 v r.2 (λ a k. sub a (inr k)))
  suffix own others (y ∷ w) u v r sub x (inr i) = suffix own others w y.1 v r.2 (λ a k. sub a (inr k)) x i

  -- and so is the cycle
  pub extra_cycle : (ns own : List ℕ) → IsQuasiTree F ns (map ends own) → ((a : ℕ) → IsIn a own → LiesIn F ns (ends a)) → (k : ℕ) (w : List (ℕ × ℕ)) → IsCycle ends own k w → StaysExtra ns (nodes_along w) (arcs_along w) k
  extra_cycle ns own p lies k w c = record {
    inside = Cycles.starts F ends ns own lies k w c;
    joined = λ others h u i. suffix own others w k k c.closes h u i;
    extra = λ others h. inr (k, Cycles.steps F ends own w k k c.closes, Cycles.starts F ends ns own lies k w c, Cycles.steps_walk F ends own others w k k c.closes h, Cycles.not_breakeven F ends ns own p lies k w c);
  }
