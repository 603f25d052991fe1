-- A cycle from its least node, along the lower of its two arcs there.
use Rattle.std.proofs.Common.{◌≡◌, ◌⊎◌, inl, inr, sym, ap, refl, ◌∙◌, subst, ℕ, zero, ◌<◌, ◌≤◌, List, [], ◌∷◌, ◌++◌, map, arith}
use Rattle.gain_graphs.specs.Field.{Field}
use Rattle.gain_graphs.specs.Arcs.{IsIn, AreDistinct, Ends, HasOneEnd}
use Rattle.gain_graphs.specs.QuasiTrees.{IsQuasiTree}
use Rattle.gain_graphs.specs.Cycles.{arcs_along, nodes_along, last_arc, GoesUp, HasArc, IsWay, IsLeastFirst}
use Rattle.gain_graphs.proofs.Lists.{in_front, in_back, in_append, swap_once}
use Rattle.gain_graphs.proofs.Selected
use Rattle.gain_graphs.proofs.Ways
use Rattle.gain_graphs.proofs.Simple

-- back to front, before the entries of `acc`
abbrev pub onto : List ℕ → List ℕ → List ℕ
onto [] acc = acc
onto (x ∷ xs) acc = onto xs (x ∷ acc)

pub onto_once : (xs acc : List ℕ) → AreDistinct xs → AreDistinct acc → ((z : ℕ) → IsIn z xs → ¬ IsIn z acc) → AreDistinct (onto xs acc)
onto_once [] acc d e h = e
onto_once (x ∷ xs) acc d e h = onto_once xs (x ∷ acc) d.1 (h x (inl refl), e)
    (λ z i k. elim k [ inl m ↦ d.0 (subst (λ t. IsIn t xs) m i) | inr l ↦ h z (inr i) l ])

pub onto_holds : (xs acc : List ℕ) (z : ℕ) → IsIn z (onto xs acc) → IsIn z xs ⊎ IsIn z acc
onto_holds [] acc z i = inr i
onto_holds (x ∷ xs) acc z i = elim (onto_holds xs (x ∷ acc) z i) [ inl k ↦ inl (inr k) | inr k ↦ elim k [ inl m ↦ inl (inl m) | inr l ↦ inr l ] ]

-- the nodes that the arcs of a way are left from
abbrev sources : ℕ → List (ℕ × ℕ) → List ℕ
sources u [] = []
sources u (x ∷ w) = u ∷ sources x.1 w

-- a way walked back
abbrev back : ℕ → List (ℕ × ℕ) → List (ℕ × ℕ) → List (ℕ × ℕ)
back u [] acc = acc
back u (x ∷ w) acc = back x.1 w ((x.0, u) ∷ acc)

back_arcs : (u : ℕ) (w acc : List (ℕ × ℕ)) → arcs_along (back u w acc) ≡ onto (arcs_along w) (arcs_along acc)
back_arcs u [] acc = refl
back_arcs u (x ∷ w) acc = back_arcs x.1 w ((x.0, u) ∷ acc)

back_nodes : (u : ℕ) (w acc : List (ℕ × ℕ)) → nodes_along (back u w acc) ≡ onto (sources u w) (nodes_along acc)
back_nodes u [] acc = refl
back_nodes u (x ∷ w) acc = back_nodes x.1 w ((x.0, u) ∷ acc)

last_back : (u : ℕ) (w : List (ℕ × ℕ)) (d e : ℕ) (b : ℕ × ℕ) (acc : List (ℕ × ℕ)) → last_arc d (back u w (b ∷ acc)) ≡ last_arc e (b ∷ acc)
last_back u [] d e b acc = refl
last_back u (x ∷ w) d e b acc = last_back x.1 w d e (x.0, u) (b ∷ acc)

first_back : (u : ℕ) (x : ℕ × ℕ) (w acc : List (ℕ × ℕ)) → (z : ℕ) × (rest : List (ℕ × ℕ)) × (back u (x ∷ w) acc ≡ ((last_arc x.0 w, z) ∷ rest))
first_back u x [] acc = (u, acc, refl)
first_back u x (y ∷ w) acc = first_back x.1 y w ((x.0, u) ∷ acc)

last_in : (d : ℕ) (x : ℕ × ℕ) (w : List (ℕ × ℕ)) → IsIn (last_arc d (x ∷ w)) (arcs_along (x ∷ w))
last_in d x [] = inl refl
last_in d x (y ∷ w) = inr (last_in x.0 y w)

module _ {Scalar : Type 0} (F : Field Scalar) (ends : ℕ → Ends Scalar) where
  open F use {one}

  way_back : (own : List ℕ) (w acc : List (ℕ × ℕ)) (u v z : ℕ) → IsWay ends own u w v → IsWay ends own u acc z → IsWay ends own v (back u w acc) z
  way_back own [] acc u v z r s = subst (λ t. IsWay ends own t acc z) r s
  way_back own (x ∷ w) acc u v z r s = way_back own w ((x.0, u) ∷ acc) x.1 v z r.2 (r.0, Ways.joins_back (ends x.0) u x.1 r.1, s)

  sources_end : (own : List ℕ) (w : List (ℕ × ℕ)) (u v : ℕ) → IsWay ends own u w v → sources u w ++ v ∷ [] ≡ u ∷ nodes_along w
  sources_end own [] u v r = ap (λ t. t ∷ []) (sym r)
  sources_end own (x ∷ w) u v r = ap (λ t. u ∷ t) (sources_end own w x.1 v r.2)

  take_apart : (own : List ℕ) (w : List (ℕ × ℕ)) (u k m : ℕ) → IsWay ends own u w k → IsIn m (nodes_along w) → (pre : List (ℕ × ℕ)) × (suf : List (ℕ × ℕ)) × (pre ++ suf ≡ w) × IsWay ends own u pre m × IsWay ends own m suf k
  take_apart own [] u k m r i = absurd i
  take_apart own (x ∷ w) u k m r (inl e) = (x ∷ [], w, refl, (r.0, r.1, sym e), subst (λ t. IsWay ends own t w k) (sym e) r.2)
  take_apart own (x ∷ w) u k m r (inr i) =
      let t = take_apart own w x.1 k m r.2 i in
      (x ∷ t.0, t.1, ap (λ y. x ∷ y) t.2, (r.0, r.1, t.3), t.4)

  -- a closed way from its least node
  record Turned (own : List ℕ) : Type 0 where
    least : ℕ
    way : List (ℕ × ℕ)
    closes : IsWay ends own least way least
    arcs_once : AreDistinct (arcs_along way)
    nodes_once : AreDistinct (nodes_along way)
    is_least : (v : ℕ) → IsIn v (nodes_along way) → least ≤ v
    some : IsIn least (nodes_along way)

  turn : (own : List ℕ) → Simple.SomeCycle F ends own → Turned own
  turn own s =
      let w = s.first ∷ s.rest in
      let l = Selected.least_of s.first.1 (nodes_along s.rest) in
      let t = take_apart own w s.start s.start l.0 s.closes l.1 in
      let n : nodes_along (t.1 ++ t.0) ≡ nodes_along t.1 ++ nodes_along t.0 = Ways.nodes_append t.1 t.0 in
      let n' : nodes_along w ≡ nodes_along t.0 ++ nodes_along t.1 = ap nodes_along (sym t.2) ∙ Ways.nodes_append t.0 t.1 in
      record {
        least = l.0;
        way = t.1 ++ t.0;
        closes = Ways.way_append ends own t.1 t.0 l.0 s.start l.0 t.4 t.3;
        arcs_once = subst AreDistinct (sym (Ways.arcs_append t.1 t.0)) (swap_once (arcs_along t.0) (arcs_along t.1) (subst AreDistinct (ap arcs_along (sym t.2) ∙ Ways.arcs_append t.0 t.1) s.arcs_once));
        nodes_once = subst AreDistinct (sym n) (swap_once (nodes_along t.0) (nodes_along t.1) (subst AreDistinct n' s.nodes_once));
        is_least = λ v i. l.2 v (subst (λ y. IsIn v y) (sym n') (elim (in_append v (nodes_along t.1) (nodes_along t.0) (subst (λ y. IsIn v y) n i)) [
          | inl k ↦ in_back v (nodes_along t.0) (nodes_along t.1) k
          | inr k ↦ in_front v (nodes_along t.0) (nodes_along t.1) k
        ]));
        some = subst (λ y. IsIn l.0 y) (sym n) (elim (in_append l.0 (nodes_along t.0) (nodes_along t.1) (subst (λ y. IsIn l.0 y) n' l.1)) [
          | inl k ↦ in_back l.0 (nodes_along t.1) (nodes_along t.0) k
          | inr k ↦ in_front l.0 (nodes_along t.1) (nodes_along t.0) k
        ]);
      }

  orient : (own : List ℕ) → ((a : ℕ) → IsIn a own → Simple.IsSound F ends (ends a)) → (k : ℕ) (w : List (ℕ × ℕ)) → IsWay ends own k w k → AreDistinct (arcs_along w) → AreDistinct (nodes_along w)
      → ((v : ℕ) → IsIn v (nodes_along w) → k ≤ v) → IsIn k (nodes_along w) → (w' : List (ℕ × ℕ)) × IsLeastFirst ends own k w'
  orient own sound k [] r a n l s = absurd s
  orient own sound k (x ∷ []) r a n l s = absurd (Simple.apart_ends F ends (ends x.0) k x.1 (sound x.0 r.0) r.1 (sym r.2))
  orient own sound k (x ∷ y ∷ w) r a n l s = go (cases x.0 (last_arc y.0 w))
    where
      cases : (p q : ℕ) → (p < q) ⊎ ((p ≡ q) ⊎ (q < p))
      cases p q = grind arith

      back' : List (ℕ × ℕ)
      back' = back k (x ∷ y ∷ w) []

      -- the sources are the nodes, in another order
      src : sources x.1 (y ∷ w) ++ k ∷ [] ≡ nodes_along (x ∷ y ∷ w)
      src = sources_end own (y ∷ w) x.1 k r.2

      src_once : AreDistinct (k ∷ sources x.1 (y ∷ w))
      src_once = swap_once (sources x.1 (y ∷ w)) (k ∷ []) (subst AreDistinct (sym src) n)

      up : IsIn (last_arc y.0 w) (arcs_along (y ∷ w))
      up = last_in x.0 y w

      goes : (v : List (ℕ × ℕ)) (z : ℕ) (rest : List (ℕ × ℕ)) → v ≡ ((last_arc y.0 w, z) ∷ rest) → ((d : ℕ) → last_arc d v ≡ x.0) → last_arc y.0 w < x.0 → GoesUp v
      goes v z rest e f h = subst GoesUp (sym e) (let b : last_arc (last_arc y.0 w) rest ≡ x.0 = sym (ap (last_arc zero) e) ∙ f zero in omega arith)

      go : (x.0 < last_arc y.0 w) ⊎ ((x.0 ≡ last_arc y.0 w) ⊎ (last_arc y.0 w < x.0)) → (w' : List (ℕ × ℕ)) × IsLeastFirst ends own k w'
      go (inl h) = (x ∷ y ∷ w, record { cycle = record { closes = r; has_arc = record {}; arcs_once = a; nodes_once = n }; is_least = l; goes_up = h })
      go (inr (inl h)) = absurd (a.0 (subst (λ t. IsIn t (arcs_along (y ∷ w))) (sym h) up))
      go (inr (inr h)) =
          let f = first_back k x (y ∷ w) [] in (
            back',
            record {
              cycle = record {
                closes = way_back own (x ∷ y ∷ w) [] k k k r refl;
                has_arc = subst HasArc (sym f.2) (record {});
                arcs_once = subst AreDistinct (sym (back_arcs k (x ∷ y ∷ w) [])) (onto_once (arcs_along (x ∷ y ∷ w)) [] a (record {}) (λ z i j. j));
                nodes_once = subst AreDistinct (sym (back_nodes k (x ∷ y ∷ w) [])) (onto_once (sources k (x ∷ y ∷ w)) [] src_once (record {}) (λ z i j. j));
              };
              is_least = λ v i. elim (onto_holds (sources k (x ∷ y ∷ w)) [] v (subst (λ t. IsIn v t) (back_nodes k (x ∷ y ∷ w) []) i)) [
                | inl j ↦ elim j [ inl e ↦ omega arith | inr m ↦ l v (subst (λ t. IsIn v t) src (in_front v (sources x.1 (y ∷ w)) (k ∷ []) m)) ]
                | inr j ↦ absurd j
              ];
              goes_up = goes back' f.0 f.1 f.2 (λ d. last_back x.1 (y ∷ w) d zero (x.0, k) []) h;
            },
          )

  -- a quasi-tree has an arc with one end, or a cycle
  pub has_extra : (ns own : List ℕ) → IsQuasiTree F ns (map ends own) → ((a : ℕ) → IsIn a own → Simple.IsSound F ends (ends a))
      → ((e : Ends Scalar) × IsIn e (map ends own) × HasOneEnd e) ⊎ ((k : ℕ) × (w : List (ℕ × ℕ)) × IsLeastFirst ends own k w)
  has_extra ns own p sound = elim p.extra [
    | inl x ↦ inl x
    | inr x ↦ inr (let t = turn own (Simple.simple F ends own sound x.1 x.0 x.3 x.4) in
        let o = orient own sound t.least t.way t.closes t.arcs_once t.nodes_once t.is_least t.some in (t.least, o.0, o.1))
  ]
