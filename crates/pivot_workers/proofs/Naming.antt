-- The numbers that are named for nodes, piece by piece.
use Rattle.std.proofs.Common.{◌≡◌, inl, inr, ⊎_elim, ℕ, zero, suc, ◌+◌, ◌<◌, ◌≤◌, List, [], ◌∷◌, ◌++◌, map, take, length, get_or, set, sym, ap, ◌∙◌, subst, refl, arith, get_or-set_same, get_or-set_other}
use Rattle.std.specs.Prelude.{slice_index}
use Rattle.std.specs.List.{All}
use Rattle.std.proofs.Math.ListN.{length-set, replicate}
use Rattle.std.proofs.lemmas.List.{take_more, take_all, map-append, length-map, get_or-replicate}
use mathlib.Core.Logic.{dite}
use native.Mathlib.Decide.{ℕ_discrete}
use Rattle.gain_graphs.specs.Arcs.{IsIn}
use Rattle.gain_graphs.proofs.Lists.{in_front, in_back, in_append, decide_in}
use Rattle.np_frac.specs.Ratio.{Ratio}
use Rattle.np_model.specs.Network.Flows.{Network}
use Rattle.np_model.specs.Basis.Pieces.{PieceLists, nodes_in, least_node}
use Rattle.np_model.specs.Basis.Sound.{IsInNet}
use Rattle.np_basis.proofs.Reading.{in_flat, in_flat_of, pieces_are_sound}
use Rattle.pivot_workers.specs.Forests.{AreForest}
use Rattle.pivot_workers.specs.Openings.{named_for, AreOpenings}
use Rattle.pivot_workers.specs.Steps.Given.{AreGiven, AreNamed}

pub given_none : (number : ℕ) (old : List ℕ) → AreGiven [] number old old
given_none number old = record { long = refl; given = λ v i. absurd i; kept = λ v n. refl }

given_push : (before : List ℕ) (u number : ℕ) (old mid : List ℕ) → u < length mid → AreGiven before number old mid → AreGiven (before ++ u ∷ []) number old (set mid u number)
given_push before u number old mid below h = record {
  long = length-set mid u number ∙ h.long;
  given = λ v i.
      dite (ℕ_discrete v u)
      (λ e. subst (λ (w : ℕ). get_or (set mid u number) w 0 ≡ number) (sym e) (get_or-set_same mid u number 0 below))
      (λ n. get_or-set_other mid u v number 0 n
      ∙ h.given v (⊎_elim
      (λ (j : IsIn v before). j)
      (λ (j : IsIn v (u ∷ [])). ⊎_elim (λ (e : v ≡ u). absurd (n e)) (λ (x : ⊥). absurd x) j)
      (in_append v before (u ∷ []) i)));
  kept = λ v n. get_or-set_other mid u v number 0 (λ e. n (in_back v before (u ∷ []) (inl e))) ∙ h.kept v (λ i. n (in_front v before (u ∷ []) i));
}

pub given_more : (ns : List ℕ) (k u number : ℕ) (old mid : List ℕ) → k < length ns → u ≡ get_or ns k 0 → u < length mid → AreGiven (take k ns) number old mid
    → AreGiven (take (k + 1) ns) number old (set mid u number)
given_more ns k u number old mid lt is below h =
    subst (λ z. AreGiven z number old (set mid u number)) (sym (take_more ns k 0 lt ∙ ap (λ (w : ℕ). take k ns ++ w ∷ []) (sym is))) (given_push (take k ns) u number old mid below h)

pub given_all : (ns : List ℕ) (k number least : ℕ) (old new : List ℕ) → length ns ≤ k → number ≡ least → AreGiven (take k ns) number old new → AreGiven ns least old new
given_all ns k number least old new le is h = subst (λ (z : List ℕ × ℕ). AreGiven z.0 z.1 old new) (λ i. (take_all k ns le i, is i)) h

-- ---- pieces

pub named_none : (n : ℕ) (openings : List ℕ) → length openings ≡ n → openings ≡ replicate n 0 → AreNamed n [] openings
named_none n openings long is = record {
  slots = record {
    one_each = long;
    near = λ v below. let e : named_for openings v ≡ 0 = ap (λ z. get_or z v 0) is ∙ get_or-replicate n v 0 0 below in omega arith;
  };
  seated = λ v i. absurd i;
}

named_push : (n : ℕ) (before : List PieceLists) (p : PieceLists) (openings new : List ℕ) → least_node p < n → AreGiven (nodes_in p) (least_node p) openings new → AreNamed n before openings
    → AreNamed n (before ++ p ∷ []) new
named_push n before p openings new least g h = record {
  slots = record {
    one_each = g.long ∙ h.slots.one_each;
    near = λ v below. elim (decide_in v (nodes_in p)) [
      | yes i ↦ (let e = g.given v i in omega arith)
      | no m ↦ (let e = g.kept v m in let b = h.slots.near v below in omega arith)
    ];
  };
  seated = λ v i. elim (decide_in v (nodes_in p)) [
    | yes j ↦ (p, in_back p before (p ∷ []) (inl refl), j, sym (g.given v j))
    | no m ↦ (
        let q = in_flat_of nodes_in (before ++ p ∷ []) v i in
        let old : IsIn q.0 before = ⊎_elim
        (λ (j : IsIn q.0 before). j)
        (λ (j : IsIn q.0 (p ∷ [])). ⊎_elim (λ (e : q.0 ≡ p). absurd (m (subst (λ (z : PieceLists). IsIn v (nodes_in z)) e q.2))) (λ (x : ⊥). absurd x) j)
        (in_append q.0 before (p ∷ []) q.1) in
        let s = h.seated v (in_flat nodes_in before q.0 v old q.2) in
        (s.0, in_front s.0 before (p ∷ []) s.1, s.2, s.3 ∙ sym (g.kept v m)))
  ];
}

some_long : (xs : List ℕ) (v : ℕ) → IsIn v xs → 0 < length xs
some_long [] v i = absurd i
some_long (x ∷ xs) v i = omega arith

first_in : (xs : List ℕ) (v : ℕ) → IsIn v xs → IsIn (slice_index xs 0) xs
first_in [] v i = absurd i
first_in (x ∷ xs) v i = inl refl

at_in : (xs : List ℕ) (k d : ℕ) → k < length xs → IsIn (get_or xs k d) xs
at_in [] k d lt = absurd (omega arith)
at_in (x ∷ xs) zero d lt = inl refl
at_in (x ∷ xs) (suc k) d lt = inr (at_in xs k d (omega arith))

module _ {T : Type 0} (lists : T → PieceLists) where
  at_map : (xs : List T) (k : ℕ) (x : T) → k < length xs → x ≡ get_or xs k x → IsIn (lists x) (map lists xs)
  at_map [] k x lt e = absurd (omega arith)
  at_map (y ∷ ys) zero x lt e = inl (ap lists e)
  at_map (y ∷ ys) (suc k) x lt e = inr (at_map ys k x (omega arith) e)

  module _ (net : Network) (xs : List T) (f : AreForest net (map lists xs)) (k : ℕ) (x : T) (lt : k < length xs) (is : x ≡ get_or xs k x) where
    in_net : IsInNet net (lists x)
    in_net = ((pieces_are_sound net f.state (map lists xs) f.is_state f.pieces_of.each f.pieces_of.apart).each (lists x) (at_map xs k x lt is)).in_net

    pub some_nodes : 0 < length (lists x).nodes
    unfolding in_net
    some_nodes =
        let some = in_net.shape.quasi_tree.some_node in
        let a = some_long (nodes_in (lists x)) some.0 some.1 in
        let e = length-map (lists x).nodes (λ (n : ℕ × Ratio). n.0) in omega arith

    pub nodes_below : (n : ℕ) → length net.supply ≡ n → All (λ v. v < n) (nodes_in (lists x))
    unfolding in_net
    nodes_below n e j d lt' = let a = in_net.nodes (get_or (nodes_in (lists x)) j d) (at_in (nodes_in (lists x)) j d lt') in omega arith

    least_below : (n : ℕ) → length net.supply ≡ n → least_node (lists x) < n
    unfolding in_net
    least_below n e =
        let some = in_net.shape.quasi_tree.some_node in
        let a = in_net.nodes (least_node (lists x)) (first_in (nodes_in (lists x)) some.0 some.1) in omega arith

    pub named_more : (n : ℕ) (openings new : List ℕ) → length net.supply ≡ n → AreGiven (nodes_in (lists x)) (least_node (lists x)) openings new
        → AreNamed n (map lists (take k xs)) openings → AreNamed n (map lists (take (k + 1) xs)) new
    unfolding least_below
    named_more n openings new e g h =
        subst (λ z. AreNamed n z new) (sym (ap (map lists) (take_more xs k x lt ∙ ap (λ (y : T). take k xs ++ y ∷ []) (sym is)) ∙ map-append lists (take k xs) (x ∷ [])))
        (named_push n (map lists (take k xs)) (lists x) openings new (least_below n e) g h)

  pub named_all : (net : Network) (xs : List T) (f : AreForest net (map lists xs)) (n k : ℕ) (openings : List ℕ) → length net.supply ≡ n → length xs ≤ k
      → AreNamed n (map lists (take k xs)) openings → AreOpenings n (map lists xs) openings
  named_all net xs f n k openings e le h =
      let all : AreNamed n (map lists xs) openings = subst (λ z. AreNamed n (map lists z) openings) (take_all k xs le) h in
      record { slots = all.slots; seated = λ v below. all.seated v (f.whole v (omega arith)) }
