-- What one or two pieces say of the arcs of a direction.
use Rattle.std.specs.Prelude.{◌≡◌, ◌≢◌, ◌⊎◌, ℕ, ◌<◌, ◌≤◌, List, [], ◌∷◌, ◌++◌, map, length}
use Rattle.std.specs.List.{flat_map}
use Rattle.std.proofs.Common.{refl, sym, ap, ap₂, ◌∙◌, subst, inl, inr, arith}
use Rattle.std.proofs.lemmas.List.{map-append, length-append, length-map}
use Rattle.gain_graphs.specs.Arcs.{IsIn, Touches}
use Rattle.gain_graphs.specs.QuasiTrees.{LiesIn}
use Rattle.gain_graphs.proofs.Lists.{in_front, in_back, in_append, in_map, in_map_of, apart_parts}
use Rattle.np_frac.specs.Ratio.{Ratio, zero_ratio, ◌≤ᵣ◌}
use Rattle.np_model.specs.declared.arc.Ends.{Ends}
use Rattle.np_model.specs.declared.arc.Ends.TheVariants.{Link, Drain, Feed}
use Rattle.np_model.specs.declared.arc.NetArc.{NetArc}
use Rattle.np_model.specs.declared.arc.Upper.{Upper as UpperBound}
use Rattle.np_model.specs.declared.arc.Upper.TheVariants.{Finite, Infinite}
use Rattle.np_model.specs.declared.log.Mark.{Mark}
use Rattle.np_model.specs.declared.log.Mark.TheVariants.{Lower, Upper, Basic}
use Rattle.np_model.specs.declared.network.FullNet.{FullNet}
use Rattle.np_model.specs.declared.phase.Phase.{Phase}
use Rattle.np_model.specs.declared.phase.Phase.TheVariants.{One, Two}
use Rattle.np_model.specs.Network.Arcs.{tail_of, head_of, IsWithin, IsAtMost, IsFull, bound_of}
use Rattle.np_model.specs.Network.Flows.{Network}
use Rattle.np_model.specs.Network.Nets.{IsSoundArc}
use Rattle.np_model.specs.Basis.Graphs.{ratios, graph_ends, arc_at, ends_at, no_arc}
use Rattle.np_model.specs.Basis.Phases.{phase_net, real_arc, artificial_arc, all_arcs}
use Rattle.np_model.specs.Basis.Pieces.{PieceLists, nodes_in, basics_in, ends_in, marked_in, beside, marks_of, flows_of, nodes_of, basics_of}
use Rattle.np_model.specs.Basis.Sound.{IsInNet, bound_at, values_in}
use Rattle.np_model.specs.Basis.States.{StandsAt}
use Rattle.np_model.proofs.FullNets.{real_at, artificial_at}
use Rattle.np_frac.proofs.RatioLaws.{≤ᵣ_refl}
use Rattle.ratio_test.specs.Asked.{AreWithin, IsOutside}
use Rattle.ratio_test.specs.Steps.Ends.{HasEnd}
use Rattle.ratio_test.proofs.Members.{in_flat, stands_or, beside_entry, beside_absent, beside_left, beside_beyond, beside_default}

-- ---- ends

both_ends : (nodes : List ℕ) (ends : Ends) → LiesIn ratios nodes (graph_ends ends) → IsIn (tail_of ends) nodes × IsIn (head_of ends) nodes
both_ends nodes (Link i j g) h = (h.0, h.1)
both_ends nodes (Drain i) h = (h, h)
both_ends nodes (Feed i) h = (h, h)

touching : (nodes : List ℕ) (ends : Ends) → HasEnd nodes ends → Touches nodes (graph_ends ends)
touching nodes (Link i j g) h = h
touching nodes (Drain i) h = elim h [ inl t ↦ t | inr t ↦ t ]
touching nodes (Feed i) h = elim h [ inl t ↦ t | inr t ↦ t ]

has_end : (nodes : List ℕ) (ends : Ends) → Touches nodes (graph_ends ends) → HasEnd nodes ends
has_end nodes (Link i j g) h = h
has_end nodes (Drain i) h = inl h
has_end nodes (Feed i) h = inl h

-- ---- the numbers of a piece

keys_map : (bs : List (ℕ × Ends × Ratio)) → map (λ (x : ℕ × Ratio). x.0) (map (λ (b : ℕ × Ends × Ratio). (b.0, b.2)) bs) ≡ map (λ (b : ℕ × Ends × Ratio). b.0) bs
keys_map [] = refl
keys_map (b ∷ bs) = ap (λ (t : List ℕ). b.0 ∷ t) (keys_map bs)

pub flow_keys : (p : PieceLists) → map (λ (x : ℕ × Ratio). x.0) (flows_of p) ≡ basics_in p
flow_keys p = keys_map p.basics

mark_keys_map : (bs : List (ℕ × Ends × Ratio)) (ms : List (ℕ × Mark))
    → map (λ (x : ℕ × Mark). x.0) (map (λ (b : ℕ × Ends × Ratio). (b.0, Basic)) bs ++ ms) ≡ map (λ (b : ℕ × Ends × Ratio). b.0) bs ++ map (λ (m : ℕ × Mark). m.0) ms
mark_keys_map [] ms = refl
mark_keys_map (b ∷ bs) ms = ap (λ (t : List ℕ). b.0 ∷ t) (mark_keys_map bs ms)

mark_keys : (p : PieceLists) → map (λ (x : ℕ × Mark). x.0) (marks_of p) ≡ basics_in p ++ marked_in p
mark_keys p = mark_keys_map p.basics p.marks

pub all_flow_keys : (pieces : List PieceLists) → map (λ (x : ℕ × Ratio). x.0) (flat_map flows_of pieces) ≡ basics_of pieces
all_flow_keys [] = refl
all_flow_keys (p ∷ ps) = map-append (λ (x : ℕ × Ratio). x.0) (flows_of p) (flat_map flows_of ps) ∙ ap₂ (λ (s t : List ℕ). s ++ t) (flow_keys p) (all_flow_keys ps)

-- ---- one piece

module _ (net : Network) (p : PieceLists) (inside : IsInNet net p) where
  basic_lies : (a : ℕ) → IsIn a (basics_in p) → LiesIn ratios (nodes_in p) (graph_ends (ends_at net.arcs a))
  basic_lies a i =
      let b = in_map_of (λ (b : ℕ × Ends × Ratio). b.0) a p.basics i in
      let own = inside.basic b.0 b.1 in
      let lies = inside.shape.quasi_tree.ends_inside (graph_ends b.0.1) (in_map graph_ends b.0.1 (ends_in p) (in_map (λ (b : ℕ × Ends × Ratio). b.1) b.0 p.basics b.1)) in
      let same : b.0.1 ≡ ends_at net.arcs a = own.1 ∙ ap (λ (n : ℕ). ends_at net.arcs n) (sym b.2) in
      subst (λ (e : Ends). LiesIn ratios (nodes_in p) (graph_ends e)) same lies

  basic_below : (a : ℕ) → IsIn a (basics_in p) → a < length net.arcs
  basic_below a i =
      let b = in_map_of (λ (b : ℕ × Ends × Ratio). b.0) a p.basics i in
      let own = inside.basic b.0 b.1 in
      subst (λ (n : ℕ). n < length net.arcs) (sym b.2) own.0

  basic_has_end : (a : ℕ) → IsIn a (basics_in p) → HasEnd (nodes_in p) (ends_at net.arcs a)
  basic_has_end a i = inl (both_ends (nodes_in p) (ends_at net.arcs a) (basic_lies a i)).0

  marked_if : (a : ℕ) → a < length net.arcs → (¬ IsIn a (basics_in p)) → HasEnd (nodes_in p) (ends_at net.arcs a) → IsIn a (marked_in p)
  marked_if a l n h = (inside.marked a).1 (l, n, touching (nodes_in p) (ends_at net.arcs a) h)

  not_marked : (a : ℕ) → (¬ HasEnd (nodes_in p) (ends_at net.arcs a)) → ¬ IsIn a (marked_in p)
  not_marked a n i = n (has_end (nodes_in p) (ends_at net.arcs a) ((inside.marked a).0 i).2)

  in_marks : (a : ℕ) → IsIn a (marked_in p) → IsIn a (map (λ (x : ℕ × Mark). x.0) (marks_of p))
  in_marks a i = subst (λ (t : List ℕ). IsIn a t) (sym (mark_keys p)) (in_back a (basics_in p) (marked_in p) i)

  not_in_marks : (a : ℕ) → (¬ IsIn a (basics_in p)) → (¬ IsIn a (marked_in p)) → ¬ IsIn a (map (λ (x : ℕ × Mark). x.0) (marks_of p))
  not_in_marks a n m i = elim (in_append a (basics_in p) (marked_in p) (subst (λ (t : List ℕ). IsIn a t) (mark_keys p) i)) [ inl b ↦ n b | inr k ↦ m k ]

  in_flows : (a : ℕ) → IsIn a (basics_in p) → IsIn a (map (λ (x : ℕ × Ratio). x.0) (flows_of p))
  in_flows a i = subst (λ (t : List ℕ). IsIn a t) (sym (flow_keys p)) i

  not_in_flows : (a : ℕ) → (¬ IsIn a (basics_in p)) → ¬ IsIn a (map (λ (x : ℕ × Ratio). x.0) (flows_of p))
  not_in_flows a n i = n (subst (λ (t : List ℕ). IsIn a t) (flow_keys p) i)

-- ---- a piece alone

module _ (net : Network) (p : PieceLists) (w : AreWithin net (p ∷ [])) where
  alone : IsInNet net p
  alone = w.in_net p (inl refl)

  pub basic_alone : (a : ℕ) → IsIn a (basics_of (p ∷ [])) → IsIn a (basics_in p)
  basic_alone a i = elim (in_append a (basics_in p) [] i) [ inl h ↦ h | inr h ↦ absurd h ]

  pub flow_alone : (a : ℕ) → IsIn a (basics_of (p ∷ [])) → beside zero_ratio (flows_of p) a ≡ beside zero_ratio (flat_map flows_of (p ∷ [])) a
  flow_alone a i = sym (beside_left zero_ratio zero_ratio (flows_of p) [] a (in_flows net p alone a (basic_alone a i)))

  pub mark_alone : (a : ℕ) → IsOutside net (p ∷ []) a → IsIn a (marked_in p) × (beside Lower (marks_of p) a ≡ beside Lower (flat_map marks_of (p ∷ [])) a)
  mark_alone a out =
      let ends = both_ends (nodes_of (p ∷ [])) (ends_at net.arcs a) out.ends in
      let tail : IsIn (tail_of (ends_at net.arcs a)) (nodes_in p) = elim (in_append _ (nodes_in p) [] ends.0) [ inl h ↦ h | inr h ↦ absurd h ] in
      let marked = marked_if net p alone a out.is_arc (λ i. out.not_basic (in_front a (basics_in p) [] i)) (inl tail) in
      (marked, sym (beside_left Lower Lower (marks_of p) [] a (in_marks net p alone a marked)))

-- ---- two pieces

module _ (net : Network) (p q : PieceLists) (w : AreWithin net (p ∷ q ∷ [])) where
  one : IsInNet net p
  one = w.in_net p (inl refl)

  two : IsInNet net q
  two = w.in_net q (inr (inl refl))

  no_shared : (v : ℕ) → IsIn v (nodes_in p) → ¬ IsIn v (nodes_in q)
  no_shared v i k = apart_parts (nodes_in p) (nodes_in q ++ []) w.apart v i (in_front v (nodes_in q) [] k)

  basic_of_either : (a : ℕ) → IsIn a (basics_of (p ∷ q ∷ [])) → IsIn a (basics_in p) ⊎ IsIn a (basics_in q)
  basic_of_either a i = elim (in_append a (basics_in p) (basics_in q ++ []) i) [
    | inl h ↦ inl h
    | inr h ↦ elim (in_append a (basics_in q) [] h) [ inl k ↦ inr k | inr k ↦ absurd k ]
  ]

  pub basic_first : (a : ℕ) → IsIn a (basics_of (p ∷ q ∷ [])) → HasEnd (nodes_in p) (ends_at net.arcs a) → IsIn a (basics_in p)
  basic_first a i h = elim (basic_of_either a i) [
    | inl k ↦ k
    | inr k ↦
        let ends = both_ends (nodes_in q) (ends_at net.arcs a) (basic_lies net q two a k) in
        absurd (elim h [ inl t ↦ no_shared _ t ends.0 | inr t ↦ no_shared _ t ends.1 ])
  ]

  pub basic_second : (a : ℕ) → IsIn a (basics_of (p ∷ q ∷ [])) → (¬ HasEnd (nodes_in p) (ends_at net.arcs a)) → IsIn a (basics_in q)
  basic_second a i n = elim (basic_of_either a i) [ inl k ↦ absurd (n (basic_has_end net p one a k)) | inr k ↦ k ]

  pub flow_first : (a : ℕ) → IsIn a (basics_in p) → beside zero_ratio (flows_of p) a ≡ beside zero_ratio (flat_map flows_of (p ∷ q ∷ [])) a
  flow_first a i = sym (beside_left zero_ratio zero_ratio (flows_of p) (flows_of q ++ []) a (in_flows net p one a i))

  pub flow_second : (a : ℕ) → IsIn a (basics_in q) → (¬ HasEnd (nodes_in p) (ends_at net.arcs a))
      → beside zero_ratio (flows_of q) a ≡ beside zero_ratio (flat_map flows_of (p ∷ q ∷ [])) a
  flow_second a i n = sym (
      beside_beyond zero_ratio (flows_of p) (flows_of q ++ []) a (not_in_flows net p one a (λ k. n (basic_has_end net p one a k)))
      ∙ beside_left zero_ratio zero_ratio (flows_of q) [] a (in_flows net q two a i)
      )

  not_of_first : (a : ℕ) → IsOutside net (p ∷ q ∷ []) a → ¬ IsIn a (basics_in p)
  not_of_first a out i = out.not_basic (in_front a (basics_in p) (basics_in q ++ []) i)

  not_of_second : (a : ℕ) → IsOutside net (p ∷ q ∷ []) a → ¬ IsIn a (basics_in q)
  not_of_second a out i = out.not_basic (in_back a (basics_in p) (basics_in q ++ []) (in_front a (basics_in q) [] i))

  pub mark_first : (a : ℕ) → IsOutside net (p ∷ q ∷ []) a → HasEnd (nodes_in p) (ends_at net.arcs a)
      → IsIn a (marked_in p) × (beside Lower (marks_of p) a ≡ beside Lower (flat_map marks_of (p ∷ q ∷ [])) a)
  mark_first a out h =
      let marked = marked_if net p one a out.is_arc (not_of_first a out) h in
      (marked, sym (beside_left Lower Lower (marks_of p) (marks_of q ++ []) a (in_marks net p one a marked)))

  pub mark_second : (a : ℕ) → IsOutside net (p ∷ q ∷ []) a → (¬ HasEnd (nodes_in p) (ends_at net.arcs a))
      → IsIn a (marked_in q) × (beside Lower (marks_of q) a ≡ beside Lower (flat_map marks_of (p ∷ q ∷ [])) a)
  mark_second a out n =
      let ends = both_ends (nodes_of (p ∷ q ∷ [])) (ends_at net.arcs a) out.ends in
      let tail : IsIn (tail_of (ends_at net.arcs a)) (nodes_in q) = elim (in_append _ (nodes_in p) (nodes_in q ++ []) ends.0) [
        | inl h ↦ absurd (n (inl h))
        | inr h ↦ elim (in_append _ (nodes_in q) [] h) [ inl k ↦ k | inr k ↦ absurd k ]
      ] in
      let marked = marked_if net q two a out.is_arc (not_of_second a out) (inl tail) in (
        marked,
        sym (
            beside_beyond Lower (marks_of p) (marks_of q ++ []) a (not_in_marks net p one a (not_of_first a out) (not_marked net p one a n))
            ∙ beside_left Lower Lower (marks_of q) [] a (in_marks net q two a marked)
            ),
      )

-- ---- flows

pub counted : (phase : Phase) (full : FullNet) (a : ℕ) → a < length (phase_net phase full).arcs → a < all_arcs full
counted phase full a h =
    let one = length-append (map (real_arc phase) full.net.arcs) (map (artificial_arc phase) full.artificial) in
    omega (arith, one, length-map full.net.arcs (real_arc phase), length-map full.artificial (artificial_arc phase))

pub basic_is_arc : (net : Network) (pieces : List PieceLists) → AreWithin net pieces → (a : ℕ) → IsIn a (basics_of pieces) → a < length net.arcs
basic_is_arc net pieces w a i = let p = in_flat basics_in pieces a i in basic_below net p.from (w.in_net p.from p.stands) a p.gives

-- the entering arc stands at its bound
pub flow_outside : (net : Network) (pieces : List PieceLists) (a : ℕ) → (¬ IsIn a (basics_of pieces))
    → (values_in net pieces).flow a ≡ bound_at (arc_at net.arcs a) ((values_in net pieces).mark a)
flow_outside net pieces a n =
    beside_absent (bound_at (arc_at net.arcs a) (beside Lower (flat_map marks_of pieces) a)) (flat_map flows_of pieces) a (λ i. n (subst (λ (t : List ℕ). IsIn a t) (all_flow_keys pieces) i))

-- a basic arc has its flow
pub flow_basic : (net : Network) (pieces : List PieceLists) (a : ℕ) → IsIn a (basics_of pieces)
    → (values_in net pieces).flow a ≡ beside zero_ratio (flat_map flows_of pieces) a
flow_basic net pieces a i =
    beside_default (bound_at (arc_at net.arcs a) (beside Lower (flat_map marks_of pieces) a)) zero_ratio (flat_map flows_of pieces) a
    (subst (λ (t : List ℕ). IsIn a t) (sym (all_flow_keys pieces)) i)

-- and keeps its bounds with it
pub basic_within : (net : Network) (pieces : List PieceLists) → AreWithin net pieces → (a : ℕ) → IsIn a (basics_of pieces) → IsWithin (arc_at net.arcs a) ((values_in net pieces).flow a)
basic_within net pieces w a i =
    let other = bound_at (arc_at net.arcs a) (beside Lower (flat_map marks_of pieces) a) in
    let e = beside_entry other (flat_map flows_of pieces) a (subst (λ (t : List ℕ). IsIn a t) (sym (all_flow_keys pieces)) i) in
    let p = in_flat flows_of pieces e.entry e.stands in
    let b = in_map_of (λ (b : ℕ × Ends × Ratio). (b.0, b.2)) e.entry p.from.basics p.gives in
    let within = w.within p.from b.0 p.stands b.1 in
    let number : b.0.0 ≡ a = ap (λ (x : ℕ × Ratio). x.0) (sym b.2) ∙ e.number in
    let value : b.0.2 ≡ (values_in net pieces).flow a = ap (λ (x : ℕ × Ratio). x.1) (sym b.2) ∙ sym e.value in
    subst (λ (n : ℕ). IsWithin (arc_at net.arcs n) ((values_in net pieces).flow a)) number (subst (λ (r : Ratio). IsWithin (arc_at net.arcs b.0.0) r) value within)

-- ---- the entering arc keeps its bounds

pub in_order : (phase : Phase) (full : FullNet) (a : ℕ) → a < length (phase_net phase full).arcs
    → let arc = arc_at (phase_net phase full).arcs a in IsAtMost arc.lower arc.upper
in_order phase full a h = elim (sides a (length full.net.arcs)) [
  | inl l ↦
      let sound : IsSoundArc (length full.net.supply) (arc_at full.net.arcs a) = full.net.valid.sound a no_arc l in
      subst (λ (arc : NetArc). IsAtMost arc.lower arc.upper) (sym (real_at phase full.net.arcs full.artificial a l)) (real phase (arc_at full.net.arcs a) sound.bounds)
  | inr l ↦
      subst (λ (arc : NetArc). IsAtMost arc.lower arc.upper) (sym (artificial_at phase full.net.arcs full.artificial a l (counted phase full a h))) (artificial phase _)
]
  where
    sides : (m n : ℕ) → (m < n) ⊎ (n ≤ m)
    sides m n = grind arith

    real : (phase : Phase) (arc : NetArc) → IsAtMost arc.lower arc.upper → IsAtMost (real_arc phase arc).lower (real_arc phase arc).upper
    real One arc k = k
    real Two arc k = k

    artificial : (phase : Phase) (ends : Ends) → IsAtMost (artificial_arc phase ends).lower (artificial_arc phase ends).upper
    artificial One ends = tt
    artificial Two ends = ≤ᵣ_refl zero_ratio

not_basic_mark : (net : Network) (p : PieceLists) (a : ℕ) (m : ℕ × Mark) → IsInNet net p → (¬ IsIn a (basics_in p)) → m.0 ≡ a → IsIn m (marks_of p) → m.1 ≢ Basic
not_basic_mark net p a m inside n is i e = elim (in_append m (map (λ (b : ℕ × Ends × Ratio). (b.0, Basic)) p.basics) p.marks i) [
  | inl l ↦
      let b = in_map_of (λ (b : ℕ × Ends × Ratio). (b.0, Basic)) m p.basics l in
      let same : b.0.0 ≡ a = ap (λ (x : ℕ × Mark). x.0) (sym b.2) ∙ is in
      n (subst (λ (k : ℕ). IsIn k (basics_in p)) same (in_map (λ (b : ℕ × Ends × Ratio). b.0) b.0 p.basics b.1))
  | inr r ↦ inside.shape.at_bounds m r e
]

in_basics_of : (pieces : List PieceLists) (p : PieceLists) (a : ℕ) → IsIn p pieces → IsIn a (basics_in p) → IsIn a (basics_of pieces)
in_basics_of [] p a i k = absurd i
in_basics_of (q ∷ ps) p a (inl e) k = in_front a (basics_in q) (basics_of ps) (subst (λ (t : PieceLists). IsIn a (basics_in t)) e k)
in_basics_of (q ∷ ps) p a (inr i) k = in_back a (basics_in q) (basics_of ps) (in_basics_of ps p a i k)

at_a_bound : (net : Network) (pieces : List PieceLists) (a : ℕ) → AreWithin net pieces → (¬ IsIn a (basics_of pieces)) → (values_in net pieces).mark a ≢ Basic
at_a_bound net pieces a w n e = elim (stands_or (flat_map marks_of pieces) a) [
  | inl i ↦
      let x = beside_entry Lower (flat_map marks_of pieces) a i in
      let p = in_flat marks_of pieces x.entry x.stands in
      not_basic_mark net p.from a x.entry (w.in_net p.from p.stands) (λ k. n (in_basics_of pieces p.from a p.stands k)) x.number p.gives (sym x.value ∙ e)
  | inr k ↦ let absent : beside Lower (flat_map marks_of pieces) a ≡ Lower = beside_absent Lower (flat_map marks_of pieces) a k in cc (absent, e)
]

bound_within : (arc : NetArc) (mark : Mark) → IsAtMost arc.lower arc.upper → mark ≢ Basic → StandsAt arc mark (bound_at arc mark) → IsWithin arc (bound_at arc mark)
bound_within arc Lower order n at = (≤ᵣ_refl arc.lower, order)
bound_within arc Upper order n at = by arc.upper order at
  where
    by : (u : UpperBound) → IsAtMost arc.lower u → IsFull (bound_of u) u → (arc.lower ≤ᵣ bound_of u) × IsAtMost (bound_of u) u
    by (Finite u) h k = (h, ≤ᵣ_refl u)
    by Infinite h k = absurd k
bound_within arc Basic order n at = absurd (n refl)

pub enter_within : (phase : Phase) (full : FullNet) (pieces : List PieceLists) (a : ℕ) → let net = phase_net phase full in AreWithin net pieces → IsOutside net pieces a
    → IsWithin (arc_at net.arcs a) ((values_in net pieces).flow a)
enter_within phase full pieces a w out =
    let net = phase_net phase full in
    let mark = (values_in net pieces).mark a in
    subst (λ (r : Ratio). IsWithin (arc_at net.arcs a) r) (sym (flow_outside net pieces a out.not_basic))
    (bound_within (arc_at net.arcs a) mark (in_order phase full a out.is_arc) (at_a_bound net pieces a w out.not_basic) out.at_bound)
