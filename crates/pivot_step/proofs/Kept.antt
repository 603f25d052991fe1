-- A flip: each piece keeps its nodes, its basic arcs and its marked arcs, with the flows and the marks after the flip.
use Rattle.std.specs.Prelude.{◌≡◌, ◌↔◌, ◌<◌, ◌≤◌, ℕ, Bool, true, List, [], ◌∷◌, ◌++◌, map, filter, length, slice_index}
use Rattle.std.specs.List.Sorted.{IsStrictlyIncreasing}
use Rattle.std.proofs.Common.{refl, sym, ap, subst, ◌∙◌, inl, inr, arith}
use native.Mathlib.Decide.{ℕ_discrete}
use Rattle.gain_graphs.specs.Arcs.{IsIn, AreDistinct}
use Rattle.gain_graphs.proofs.Lists.{in_front, in_append, in_map, in_map_of, length_map, distinct_append, apart_parts, filter_holds}
use Rattle.np_frac.specs.Ratio.{Ratio}
use Rattle.np_model.specs.declared.log.Entry.{Entry}
use Rattle.np_model.specs.declared.log.Mark.{Mark}
use Rattle.np_model.specs.Network.Flows.{Network}
use Rattle.np_model.specs.Basis.Graphs.{ends_at}
use Rattle.np_model.specs.Basis.Moves.{IsEligible}
use Rattle.np_model.specs.Basis.Pieces.{PieceLists, nodes_in, basics_in, marked_in, least_node, nodes_of, basics_of}
use Rattle.np_model.specs.Basis.Sound.{values_in, HoldEnds, AreSound, AreInOrder}
use Rattle.np_model.specs.Basis.States.{IsPartOf}
use Rattle.np_basis.specs.PivotLaws.{HasRealArcs, MayEnter}
use Rattle.np_basis.proofs.Ascending.{ascends, ascends_once, same_rising}
use Rattle.np_basis.proofs.Reading.{in_flat, in_flat_of}
use Rattle.np_basis.proofs.Sound as sounds
use Rattle.np_basis.proofs.Trees as trees
use Rattle.tree_search.specs.Places.{numbers_of_arcs}
use Rattle.piece_lists.specs.Parts.{touch}
use Rattle.piece_lists.proofs.Joined.{filter_rises}
use Rattle.piece_lists.proofs.Testing.{touch_in, in_touch}
use Rattle.pivot_step.specs.After.{AreListsAfter, IsPieceOver, ArePiecesOver}
use Rattle.pivot_step.specs.Steps.{HasAllOf, IsKept, AreKept}
use Rattle.pivot_step.proofs.Assembled as assembling
use Rattle.pivot_step.proofs.Entries.{same_entries}
use Rattle.pivot_step.proofs.Flipping.{old_part}
use Rattle.pivot_step.proofs.Found.{first_in, some_long}

-- ---- one piece, or two in order

same_least : (lists p q : PieceLists) → IsKept lists p q → least_node q ≡ least_node p
same_least lists p q k = ap (λ (ns : List (ℕ × Ratio)). slice_index (map (λ (n : ℕ × Ratio). n.0) ns) 0) k.nodes

pub one_kept : (lists p q : PieceLists) → IsKept lists p q → AreKept lists (p ∷ []) (q ∷ [])
one_kept lists p q k = record {
  in_order = record {};
  each = λ x. elim [ inl e ↦ (p, inl refl, subst (IsKept lists p) (sym e) k) | inr z ↦ absurd z ];
  every = λ x. elim [ inl e ↦ (q, inl refl, subst (λ (y : PieceLists). IsKept lists y q) (sym e) k) | inr z ↦ absurd z ];
}

pub two_kept : (lists p o q r : PieceLists) → IsKept lists p q → IsKept lists o r → least_node p < least_node o → AreKept lists (p ∷ o ∷ []) (q ∷ r ∷ [])
two_kept lists p o q r k h l = record {
  in_order = let a : least_node q ≡ least_node p = same_least lists p q k in let b : least_node r ≡ least_node o = same_least lists o r h in omega (arith, l);
  each = λ x. elim [
    | inl e ↦ (p, inl refl, subst (IsKept lists p) (sym e) k)
    | inr i ↦ elim i [ inl e ↦ (o, inr (inl refl), subst (IsKept lists o) (sym e) h) | inr z ↦ absurd z ]
  ];
  every = λ x. elim [
    | inl e ↦ (q, inl refl, subst (λ (y : PieceLists). IsKept lists y q) (sym e) k)
    | inr i ↦ elim i [ inl e ↦ (r, inr (inl refl), subst (λ (y : PieceLists). IsKept lists y r) (sym e) h) | inr z ↦ absurd z ]
  ];
}

-- the least nodes of two pieces that share none differ
other_first : (p o : PieceLists) → 0 < length p.nodes → 0 < length o.nodes → AreDistinct (nodes_of (p ∷ o ∷ [])) → least_node o ≤ least_node p → least_node o < least_node p
other_first p o some few d l = go (least_node o) (least_node p) l (λ e. apart_parts (nodes_in p) (nodes_in o ++ []) d (least_node p) (has p some) (in_front (least_node p) (nodes_in o) [] (subst (λ v. IsIn v (nodes_in o)) e (has o few))))
  where
    has : (x : PieceLists) → 0 < length x.nodes → IsIn (least_node x) (nodes_in x)
    has x k = first_in (nodes_in x) (subst (λ n. 0 < n) (sym (length_map (λ (n : ℕ × Ratio). n.0) x.nodes)) k)

    go : (a b : ℕ) → a ≤ b → (¬ (a ≡ b)) → a < b
    go a b l n = grind arith

pub swapped_kept : (lists p o q r : PieceLists) → IsKept lists p q → IsKept lists o r → 0 < length p.nodes → 0 < length o.nodes → AreDistinct (nodes_of (p ∷ o ∷ [])) → least_node o ≤ least_node p → AreKept lists (p ∷ o ∷ []) (r ∷ q ∷ [])
swapped_kept lists p o q r k h some few d l =
    let w = two_kept lists o p r q h k (other_first p o some few d l) in
    record {
      in_order = w.in_order;
      each = λ x i. let s = w.each x i in (s.0, elim s.1 [ inl e ↦ inr (inl e) | inr j ↦ elim j [ inl e ↦ inl e | inr z ↦ absurd z ] ], s.2);
      every = λ x i. w.every x (elim i [ inl e ↦ inr (inl e) | inr j ↦ elim j [ inl e ↦ inl e | inr z ↦ absurd z ] ]);
    }

-- ---- the lists after a flip

module _ (net : Network) (real : ℕ) (ground : HasRealArcs net real) (ps : List PieceLists) (sound : AreSound net ps) (entry : Entry) (ends : HoldEnds ps (ends_at net.arcs entry.enter))
    (eligible : IsEligible net real (values_in net ps) entry.enter) (flips : entry.leave ≡ entry.enter) (d : ℕ → Ratio) (t : Ratio) (lists : PieceLists) (after : AreListsAfter net ps entry d t lists.basics lists.marks) where
  may : MayEnter net ps entry.enter
  may = assembling.may net real ground ps sound entry ends eligible

  same_basic : (a : ℕ) → IsIn a (numbers_of_arcs lists.basics) ↔ IsIn a (basics_of ps)
  same_basic a = (
    (λ i. let k = (after.basics_after.basic.are a).0 i in elim k.0 [ inl g ↦ absurd (k.1 (g ∙ sym flips)) | inr j ↦ j ]),
    (λ i. (after.basics_after.basic.are a).1 (inr i, (λ g. may.not_basic (subst (λ x. IsIn x (basics_of ps)) (g ∙ flips) i)))),
  )

  not_basic : (m : ℕ × Mark) → IsIn m lists.marks → (m.0 < length net.arcs) × (¬ IsIn m.0 (basics_of ps))
  not_basic m i = elim ((after.marks_after.are m).0 i) [
    | inl r ↦ (subst (λ x. x < length net.arcs) (sym (r.0 ∙ flips)) may.below, (λ j. may.not_basic (subst (λ x. IsIn x (basics_of ps)) (r.0 ∙ flips) j)))
    | inr r ↦ (assembling.mark_below net real ground ps sound entry ends eligible m r.0, assembling.mark_not_basic net real ground ps sound entry ends eligible m r.0)
  ]

  has_mark : (p : PieceLists) → IsIn p ps → (a : ℕ) → IsIn a (marked_in p) → (m : ℕ × Mark) × IsIn m lists.marks × (a ≡ m.0)
  has_mark p i a j = go (ℕ_discrete a entry.enter) (in_map_of (λ (m : ℕ × Mark). m.0) a p.marks j)
    where
      go : Dec (a ≡ entry.enter) → ((m : ℕ × Mark) × IsIn m p.marks × (a ≡ m.0)) → (m : ℕ × Mark) × IsIn m lists.marks × (a ≡ m.0)
      go (yes e) r = ((entry.leave, entry.leave_at), (after.marks_after.are (entry.leave, entry.leave_at)).1 (inl (refl, refl)), e ∙ sym flips)
      go (no n) r = (r.0, (after.marks_after.are r.0).1 (inr (in_flat (λ (x : PieceLists). x.marks) ps p r.0 i r.1, (λ e. n (r.2 ∙ e)), (λ e. n (r.2 ∙ e ∙ flips)))), r.2)

  pub all_of : (p : PieceLists) → IsIn p ps → HasAllOf lists p
  all_of p i = record {
    basics_ascend = after.basics_after.ascend;
    marks_ascend = after.marks_after.ascend;
    own_basics_ascend = (sound.each p i).in_net.shape.basics_ascend;
    own_marks_ascend = (sound.each p i).in_net.shape.marks_ascend;
    basics = λ a j. (same_basic a).1 (in_flat basics_in ps p a i j);
    marked = λ a j. let m = has_mark p i a j in subst (λ x. IsIn x (marked_in lists)) (sym m.2) (in_map (λ (x : ℕ × Mark). x.0) m.0 lists.marks m.1);
    some = let v = (trees.tree net p (sound.each p i).in_net).some_node in subst (λ n. 0 < n) (length_map (λ (n : ℕ × Ratio). n.0) p.nodes) (some_long (nodes_in p) v.0 v.1);
  }

  module _ (p : PieceLists) (i : IsIn p ps) (q : PieceLists) (k : IsKept lists p q) where
    touches : (a : ℕ) → IsIn a (marked_in p) → touch (nodes_in p) (ends_at net.arcs a) ≡ true
    touches a j = in_touch (nodes_in p) (ends_at net.arcs a) (((sound.each p i).in_net.marked a).0 j).2

    abbrev test : ℕ × Mark → Bool
    test m = touch (nodes_in p) (ends_at net.arcs m.0)

    to : (a : ℕ) → IsIn a (marked_in p) → IsIn a (map (λ (m : ℕ × Mark). m.0) (filter test lists.marks))
    to a j =
        let m = has_mark p i a j in
        subst (λ x. IsIn x (map (λ (m : ℕ × Mark). m.0) (filter test lists.marks))) (sym m.2) (in_map (λ (x : ℕ × Mark). x.0) m.0 (filter test lists.marks)
        ((filter_holds test lists.marks m.0).1 (m.1, subst (λ x. touch (nodes_in p) (ends_at net.arcs x) ≡ true) m.2 (touches a j))))

    back : (a : ℕ) → IsIn a (map (λ (m : ℕ × Mark). m.0) (filter test lists.marks)) → IsIn a (marked_in p)
    back a j =
        let r = in_map_of (λ (m : ℕ × Mark). m.0) a (filter test lists.marks) j in
        let h = (filter_holds test lists.marks r.0).0 r.1 in
        let b = not_basic r.0 h.0 in
        subst (λ x. IsIn x (marked_in p)) (sym r.2) (((sound.each p i).in_net.marked r.0.0).1 (b.0, (λ l. b.1 (in_flat basics_in ps p r.0.0 i l)), touch_in (nodes_in p) (ends_at net.arcs r.0.0) h.1))

    rise : IsStrictlyIncreasing (map (λ (m : ℕ × Mark). m.0) (filter test lists.marks))
    rise = filter_rises (λ (m : ℕ × Mark). m.0) test lists.marks after.marks_after.ascend

    marks_are : q.marks ≡ filter (λ m. touch (nodes_in p) (ends_at net.arcs m.0)) lists.marks
    marks_are = same_entries (λ (m : ℕ × Mark). m.0) q.marks (filter test lists.marks)
        (k.marked ∙ same_rising (marked_in p) (map (λ (m : ℕ × Mark). m.0) (filter test lists.marks)) (sound.each p i).in_net.shape.marks_ascend rise to back)
        (ascends (map (λ (m : ℕ × Mark). m.0) (filter test lists.marks)) rise)
        (λ m j. (filter_holds test lists.marks m).1 (k.marks_from m j, touches m.0 (subst (IsIn m.0) k.marked (in_map (λ (x : ℕ × Mark). x.0) m q.marks j))))

    piece_over : IsPieceOver net lists.basics lists.marks q
    piece_over = record {
      part = subst (λ (x : List ℕ). IsPartOf net (numbers_of_arcs lists.basics) (nodes_in q) x) (sym k.basics)
          (subst (λ (ns : List (ℕ × Ratio)). IsPartOf net (numbers_of_arcs lists.basics) (map (λ (n : ℕ × Ratio). n.0) ns) (basics_in p)) (sym k.nodes) (old_part net ps sound (numbers_of_arcs lists.basics) same_basic p i));
      own = k.basics_from;
      marked = subst (λ (ns : List (ℕ × Ratio)). q.marks ≡ filter (λ m. touch (map (λ (n : ℕ × Ratio). n.0) ns) (ends_at net.arcs m.0)) lists.marks) (sym k.nodes) marks_are;
    }

  module _ (qs : List PieceLists) (kept : AreKept lists ps qs) where
    once : (q : PieceLists) → ((p : PieceLists) × IsIn p ps × IsKept lists p q) → AreDistinct (nodes_in q)
    once q r = subst (λ (ns : List (ℕ × Ratio)). AreDistinct (map (λ (n : ℕ × Ratio). n.0) ns)) (sym r.2.nodes) (ascends_once (nodes_in r.0) (ascends (nodes_in r.0) (sound.each r.0 r.1).in_net.shape.nodes_ascend))

    apart : (xs : List PieceLists) → AreInOrder xs → ((q : PieceLists) → IsIn q xs → (p : PieceLists) × IsIn p ps × IsKept lists p q) → AreDistinct (nodes_of xs)
    apart [] o each = absurd o
    apart (q ∷ []) o each = sounds.alone_apart (nodes_in q) (once q (each q (inl refl)))
    apart (q ∷ o ∷ []) l each =
        distinct_append (nodes_in q) (nodes_in o ++ []) (once q one) (sounds.alone_apart (nodes_in o) (once o other))
        (λ v i j. bad v i (elim (in_append v (nodes_in o) [] j) [ inl k ↦ k | inr z ↦ absurd z ]))
      where
        one : (p : PieceLists) × IsIn p ps × IsKept lists p q
        one = each q (inl refl)

        other : (p : PieceLists) × IsIn p ps × IsKept lists p o
        other = each o (inr (inl refl))

        bad : (v : ℕ) → IsIn v (nodes_in q) → IsIn v (nodes_in o) → ⊥
        bad v i j =
            let same : one.0 ≡ other.0 = sounds.same_piece ps sound.apart one.0 other.0 one.1 other.1 v
            (subst (λ (ns : List (ℕ × Ratio)). IsIn v (map (λ (n : ℕ × Ratio). n.0) ns)) one.2.nodes i) (subst (λ (ns : List (ℕ × Ratio)). IsIn v (map (λ (n : ℕ × Ratio). n.0) ns)) other.2.nodes j) in
            let e : least_node q ≡ least_node o = same_least lists one.0 q one.2 ∙ ap least_node same ∙ sym (same_least lists other.0 o other.2) in
            let k : least_node q < least_node o = l in
            absurd (omega (arith, e, k))
    apart (q ∷ o ∷ x ∷ rest) l each = absurd l

    pub over : ArePiecesOver net ps lists.basics lists.marks qs
    over = record {
      each = λ q i. let r = kept.each q i in piece_over r.0 r.1 q r.2;
      apart = apart qs kept.in_order kept.each;
      in_order = kept.in_order;
      same_nodes = λ v. (
        (λ i.
            let p = in_flat_of nodes_in ps v i in
            let r = kept.every p.0 p.1 in
            in_flat nodes_in qs r.0 v r.1 (subst (λ (ns : List (ℕ × Ratio)). IsIn v (map (λ (n : ℕ × Ratio). n.0) ns)) (sym r.2.nodes) p.2)),
        (λ i.
            let q = in_flat_of nodes_in qs v i in
            let r = kept.each q.0 q.1 in
            in_flat nodes_in ps r.0 v r.1 (subst (λ (ns : List (ℕ × Ratio)). IsIn v (map (λ (n : ℕ × Ratio). n.0) ns)) r.2.nodes q.2)),
      );
    }
