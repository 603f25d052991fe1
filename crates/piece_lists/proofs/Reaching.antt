-- What a search by places has reached: the nodes that links join to the first one.
use Rattle.std.specs.Prelude.{◌≡◌, ◌<◌, ℕ, List, [], ◌∷◌, map, length, slice_index, slice_index_or}
use Rattle.std.specs.List.Sorted.{IsStrictlyIncreasing}
use Rattle.std.proofs.Common.{refl, sym, ap, subst, ◌∙◌, inl, inr}
use Rattle.gain_graphs.specs.Arcs.{IsIn, Step, Along, Against, IsWalk, AreJoined}
use Rattle.gain_graphs.specs.Arcs as graph
use Rattle.gain_graphs.proofs.Walks as Walks
use Rattle.gain_graphs.proofs.Lists.{in_map, in_map_of}
use Rattle.np_frac.specs.Ratio.{Ratio}
use Rattle.np_model.specs.declared.arc.Ends.{Ends}
use Rattle.np_model.specs.declared.arc.Ends.TheVariants.{Link, Drain, Feed}
use Rattle.np_model.specs.Basis.Graphs.{graph_ends}
use Rattle.tree_search.specs.declared.piece.Joint.{Joint}
use Rattle.tree_search.specs.declared.piece.Step.{Step as Hop}
use Rattle.tree_search.specs.declared.search.Search.{Search}
use Rattle.tree_search.specs.Places.{loose, blank, ends_by_place, ends_of_arcs, IsPlaceOf, IsJoint, AreJoints}
use Rattle.tree_search.specs.Search.{JoinsAt, GoesOn, fars, IsSearch, IsClosed}
use Rattle.tree_search.proofs.Trees.{one_place, arc_in, place_in}
use Rattle.piece_lists.specs.Parts.{IsReached}

-- a link of the basic arcs stands at a place
link_of : (e : Ends) (i j : ℕ) (g : Ratio) → graph.Link i j g ≡ graph_ends e → e ≡ Link i j g
link_of (Link f t k) i j g h = sym (ap back h)
  where
    back : graph.Ends Ratio → Ends
    back (graph.Link i j g) = Link i j g
    back (graph.Drain i) = Drain i
    back (graph.Feed i) = Feed i
link_of (Drain v) i j g h = absurd cc
link_of (Feed v) i j g h = absurd cc

module _ (nodes : List ℕ) (ascend : IsStrictlyIncreasing nodes) (basics : List (ℕ × Ends × Ratio)) (joints : List Joint) (are : AreJoints nodes basics joints) where
  abbrev graph_list : List (graph.Ends Ratio)
  graph_list = map graph_ends (ends_of_arcs basics)

  arc_ends_in : (a : ℕ) → a < length basics → IsIn (graph_ends (ends_by_place basics a)) graph_list
  arc_ends_in a l = in_map graph_ends (ends_by_place basics a) (ends_of_arcs basics) (in_map (λ (b : ℕ × Ends × Ratio). b.1) (slice_index_or basics a blank) basics (arc_in basics a l))

  -- over an arc from one place to another
  over : (a p q : ℕ) → JoinsAt joints a p q → AreJoined graph_list (slice_index nodes p) (slice_index nodes q)
  over a p q j = go (ends_by_place basics a) (arc_ends_in a l) (are.each a l)
    where
      l : a < length basics
      l = subst (λ t. a < t) are.long j.0

      same : (slice_index_or joints a loose).to ≡ (slice_index_or joints a loose).from → AreJoined graph_list (slice_index nodes p) (slice_index nodes q)
      same e = ([], ap (slice_index nodes) (elim j.1 [ inl k ↦ sym k.0 ∙ sym e ∙ k.1 | inr k ↦ sym k.1 ∙ e ∙ k.0 ]))

      go : (e : Ends) → IsIn (graph_ends e) graph_list → IsJoint nodes e (slice_index_or joints a loose) → AreJoined graph_list (slice_index nodes p) (slice_index nodes q)
      go (Drain v) i t = same t.1
      go (Feed v) i t = same t.1
      go (Link f t g) i s = elim j.1 [
        | inl k ↦ (Along f t g ∷ [], (ap (slice_index nodes) (sym k.0) ∙ s.0.1, i, sym (ap (slice_index nodes) (sym k.1) ∙ s.1.1)))
        | inr k ↦ (Against f t g ∷ [], (ap (slice_index nodes) (sym k.1) ∙ s.1.1, i, sym (ap (slice_index nodes) (sym k.0) ∙ s.0.1)))
      ]

  -- all far ends of steps are joined to the node that all began with
  steps_reach : (r : ℕ) (steps : List Hop) (seen : List ℕ) → ((p : ℕ) → IsIn p seen → AreJoined graph_list r (slice_index nodes p)) → GoesOn joints seen steps → (p : ℕ) → IsIn p (fars steps) → AreJoined graph_list r (slice_index nodes p)
  steps_reach r [] seen h g p i = absurd i
  steps_reach r (s ∷ steps) seen h g p i = elim i [ inl e ↦ subst (λ t. AreJoined graph_list r (slice_index nodes t)) (sym e) far | inr k ↦ steps_reach r steps (s.far ∷ seen) more g.3 p k ]
    where
      far : AreJoined graph_list r (slice_index nodes s.far)
      far = Walks.joined_trans graph_list r (slice_index nodes s.near) (slice_index nodes s.far) (h s.near g.0) (over s.arc s.near s.far g.2)

      more : (q : ℕ) → IsIn q (s.far ∷ seen) → AreJoined graph_list r (slice_index nodes q)
      more q = elim [ inl e ↦ subst (λ t. AreJoined graph_list r (slice_index nodes t)) (sym e) far | inr k ↦ h q k ]

  -- the node's place is queued
  abbrev Has : List ℕ → ℕ → Type 0
  Has queue u = (p : ℕ) × IsIn p queue × IsPlaceOf nodes u p

  link_place : (f t : ℕ) (g : Ratio) → IsIn (graph.Link f t g) graph_list → (a : ℕ) × (a < length joints) × IsPlaceOf nodes f (slice_index_or joints a loose).from × IsPlaceOf nodes t (slice_index_or joints a loose).to
  link_place f t g i =
      let e = in_map_of graph_ends (graph.Link f t g) (ends_of_arcs basics) i in
      let b = in_map_of (λ (b : ℕ × Ends × Ratio). b.1) e.0 basics e.1 in
      let r = place_in basics b.0 b.1 in
      let is : ends_by_place basics r.0 ≡ Link f t g = ap (λ (b : ℕ × Ends × Ratio). b.1) (sym r.2) ∙ sym b.2 ∙ link_of e.0 f t g e.2 in
      let s : IsJoint nodes (Link f t g) (slice_index_or joints r.0 loose) = subst (λ e. IsJoint nodes e (slice_index_or joints r.0 loose)) is (are.each r.0 r.1) in
      (r.0, subst (λ x. r.0 < x) (sym are.long) r.1, s.0, s.1)

  walk_has : (queue : List ℕ) → IsClosed joints queue → (w : List (Step Ratio)) (u v : ℕ) → IsWalk graph_list u w v → Has queue u → Has queue v
  walk_has queue closed [] u v w h = subst (λ t. Has queue t) w h
  walk_has queue closed (Along f t g ∷ steps) u v w h =
      let a = link_place f t g w.1 in
      let e : (slice_index_or joints a.0 loose).from ≡ h.0 = one_place nodes ascend (slice_index_or joints a.0 loose).from h.0 a.2.0 h.2.0 (a.2.1 ∙ sym w.0 ∙ sym h.2.1) in
      walk_has queue closed steps t v w.2 ((slice_index_or joints a.0 loose).to, closed a.0 h.0 (slice_index_or joints a.0 loose).to h.1 (a.1, inl (e, refl)), a.3)
  walk_has queue closed (Against f t g ∷ steps) u v w h =
      let a = link_place f t g w.1 in
      let e : (slice_index_or joints a.0 loose).to ≡ h.0 = one_place nodes ascend (slice_index_or joints a.0 loose).to h.0 a.3.0 h.2.0 (a.3.1 ∙ sym w.0 ∙ sym h.2.1) in
      walk_has queue closed steps f v w.2 ((slice_index_or joints a.0 loose).from, closed a.0 h.0 (slice_index_or joints a.0 loose).from h.1 (a.1, inr (refl, e)), a.2)

  pub reached_is : (s : Search) → 0 < length nodes → IsSearch joints (length nodes) (0 ∷ []) s → IsClosed joints s.queue.items → IsReached nodes (ends_of_arcs basics) s.seen.items
  reached_is s some h closed = record {
    long = h.long;
    are = λ p l. (
      (λ m. let i : IsIn p (0 ∷ fars s.steps.items) = subst (λ t. IsIn p t) h.queued ((h.marked p l).0 m) in
          elim i [ inl e ↦ at_first p e | inr k ↦ steps_reach (slice_index nodes 0) s.steps.items (0 ∷ []) (λ q. elim [ inl e ↦ at_first q e | inr z ↦ absurd z ]) h.goes p k ]),
      (λ w. let r = walk_has s.queue.items closed w.0 (slice_index nodes 0) (slice_index nodes p) w.1 (0, subst (λ t. IsIn 0 t) (sym h.queued) (inl refl), (some, refl)) in
          (h.marked p l).1 (subst (λ t. IsIn t s.queue.items) (one_place nodes ascend r.0 p r.2.0 l r.2.1) r.1)),
    );
  }
    where
      at_first : (p : ℕ) → p ≡ 0 → AreJoined graph_list (slice_index nodes 0) (slice_index nodes p)
      at_first p e = ([], ap (λ t. slice_index nodes t) (sym e))
