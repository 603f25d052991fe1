-- The tables that pieces of a state are written into are that state, where each node is in one of them.
use Rattle.std.specs.Prelude.{◌≡◌, ◌⊎◌, ℕ, ◌<◌, List, length, map, Option, Some, None}
use Rattle.std.specs.List.{flat_map}
use Rattle.std.proofs.Common.{refl, sym, ap, subst, ◌∙◌, inl, inr, arith}
use Rattle.std.proofs.lemmas.List.{ext_get_or}
use Rattle.gain_graphs.specs.Arcs.{IsIn, Touches}
use Rattle.gain_graphs.proofs.Lists.{in_map, in_map_of, in_append, in_front, in_back}
use Rattle.np_frac.specs.Ratio.{Ratio, zero_ratio}
use Rattle.np_model.specs.declared.arc.Ends.{Ends}
use Rattle.np_model.specs.declared.log.Mark.{Mark}
use Rattle.np_model.specs.declared.log.Mark.TheVariants as marked
use Rattle.np_model.specs.Network.Arcs.{tail_of}
use Rattle.np_model.specs.Network.Flows.{Network, at}
use Rattle.np_model.specs.Basis.Graphs.{graph_ends, arc_at, ends_at}
use Rattle.np_model.specs.Basis.Pieces.{PieceLists, nodes_in, basics_in, marked_in, nodes_of, least_node, marks_of}
use Rattle.np_model.specs.Basis.Sound.{bound_at}
use Rattle.np_model.specs.Basis.States.{State, values_of, IsPieceOf, IsState}
use Rattle.np_basis.specs.Laws.{HasSoundArcs}
use Rattle.np_basis.specs.PivotLaws.{ArePiecesOf}
use Rattle.np_basis.proofs.Basics.{basics_hold, decide_basic}
use Rattle.np_basis.proofs.Cutting.{piece_is_unique}
use Rattle.np_basis.proofs.Directions as directions
use Rattle.np_basis.proofs.Reading.{in_flat, in_flat_of, stands_bound}
use Rattle.quasi_tree.specs.Store.{Store}
use Rattle.simplex_driver.specs.declared.forest.Forest.{Forest}
use Rattle.simplex_driver.specs.Rounds.{IsSized, bounds_written, all_flows}
use Rattle.simplex_driver.specs.Store.{lists_all, written, filled, potentials_of, flows_written, slot_at, state_of, IsInSlot, Holds, IsKept}
use Rattle.simplex_driver.proofs.Attempts.{same_state}
use Rattle.simplex_driver.proofs.SecondStage.{touch_tail, tail_below}
use Rattle.simplex_driver.proofs.Stepped.{some_one, none_some, slot_below, has_least}
use Rattle.simplex_driver.proofs.Tables.{Has, length_written, written_has}

module _ (net : Network) (sound : HasSoundArcs net) (t : State) (st : IsState net t) (ps : List Store) (pieces : ArePiecesOf net (values_of t) (lists_all ps))
    (whole : (v : ℕ) → v < length net.supply → IsIn v (nodes_of (lists_all ps))) (f : Forest) (sized : IsSized net f) (empty : (v : ℕ) → slot_at f.slots.items v ≡ None) where
  abbrev ls : List PieceLists
  ls = lists_all ps

  -- ---- potentials

  potential_entry : (e : ℕ × Ratio) → IsIn e (flat_map potentials_of ls) → e.1 ≡ at t.potentials e.0
  potential_entry e i =
      let r = in_flat_of potentials_of ls e i in
      let n = in_map_of (λ (x : ℕ × Ratio). (x.0, x.1)) e r.0.nodes r.2 in
      ap (λ (x : ℕ × Ratio). x.1) n.2 ∙ (pieces.each r.0 r.1).read_off.potentials n.0 n.1 ∙ sym (ap (λ (x : ℕ × Ratio). at t.potentials x.0) n.2)

  has_potential : (v : ℕ) → IsIn v (nodes_of ls) → Has (flat_map potentials_of ls) v
  has_potential v i =
      let r = in_flat_of nodes_in ls v i in
      let n = in_map_of (λ (x : ℕ × Ratio). x.0) v r.0.nodes r.2 in
      ((n.0.0, n.0.1), in_flat potentials_of ls r.0 (n.0.0, n.0.1) r.1 (in_map (λ (x : ℕ × Ratio). (x.0, x.1)) n.0 r.0.nodes n.1), sym n.2)

  potentials_are : written (flat_map potentials_of ls) f.potentials.items ≡ t.potentials
  potentials_are =
      let n = length_written (flat_map potentials_of ls) f.potentials.items ∙ sized.potential_each in
      ext_get_or zero_ratio (written (flat_map potentials_of ls) f.potentials.items) t.potentials (n ∙ sym st.one_potential_each) (λ v l.
      written_has (λ u x. x ≡ at t.potentials u) zero_ratio (flat_map potentials_of ls) f.potentials.items potential_entry v (omega (arith, l, n, sized.potential_each))
      (inl (has_potential v (whole v (omega (arith, l, n))))))

  -- ---- the arcs of the pieces

  -- each arc touches a piece: it is basic in it, or has a mark there
  covered : (a : ℕ) → a < length net.arcs → (p : PieceLists) × IsIn p ls × (IsIn a (basics_in p) ⊎ IsIn a (marked_in p))
  covered a l =
      let r = in_flat_of nodes_in ls (tail_of (ends_at net.arcs a)) (whole (tail_of (ends_at net.arcs a)) (tail_below (length net.supply) (ends_at net.arcs a) (directions.ends_valid net sound a l))) in
      let touched : Touches (nodes_in r.0) (graph_ends (ends_at net.arcs a)) = touch_tail (nodes_in r.0) (ends_at net.arcs a) r.2 in
      let own : IsPieceOf net (values_of t) r.0 = pieces.each r.0 r.1 in (
        r.0,
        r.1,
        elim (decide_basic ((values_of t).mark a)) [
          | yes e ↦ inl ((own.part.is_piece.touched a).1 ((basics_hold net.arcs (values_of t).mark a).1 (l, e), touched))
          | no n ↦ inr ((own.read_off.marked a).1 (l, n, touched))
        ],
      )

  basic_mark : (p : PieceLists) → IsIn p ls → (b : ℕ × Ends × Ratio) → IsIn b p.basics → marked.Basic ≡ (values_of t).mark b.0
  basic_mark p i b j =
      sym ((basics_hold net.arcs (values_of t).mark b.0).0 (((pieces.each p i).part.is_piece.touched b.0).0 (in_map (λ (x : ℕ × Ends × Ratio). x.0) b p.basics j)).0).1

  -- ---- marks

  mark_entry : (e : ℕ × Mark) → IsIn e (flat_map marks_of ls) → e.1 ≡ (values_of t).mark e.0
  mark_entry e i =
      let r = in_flat_of marks_of ls e i in
      elim (in_append e (map (λ (b : ℕ × Ends × Ratio). (b.0, marked.Basic)) r.0.basics) r.0.marks r.2) [
        | inl j ↦ (
            let n = in_map_of (λ (b : ℕ × Ends × Ratio). (b.0, marked.Basic)) e r.0.basics j in
            ap (λ (x : ℕ × Mark). x.1) n.2 ∙ basic_mark r.0 r.1 n.0 n.1 ∙ sym (ap (λ (x : ℕ × Mark). (values_of t).mark x.0) n.2))
        | inr j ↦ (pieces.each r.0 r.1).read_off.marks e j
      ]

  has_mark : (a : ℕ) → a < length net.arcs → Has (flat_map marks_of ls) a
  has_mark a l =
      let c = covered a l in
      elim c.2 [
        | inl i ↦ (
            let n = in_map_of (λ (x : ℕ × Ends × Ratio). x.0) a c.0.basics i in (
              (n.0.0, marked.Basic),
              in_flat marks_of ls c.0 (n.0.0, marked.Basic) c.1 (in_front (n.0.0, marked.Basic) (map (λ (b : ℕ × Ends × Ratio). (b.0, marked.Basic)) c.0.basics) c.0.marks
                  (in_map (λ (b : ℕ × Ends × Ratio). (b.0, marked.Basic)) n.0 c.0.basics n.1)),
              sym n.2,
            ))
        | inr i ↦ (
            let n = in_map_of (λ (x : ℕ × Mark). x.0) a c.0.marks i in
            (n.0, in_flat marks_of ls c.0 n.0 c.1 (in_back n.0 (map (λ (b : ℕ × Ends × Ratio). (b.0, marked.Basic)) c.0.basics) c.0.marks n.1), sym n.2))
      ]

  marks_are : written (flat_map marks_of ls) f.marks.items ≡ t.marks
  marks_are =
      let n = length_written (flat_map marks_of ls) f.marks.items ∙ sized.mark_each in
      ext_get_or marked.Lower (written (flat_map marks_of ls) f.marks.items) t.marks (n ∙ sym st.one_mark_each) (λ a l.
      written_has (λ u x. x ≡ (values_of t).mark u) marked.Lower (flat_map marks_of ls) f.marks.items mark_entry a (omega (arith, l, n, sized.mark_each))
      (inl (has_mark a (omega (arith, l, n)))))

  -- ---- flows

  -- an arc outside the basis has the flow of its bound
  bound_entry : (p : PieceLists) → IsIn p ls → (m : ℕ × Mark) → IsIn m p.marks → bound_at (arc_at net.arcs m.0) m.1 ≡ at t.flows m.0
  bound_entry p i m j =
      let own : IsPieceOf net (values_of t) p = pieces.each p i in
      let stands = (own.read_off.marked m.0).0 (in_map (λ (x : ℕ × Mark). x.0) m p.marks j) in
      ap (bound_at (arc_at net.arcs m.0)) (own.read_off.marks m j)
      ∙ stands_bound (arc_at net.arcs m.0) ((values_of t).mark m.0) (at t.flows m.0) stands.1 (st.at_bounds m.0 stands.0)

  flow_entry : (e : ℕ × Ratio) → IsIn e (flat_map (all_flows net) ls) → e.1 ≡ at t.flows e.0
  flow_entry e i =
      let r = in_flat_of (all_flows net) ls e i in
      elim (in_append e (bounds_written net r.0) (flows_written r.0) r.2) [
        | inl j ↦ (
            let n = in_map_of (λ (m : ℕ × Mark). (m.0, bound_at (arc_at net.arcs m.0) m.1)) e r.0.marks j in
            ap (λ (x : ℕ × Ratio). x.1) n.2 ∙ bound_entry r.0 r.1 n.0 n.1 ∙ sym (ap (λ (x : ℕ × Ratio). at t.flows x.0) n.2))
        | inr j ↦ (
            let n = in_map_of (λ (x : ℕ × Ends × Ratio). (x.0, x.2)) e r.0.basics j in
            ap (λ (x : ℕ × Ratio). x.1) n.2 ∙ ((pieces.each r.0 r.1).read_off.basic n.0 n.1).1 ∙ sym (ap (λ (x : ℕ × Ratio). at t.flows x.0) n.2))
      ]

  has_flow : (a : ℕ) → a < length net.arcs → Has (flat_map (all_flows net) ls) a
  has_flow a l =
      let c = covered a l in
      elim c.2 [
        | inl i ↦ (
            let n = in_map_of (λ (x : ℕ × Ends × Ratio). x.0) a c.0.basics i in (
              (n.0.0, n.0.2),
              in_flat (all_flows net) ls c.0 (n.0.0, n.0.2) c.1 (in_back (n.0.0, n.0.2) (bounds_written net c.0) (flows_written c.0) (in_map (λ (x : ℕ × Ends × Ratio). (x.0, x.2)) n.0 c.0.basics n.1)),
              sym n.2,
            ))
        | inr i ↦ (
            let n = in_map_of (λ (x : ℕ × Mark). x.0) a c.0.marks i in (
              (n.0.0, bound_at (arc_at net.arcs n.0.0) n.0.1),
              in_flat (all_flows net) ls c.0 (n.0.0, bound_at (arc_at net.arcs n.0.0) n.0.1) c.1 (in_front (n.0.0, bound_at (arc_at net.arcs n.0.0) n.0.1) (bounds_written net c.0) (flows_written c.0)
                  (in_map (λ (m : ℕ × Mark). (m.0, bound_at (arc_at net.arcs m.0) m.1)) n.0 c.0.marks n.1)),
              sym n.2,
            ))
      ]

  flows_are : written (flat_map (all_flows net) ls) f.flows.items ≡ t.flows
  flows_are =
      let n = length_written (flat_map (all_flows net) ls) f.flows.items ∙ sized.flow_each in
      ext_get_or zero_ratio (written (flat_map (all_flows net) ls) f.flows.items) t.flows (n ∙ sym st.feasible.one_each) (λ a l.
      written_has (λ u x. x ≡ at t.flows u) zero_ratio (flat_map (all_flows net) ls) f.flows.items flow_entry a (omega (arith, l, n, sized.flow_each))
      (inl (has_flow a (omega (arith, l, n)))))

  -- ---- slots

  abbrev new_slots : List (Option Store)
  new_slots = written (filled ps) f.slots.items

  is_piece : (q : Store) → IsIn q ps → IsPieceOf net (values_of t) q.lists
  is_piece q i = pieces.each q.lists (in_map (λ (x : Store). x.lists) q ps i)

  least_in : (q : Store) → IsIn q ps → IsIn (least_node q.lists) (nodes_in q.lists)
  least_in q i = let own = is_piece q i in has_least q.lists own.part.least own.part.is_piece.has_least

  least_below : (q : Store) → IsIn q ps → least_node q.lists < length net.supply
  least_below q i = (((is_piece q i).part.is_piece.joined (least_node q.lists)).0 (least_in q i)).0

  -- the slot of the least node of a piece has it
  new_there : (q : Store) → IsIn q ps → (x : Store) × (slot_at (written (filled ps) f.slots.items) (least_node q.lists) ≡ Some x) × (x.lists ≡ q.lists)
  new_there q i =
      written_has (λ u o. u ≡ least_node q.lists → (x : Store) × (o ≡ Some x) × (x.lists ≡ q.lists)) None (filled ps) f.slots.items
      (λ e j same.
      let r = in_map_of (λ (y : Store). (least_node y.lists, Some y)) e ps j in
      let k : least_node r.0.lists ≡ least_node q.lists = sym (ap (λ (z : ℕ × Option Store). z.0) r.2) ∙ same in (
        r.0,
        ap (λ (z : ℕ × Option Store). z.1) r.2,
        piece_is_unique net (values_of t) r.0.lists q.lists (least_node q.lists) (is_piece r.0 r.1) (is_piece q i) (subst (λ w. IsIn w (nodes_in r.0.lists)) k (least_in r.0 r.1)) (least_in q i),
      ))
      (least_node q.lists) (let l = least_below q i in omega (arith, l, sized.slot_each)) (inl ((least_node q.lists, Some q), in_map (λ (y : Store). (least_node y.lists, Some y)) q ps i, refl)) refl

  in_slot : (v : ℕ) → v < length f.slots.items → (p : Store) → slot_at (written (filled ps) f.slots.items) v ≡ Some p → IsPieceOf net (values_of t) p.lists × (least_node p.lists ≡ v)
  in_slot v l =
      written_has (λ u o. (p : Store) → o ≡ Some p → IsPieceOf net (values_of t) p.lists × (least_node p.lists ≡ u)) None (filled ps) f.slots.items
      (λ e j p k.
      let r = in_map_of (λ (y : Store). (least_node y.lists, Some y)) e ps j in
      let same : r.0 ≡ p = some_one r.0 p (sym (ap (λ (z : ℕ × Option Store). z.1) r.2) ∙ k) in (
        subst (λ (x : Store). IsPieceOf net (values_of t) x.lists) same (is_piece r.0 r.1),
        ap (λ (x : Store). least_node x.lists) (sym same) ∙ sym (ap (λ (z : ℕ × Option Store). z.0) r.2),
      ))
      v l (inr (λ p k. absurd (none_some p (sym (empty v) ∙ k))))

  in_its_slot : (v : ℕ) → v < length net.supply → (u : ℕ) × IsInSlot (written (filled ps) f.slots.items) u v
  in_its_slot v l =
      let r = in_flat_of nodes_in ls v (whole v l) in
      let q = in_map_of (λ (x : Store). x.lists) r.0 ps r.1 in
      let x = new_there q.0 q.1 in
      (least_node q.0.lists, (x.0, x.1, subst (λ z. IsIn v (nodes_in z)) (q.2 ∙ sym x.2) r.2))

  slots_long : length (written (filled ps) f.slots.items) ≡ length f.slots.items
  slots_long = length_written (filled ps) f.slots.items

  pub home_again : (g : Forest) → g.slots.items ≡ written (filled ps) f.slots.items
      → g.potentials.items ≡ written (flat_map potentials_of ls) f.potentials.items → g.flows.items ≡ written (flat_map (all_flows net) ls) f.flows.items
      → g.marks.items ≡ written (flat_map marks_of ls) f.marks.items → (state_of g ≡ t) × IsKept net g
  home_again g slots potentials flows marks =
      let is : state_of g ≡ t = same_state (state_of g) t (marks ∙ marks_are) (flows ∙ flows_are) (potentials ∙ potentials_are) in
      let holds : Holds net (values_of t) (written (filled ps) f.slots.items) = record {
        slot_each = slots_long ∙ sized.slot_each;
        pieces = λ v p e. in_slot v (let l = slot_below (written (filled ps) f.slots.items) v p e in omega (arith, l, slots_long)) p e;
        whole = in_its_slot;
      } in (
        is,
        subst (Holds net (values_of (state_of g))) (sym slots) (subst (λ s. Holds net (values_of s) (written (filled ps) f.slots.items)) (sym is) holds),
      )
