-- The tables after a pivot are those of the state afterwards.
use Rattle.std.specs.Prelude.{◌≡◌, ◌≢◌, ℕ, ◌<◌, List, length, slice_index_or, slice_set}
use Rattle.std.specs.List.{flat_map}
use Rattle.std.proofs.Common.{sym, ap, subst, ◌∙◌, inl, inr, arith}
use Rattle.std.proofs.lemmas.List.{ext_get_or, get_or-set_same, get_or-set_other}
use Rattle.std.proofs.Math.ListN.{length-set}
use Rattle.gain_graphs.specs.Arcs.{IsIn, Touches}
use Rattle.gain_graphs.proofs.Lists.{in_map, in_map_of, decide_in}
use Rattle.gain_graphs.proofs.Search.{decide_touches}
use native.Mathlib.Decide.{ℕ_discrete}
use Rattle.np_frac.specs.Ratio.{Ratio, zero_ratio}
use Rattle.np_model.specs.declared.arc.Ends.{Ends}
use Rattle.np_model.specs.declared.log.Mark.TheVariants as marked
use Rattle.np_model.specs.declared.log.Entry.{Entry}
use Rattle.np_model.specs.Network.Flows.{Network, at}
use Rattle.np_model.specs.Basis.Graphs.{ratios, graph_of, arc_at, ends_at}
use Rattle.np_model.specs.Basis.Moves.{mark_after}
use Rattle.np_model.specs.Basis.Pieces.{PieceLists, nodes_in, basics_in, nodes_of, basics_of}
use Rattle.np_model.specs.Basis.Pivots.{IsPivot}
use Rattle.np_model.specs.Basis.Sound.{bound_at, HoldEnds}
use Rattle.np_model.specs.Basis.States.{State, values_of, StandsAt, IsState}
use Rattle.np_basis.specs.PivotLaws.{HasRealArcs, ArePiecesOf, ArePiecesAfter, IsReplaced}
use Rattle.np_basis.proofs.Basics.{basics_hold}
use Rattle.np_basis.proofs.Held.{arc_below}
use Rattle.np_basis.proofs.Pivoting.{mark_leave, mark_enter, mark_other, not_towards}
use Rattle.np_basis.proofs.Reading.{in_flat, in_flat_of, stands_bound, touches_flat}
use Rattle.np_basis.proofs.ToPieces.{pivot_replaces}
use Rattle.simplex_driver.specs.Store.{written, potentials_of, flows_written}
use Rattle.simplex_driver.proofs.Tables.{Has, length_written, written_has}

module _ (net : Network) (real : ℕ) (ground : HasRealArcs net real) (s : State) (st : IsState net s) (ps : List PieceLists) (pieces : ArePiecesOf net (values_of s) ps)
    (entry : Entry) (t : State) (pivot : IsPivot net real s entry t) (qs : List PieceLists) (after : ArePiecesAfter net ps t qs)
    (lies : HoldEnds ps (ends_at net.arcs entry.enter)) where
  replaced : IsReplaced net s qs t
  replaced = pivot_replaces net real s entry t ps qs ground st pieces lies pivot after

  -- ---- potentials

  potential_entry : (e : ℕ × Ratio) → IsIn e (flat_map potentials_of qs) → e.1 ≡ at t.potentials e.0
  potential_entry e i =
      let r = in_flat_of potentials_of qs e i in
      let n = in_map_of (λ (x : ℕ × Ratio). (x.0, x.1)) e r.0.nodes r.2 in
      ap (λ (x : ℕ × Ratio). x.1) n.2 ∙ (after.pieces_of.each r.0 r.1).read_off.potentials n.0 n.1 ∙ sym (ap (λ (x : ℕ × Ratio). at t.potentials x.0) n.2)

  has_potential : (v : ℕ) → IsIn v (nodes_of qs) → Has (flat_map potentials_of qs) v
  has_potential v i =
      let r = in_flat_of nodes_in qs v i in
      let n = in_map_of (λ (x : ℕ × Ratio). x.0) v r.0.nodes r.2 in
      ((n.0.0, n.0.1), in_flat potentials_of qs r.0 (n.0.0, n.0.1) r.1 (in_map (λ (x : ℕ × Ratio). (x.0, x.1)) n.0 r.0.nodes n.1), sym n.2)

  pub potentials_after : written (flat_map potentials_of qs) s.potentials ≡ t.potentials
  potentials_after =
      let n = length_written (flat_map potentials_of qs) s.potentials in
      ext_get_or zero_ratio (written (flat_map potentials_of qs) s.potentials) t.potentials (n ∙ st.one_potential_each ∙ sym pivot.is_state.one_potential_each) (λ v l.
      written_has (λ u x. x ≡ at t.potentials u) zero_ratio (flat_map potentials_of qs) s.potentials potential_entry v (omega (arith, n))
      (elim (decide_in v (nodes_of qs)) [
        | yes i ↦ inl (has_potential v i)
        | no k ↦ inr (sym (replaced.potentials_off v (omega (arith, n, st.one_potential_each)) k))
      ]))

  -- ---- marks

  pub leave_below : entry.leave < length net.arcs
  leave_below = arc_below net entry.leave pivot.move.leaves

  mark_is : (a : ℕ) → a < length s.marks → slice_index_or (slice_set (slice_set s.marks entry.enter marked.Basic) entry.leave entry.leave_at) a marked.Lower ≡ mark_after entry (values_of s).mark a
  mark_is a l = go (ℕ_discrete a entry.leave) (ℕ_discrete a entry.enter)
    where
      go : Dec (a ≡ entry.leave) → Dec (a ≡ entry.enter) → slice_index_or (slice_set (slice_set s.marks entry.enter marked.Basic) entry.leave entry.leave_at) a marked.Lower ≡ mark_after entry (values_of s).mark a
      go (yes e) k =
          ap (λ u. slice_index_or (slice_set (slice_set s.marks entry.enter marked.Basic) u entry.leave_at) a marked.Lower) (sym e)
          ∙ get_or-set_same (slice_set s.marks entry.enter marked.Basic) a entry.leave_at marked.Lower (omega (arith, length-set s.marks entry.enter marked.Basic))
          ∙ sym (ap (mark_after entry (values_of s).mark) e ∙ mark_leave entry (values_of s).mark)
      go (no n) (yes e) =
          get_or-set_other (slice_set s.marks entry.enter marked.Basic) entry.leave a entry.leave_at marked.Lower n
          ∙ ap (λ u. slice_index_or (slice_set s.marks u marked.Basic) a marked.Lower) (sym e)
          ∙ get_or-set_same s.marks a marked.Basic marked.Lower l
          ∙ sym (ap (mark_after entry (values_of s).mark) e ∙ mark_enter entry (values_of s).mark (λ k. n (e ∙ k)))
      go (no n) (no m) =
          get_or-set_other (slice_set s.marks entry.enter marked.Basic) entry.leave a entry.leave_at marked.Lower n
          ∙ get_or-set_other s.marks entry.enter a marked.Basic marked.Lower m
          ∙ sym (mark_other entry (values_of s).mark a m n)

  pub marks_after : slice_set (slice_set s.marks entry.enter marked.Basic) entry.leave entry.leave_at ≡ t.marks
  marks_after =
      let n = length-set (slice_set s.marks entry.enter marked.Basic) entry.leave entry.leave_at ∙ length-set s.marks entry.enter marked.Basic in
      ext_get_or marked.Lower (slice_set (slice_set s.marks entry.enter marked.Basic) entry.leave entry.leave_at) t.marks (n ∙ st.one_mark_each ∙ sym pivot.is_state.one_mark_each) (λ a l.
      mark_is a (omega (arith, n)) ∙ sym (pivot.marks a (omega (arith, n, st.one_mark_each))))

  -- ---- flows

  flow_entry : (e : ℕ × Ratio) → IsIn e (flat_map flows_written qs) → e.1 ≡ at t.flows e.0
  flow_entry e i =
      let r = in_flat_of flows_written qs e i in
      let n = in_map_of (λ (x : ℕ × Ends × Ratio). (x.0, x.2)) e r.0.basics r.2 in
      ap (λ (x : ℕ × Ratio). x.1) n.2 ∙ ((after.pieces_of.each r.0 r.1).read_off.basic n.0 n.1).1 ∙ sym (ap (λ (x : ℕ × Ratio). at t.flows x.0) n.2)

  has_flow : (a : ℕ) → IsIn a (basics_of qs) → Has (flat_map flows_written qs) a
  has_flow a i =
      let r = in_flat_of basics_in qs a i in
      let n = in_map_of (λ (x : ℕ × Ends × Ratio). x.0) a r.0.basics r.2 in
      ((n.0.0, n.0.2), in_flat flows_written qs r.0 (n.0.0, n.0.2) r.1 (in_map (λ (x : ℕ × Ends × Ratio). (x.0, x.2)) n.0 r.0.basics n.1), sym n.2)

  -- a leaving arc stands at its bound
  leave_mark : (values_of t).mark entry.leave ≡ entry.leave_at
  leave_mark = pivot.marks entry.leave leave_below ∙ mark_leave entry (values_of s).mark

  leave_flow : at t.flows entry.leave ≡ bound_at (arc_at net.arcs entry.leave) entry.leave_at
  leave_flow = sym (stands_bound (arc_at net.arcs entry.leave) entry.leave_at (at t.flows entry.leave) (not_towards _ entry.leave_at pivot.move.stops.towards)
      (subst (λ m. StandsAt (arc_at net.arcs entry.leave) m (at t.flows entry.leave)) leave_mark (pivot.is_state.at_bounds entry.leave leave_below)))

  -- an arc that neither is in the new pieces nor leaves keeps its flow
  flow_kept : (a : ℕ) → a < length net.arcs → a ≢ entry.leave → (¬ IsIn a (basics_of qs)) → at s.flows a ≡ at t.flows a
  flow_kept a l n out = elim (decide_touches ratios (length net.supply) (graph_of (ends_at net.arcs)) (nodes_of qs) (graph_of (ends_at net.arcs) a)) [
    | no off ↦ sym (replaced.flows_off a l off)
    | yes on ↦ at_rest (nonbasic on)
  ]
    where
      nonbasic : Touches (nodes_of qs) (graph_of (ends_at net.arcs) a) → (values_of t).mark a ≢ marked.Basic
      nonbasic on e =
          let r = touches_flat qs (graph_of (ends_at net.arcs) a) on in
          out (in_flat basics_in qs r.0 a r.1 (((after.pieces_of.each r.0 r.1).part.is_piece.touched a).1 ((basics_hold net.arcs (values_of t).mark a).1 (l, e), r.2)))

      at_rest : (values_of t).mark a ≢ marked.Basic → at s.flows a ≡ at t.flows a
      at_rest k = elim (ℕ_discrete a entry.enter) [
        | yes e ↦ absurd (k (pivot.marks a l ∙ ap (mark_after entry (values_of s).mark) e ∙ mark_enter entry (values_of s).mark (λ q. n (e ∙ q))))
        | no m ↦ (
            let same : (values_of t).mark a ≡ (values_of s).mark a = pivot.marks a l ∙ mark_other entry (values_of s).mark a m n in
            sym (stands_bound (arc_at net.arcs a) ((values_of s).mark a) (at s.flows a) (λ e. k (same ∙ e)) (st.at_bounds a l))
            ∙ ap (bound_at (arc_at net.arcs a)) (sym same)
            ∙ stands_bound (arc_at net.arcs a) ((values_of t).mark a) (at t.flows a) k (pivot.is_state.at_bounds a l))
      ]

  pub flows_after : slice_set (written (flat_map flows_written qs) s.flows) entry.leave (bound_at (arc_at net.arcs entry.leave) entry.leave_at) ≡ t.flows
  flows_after =
      let bound = bound_at (arc_at net.arcs entry.leave) entry.leave_at in
      let table = written (flat_map flows_written qs) s.flows in
      let n = length_written (flat_map flows_written qs) s.flows in
      let m = length-set table entry.leave bound in
      ext_get_or zero_ratio (slice_set table entry.leave bound) t.flows (m ∙ n ∙ st.feasible.one_each ∙ sym pivot.is_state.feasible.one_each) (λ a l.
      let l' : a < length net.arcs = omega (arith, m, n, st.feasible.one_each) in
      elim (ℕ_discrete a entry.leave) [
        | yes e ↦ ap (λ u. slice_index_or (slice_set table u bound) a zero_ratio) (sym e) ∙ get_or-set_same table a bound zero_ratio (omega (arith, m)) ∙ sym (ap (λ u. at t.flows u) e ∙ leave_flow)
        | no k ↦ get_or-set_other table entry.leave a bound zero_ratio k
            ∙ written_has (λ u x. u ≢ entry.leave → x ≡ at t.flows u) zero_ratio (flat_map flows_written qs) s.flows (λ e i _. flow_entry e i) a (omega (arith, st.feasible.one_each))
            (elim (decide_in a (basics_of qs)) [ yes i ↦ inl (has_flow a i) | no o ↦ inr (λ _. flow_kept a l' k o) ]) k
      ])
