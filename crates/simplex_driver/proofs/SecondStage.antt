-- After the turn the pieces and the table of potentials are those of a state of stage two.
use Rattle.std.specs.Prelude.{◌≡◌, ◌≢◌, ◌↔◌, ℕ, ◌<◌, List, [], ◌∷◌, length, map, slice_index, Option, Some, None, Result, Ok, Err, MatchResult, IfOk}
use Rattle.std.specs.List.Sorted.{IsStrictlyIncreasing}
use Rattle.std.proofs.Common.{refl, sym, ap, subst, ◌∙◌, inl, arith}
use Rattle.gain_graphs.specs.Arcs.{IsIn, Touches}
use Rattle.gain_graphs.specs.Forests as forests
use Rattle.gain_graphs.specs.QuasiTrees.{LiesIn}
use Rattle.gain_graphs.proofs.Lists.{in_map_of}
use Rattle.gain_graphs.proofs.Theorems as theorems
use Rattle.np_frac.specs.Ratio.{Ratio, zero_ratio}
use Rattle.np_frac.specs.Fits.{Fits}
use Rattle.np_model.specs.declared.arc.Ends.{Ends}
use Rattle.np_model.specs.declared.arc.Ends.TheVariants.{Link, Drain, Feed}
use Rattle.np_model.specs.declared.log.Mark.{Mark}
use Rattle.np_model.specs.declared.log.Mark.TheVariants as marked
use Rattle.np_model.specs.declared.phase.Phase.TheVariants.{One, Two}
use Rattle.np_model.specs.Network.Arcs.{tail_of}
use Rattle.np_model.specs.Network.Flows.{Network, at}
use Rattle.np_model.specs.Basis.Graphs.{ratios, graph_of, graph_ends, arc_at, ends_at, cost_at}
use Rattle.np_model.specs.declared.network.FullNet.{FullNet}
use Rattle.np_model.specs.Basis.Phases.{with_artificial, network_of, phase_net}
use Rattle.np_model.specs.Basis.Pieces.{PieceLists, nodes_in, basics_in, marked_in, least_node, beside}
use Rattle.np_model.specs.Basis.Starts.{artificial_ends}
use Rattle.np_model.specs.Basis.States.{State, values_of, basics, price, IsPart, IsPieceOf, IsState}
use Rattle.np_model.specs.Rows.Potentials.{ArePriced, PotentialsFit}
use Rattle.np_basis.specs.Laws.{HasSoundArcs}
use Rattle.np_basis.proofs.Ascending.{same_rising}
use Rattle.np_basis.proofs.Basics.{basics_hold}
use Rattle.np_basis.proofs.Cutting.{piece_is_unique}
use Rattle.np_basis.proofs.Directions as directions
use Rattle.np_basis.proofs.Held as held
use Rattle.np_basis.proofs.Reading.{Found, beside_in, price_same, rows_same, piece_is_sound}
use Rattle.np_runs.specs.Runs.{IsTurn, AreOfTurn, HasNoArtificialFlow}
use Rattle.np_runs.proofs.Stages.{same_ends, same_basics, part_stays, in_net_stays, pieces_stay}
use Rattle.np_runs.proofs.Turning.{turn_is}
use Rattle.quasi_tree.specs.Store.{Store}
use Rattle.np_basis.proofs.Fulls.{full_net_is_sound}
use Rattle.tree_potentials.specs.declared.refusal.PotentialRefusal.{PotentialRefusal}
use Rattle.simplex_driver.specs.declared.forest.Forest.{Forest}
use Rattle.simplex_driver.specs.Store.{state_of, slot_at, Holds, IsKept}
use Rattle.simplex_driver.specs.Turns.{CanTurn, IsPieceTurned, IsSlotTurned, AreTurned, IsTurnCause}
use Rattle.simplex_driver.proofs.Attempts.{one_piece, same_state}
use Rattle.simplex_driver.proofs.Stepped.{some_one, none_some, slot_below}

-- an end of an arc
pub touch_tail : (ns : List ℕ) (e : Ends) → IsIn (tail_of e) ns → Touches ns (graph_ends e)
touch_tail ns (Link i j g) h = inl h
touch_tail ns (Drain v) h = h
touch_tail ns (Feed v) h = h

pub tail_below : (n : ℕ) (e : Ends) → forests.IsValid ratios n (graph_ends e) → tail_of e < n
tail_below n (Link i j g) h = h.0
tail_below n (Drain v) h = h
tail_below n (Feed v) h = h

module _ (net : Network) (ext : List Ends) (f : Forest) (st : IsState (with_artificial One net ext) (state_of f)) (kept : IsKept (with_artificial One net ext) f) (sound : HasSoundArcs (with_artificial One net ext)) where
  pub can_turn : CanTurn (with_artificial Two net ext) f.slots.items
  can_turn = record {
    each = λ v p e. in_net_stays net ext One Two p.lists (piece_is_sound (with_artificial One net ext) (state_of f) p.lists st (kept.pieces v p e).0).in_net;
    apart = λ u v p q w e k i j. sym (kept.pieces u p e).1 ∙ ap least_node (piece_is_unique (with_artificial One net ext) (values_of (state_of f)) p.lists q.lists w (kept.pieces u p e).0 (kept.pieces v q k).0 i j) ∙ (kept.pieces v q k).1;
  }

  module _ (slots : List (Option Store)) (table : List Ratio) (long : length table ≡ length f.potentials.items) (turned : AreTurned (with_artificial Two net ext) f.slots.items slots table) where
    abbrev pub after : State
    after = record { marks = f.marks.items; flows = f.flows.items; potentials = table }

    -- the piece of a node, before and after
    record AtHome (v : ℕ) : Type 0 where
      pub slot : ℕ
      pub old : Store
      pub new : Store
      pub was : slot_at f.slots.items slot ≡ Some old
      pub is : slot_at slots slot ≡ Some new
      pub of_turn : IsPieceTurned (with_artificial Two net ext) table old.lists new.lists
      pub has : IsIn v (nodes_in old.lists)

    slot_turned : (u : ℕ) (p : Store) → slot_at f.slots.items u ≡ Some p → IsSlotTurned (with_artificial Two net ext) table (Some p) (slot_at slots u)
    slot_turned u p e = subst (λ o. IsSlotTurned (with_artificial Two net ext) table o (slot_at slots u)) e (turned.each u (slot_below f.slots.items u p e))

    at_home : (v : ℕ) → v < length net.supply → AtHome v
    at_home v l =
        let r = kept.whole v l in
        let t = slot_turned r.0 r.1.0 r.1.1 in
        record { slot = r.0; old = r.1.0; new = t.0; was = r.1.1; is = t.1; of_turn = t.2; has = r.1.2 }

    old_piece : (v : ℕ) (h : AtHome v) → IsPieceOf (with_artificial One net ext) (values_of (state_of f)) h.old.lists
    old_piece v h = (kept.pieces h.slot h.old h.was).0

    -- ---- potentials

    -- the table says what stands in a turned piece
    beside_table : (p q : PieceLists) → IsPieceTurned (with_artificial Two net ext) table p q → (v : ℕ) → IsIn v (nodes_in q) → beside zero_ratio q.nodes v ≡ at table v
    beside_table p q t v i =
        let r : Found zero_ratio q.nodes v = beside_in zero_ratio q.nodes v i in
        r.is ∙ sym (t.stand r.entry r.is_in) ∙ ap (at table) r.key

    lies : (v : ℕ) (h : AtHome v) (a : ℕ) → IsIn a (basics_in h.old.lists) → LiesIn ratios (nodes_in h.old.lists) (graph_of (ends_at (with_artificial Two net ext).arcs) a)
    lies v h a i =
        subst (λ (e : ℕ → Ends). LiesIn ratios (nodes_in h.old.lists) (graph_of e a)) (same_ends net.arcs ext One Two)
        (held.of_piece (with_artificial One net ext) sound (values_of (state_of f)) (h.old.lists ∷ []) (one_piece (with_artificial One net ext) (values_of (state_of f)) h.old.lists (old_piece v h)) h.old.lists a (inl refl) i).2

    same_on : (v : ℕ) (h : AtHome v) (u : ℕ) → IsIn u (nodes_in h.old.lists) → beside zero_ratio h.new.lists.nodes u ≡ at table u
    same_on v h u i = beside_table h.old.lists h.new.lists h.of_turn u (subst (IsIn u) (sym h.of_turn.nodes) i)

    priced_part : (v : ℕ) (h : AtHome v) (a : ℕ) → IsIn a (basics_in h.old.lists) → price (at table) (arc_at (with_artificial Two net ext).arcs a) ≡ zero_ratio
    priced_part v h a i =
        price_same (at table) (beside zero_ratio h.new.lists.nodes) (nodes_in h.old.lists) (arc_at (with_artificial Two net ext).arcs a) (lies v h a i) (λ u j. sym (same_on v h u j))
        ∙ h.of_turn.potentials.priced a (subst (λ bs. IsIn a (map (λ (b : ℕ × Ends × Ratio). b.0) bs)) (sym h.of_turn.basics) i)

    priced : (a : ℕ) → IsIn a (basics (with_artificial Two net ext).arcs (values_of (state_of f)).mark) → price (at table) (arc_at (with_artificial Two net ext).arcs a) ≡ zero_ratio
    priced a i =
        let j = subst (IsIn a) (sym (same_basics net ext One Two (values_of (state_of f)).mark)) i in
        let below = ((basics_hold (with_artificial One net ext).arcs (values_of (state_of f)).mark a).0 j).0 in
        let tail = tail_of (ends_at (with_artificial One net ext).arcs a) in
        let h = at_home tail (tail_below (length net.supply) (ends_at (with_artificial One net ext).arcs a) (directions.ends_valid (with_artificial One net ext) sound a below)) in
        priced_part tail h a (((old_piece tail h).part.is_piece.touched a).1 (j, touch_tail (nodes_in h.old.lists) (ends_at (with_artificial One net ext).arcs a) h.has))

    fit : (v : ℕ) → v < length net.supply → Fits (at table v)
    fit v l =
        let h = at_home v l in
        let n = in_map_of (λ (x : ℕ × Ratio). x.0) v h.new.lists.nodes (subst (IsIn v) (sym h.of_turn.nodes) h.has) in
        subst Fits (sym (h.of_turn.stand n.0 n.1) ∙ ap (at table) (sym n.2)) (h.of_turn.potentials.fit n.0 n.1)

    rows_fit : (nodes numbers : List ℕ) → IsPart (with_artificial Two net ext) (values_of (state_of f)).mark nodes numbers
        → PotentialsFit (ends_at (with_artificial Two net ext).arcs) (cost_at (with_artificial Two net ext).arcs) numbers (at table)
    rows_fit nodes numbers part =
        let h = at_home part.least ((part.is_piece.joined part.least).0 part.is_piece.has_least).0 in
        let own = part_stays net ext One Two (values_of (state_of f)).mark (nodes_in h.old.lists) (basics_in h.old.lists) (old_piece part.least h).part in
        let same = (theorems.piece_is_unique ratios (length net.supply) (graph_of (ends_at (with_artificial Two net ext).arcs)) (basics (with_artificial Two net ext).arcs (values_of (state_of f)).mark)
        part.least nodes numbers part.is_piece own.least (nodes_in h.old.lists) (basics_in h.old.lists) own.is_piece part.least part.is_piece.has_least h.has).2 in
        let numbers_are : numbers ≡ basics_in h.old.lists = same_rising numbers (basics_in h.old.lists) part.arcs_ascend own.arcs_ascend (λ a. (same a).0) (λ a. (same a).1) in
        subst (λ ns. PotentialsFit (ends_at (with_artificial Two net ext).arcs) (cost_at (with_artificial Two net ext).arcs) ns (at table)) (sym numbers_are)
        (rows_same (ends_at (with_artificial Two net ext).arcs) (cost_at (with_artificial Two net ext).arcs) (nodes_in h.old.lists) (basics_in h.old.lists) (lies part.least h)
        (beside zero_ratio h.new.lists.nodes) (at table) (same_on part.least h)
        (subst (λ bs. PotentialsFit (ends_at (with_artificial Two net ext).arcs) (cost_at (with_artificial Two net ext).arcs) (map (λ (b : ℕ × Ends × Ratio). b.0) bs) (beside zero_ratio h.new.lists.nodes)) h.of_turn.basics h.of_turn.potentials.rows_fit))

    pub of_turn : ext ≡ artificial_ends net → AreOfTurn net (state_of f) table
    of_turn e = record {
      one_each = long ∙ st.one_potential_each;
      priced = subst (λ x. ArePriced (ends_at (with_artificial Two net x).arcs) (cost_at (with_artificial Two net x).arcs) (basics (with_artificial Two net x).arcs (values_of (state_of f)).mark) (at table)) e priced;
      fit = fit;
      rows_fit = subst (λ x. (nodes numbers : List ℕ) → IsPart (with_artificial Two net x) (values_of (state_of f)).mark nodes numbers
          → PotentialsFit (ends_at (with_artificial Two net x).arcs) (cost_at (with_artificial Two net x).arcs) numbers (at table)) e rows_fit;
    }

    pub turns : ext ≡ artificial_ends net → HasNoArtificialFlow net (state_of f) → IsTurn net (state_of f) after
    turns e none = turn_is net (state_of f) table (subst (λ x. IsState (with_artificial One net x) (state_of f)) e st) none (of_turn e)

    -- ---- the pieces

    new_piece : (p q : PieceLists) → IsPieceOf (with_artificial One net ext) (values_of (state_of f)) p → IsPieceTurned (with_artificial Two net ext) table p q
        → IsPieceOf (with_artificial Two net ext) (values_of after) q
    new_piece p q h t =
        let k = pieces_stay net ext (values_of (state_of f)) p One Two h in
        record {
          part = subst (λ bs. IsPart (with_artificial Two net ext) (values_of after).mark (nodes_in q) (map (λ (b : ℕ × Ends × Ratio). b.0) bs)) (sym t.basics)
              (subst (λ ns. IsPart (with_artificial Two net ext) (values_of after).mark ns (basics_in p)) (sym t.nodes) k.part);
          read_off = record {
            marks_ascend = subst (λ ms. IsStrictlyIncreasing (map (λ (m : ℕ × Mark). m.0) ms)) (sym t.marks) k.read_off.marks_ascend;
            potentials = λ n i. sym (t.stand n i);
            basic = λ b i. k.read_off.basic b (subst (IsIn b) t.basics i);
            marked = subst (λ ns. (a : ℕ) → IsIn a (marked_in q) ↔ ((a < length (with_artificial Two net ext).arcs) × ((values_of after).mark a ≢ marked.Basic) × Touches ns (graph_ends (ends_at (with_artificial Two net ext).arcs a)))) (sym t.nodes)
                (subst (λ ms. (a : ℕ) → IsIn a (map (λ (m : ℕ × Mark). m.0) ms) ↔ ((a < length (with_artificial Two net ext).arcs) × ((values_of after).mark a ≢ marked.Basic) × Touches (nodes_in p) (graph_ends (ends_at (with_artificial Two net ext).arcs a)))) (sym t.marks) k.read_off.marked);
            marks = λ m i. k.read_off.marks m (subst (IsIn m) t.marks i);
          };
        }

    in_slot : (v : ℕ) (q : Store) (o : Option Store) → slot_at f.slots.items v ≡ o → slot_at slots v ≡ Some q → IsPieceOf (with_artificial Two net ext) (values_of after) q.lists × (least_node q.lists ≡ v)
    in_slot v q None e k = absurd (none_some q (sym (subst (λ o. IsSlotTurned (with_artificial Two net ext) table o (slot_at slots v)) e
        (turned.each v (omega (arith, slot_below slots v q k, turned.long)))) ∙ k))
    in_slot v q (Some p) e k =
        let t = slot_turned v p e in
        let same : t.0 ≡ q = some_one t.0 q (sym t.1 ∙ k) in
        let is = subst (λ (x : Store). IsPieceTurned (with_artificial Two net ext) table p.lists x.lists) same t.2 in
        (new_piece p.lists q.lists (kept.pieces v p e).0 is, ap (λ ns. slice_index ns 0) is.nodes ∙ (kept.pieces v p e).1)

    pub holds_after : Holds (with_artificial Two net ext) (values_of after) slots
    holds_after = record {
      slot_each = turned.long ∙ kept.slot_each;
      pieces = λ v q k. in_slot v q (slot_at f.slots.items v) refl k;
      whole = λ v l. let h = at_home v l in (h.slot, (h.new, h.is, subst (IsIn v) (sym h.of_turn.nodes) h.has));
    }

-- ---- what the turn of the pieces comes to

module _ (full : FullNet) (f : Forest) (artificial : full.artificial ≡ artificial_ends (network_of full.net)) (kept : IsKept (phase_net One full) f) (st : IsState (phase_net One full) (state_of f))
    (none : HasNoArtificialFlow (network_of full.net) (state_of f)) (slots before : List (Option Store)) (table old : List Ratio) (was : before ≡ f.slots.items) (is_old : old ≡ f.potentials.items)
    (long : length table ≡ length old) (g : Forest) (slots_are : g.slots.items ≡ slots) (table_is : g.potentials.items ≡ table) (flows : g.flows.items ≡ f.flows.items) (marks : g.marks.items ≡ f.marks.items) where
  state_is : state_of g ≡ record { marks = f.marks.items; flows = f.flows.items; potentials = table }
  state_is = same_state (state_of g) (record { marks = f.marks.items; flows = f.flows.items; potentials = table }) marks flows table_is

  turned_from : AreTurned (phase_net Two full) before slots table → AreTurned (phase_net Two full) f.slots.items slots table
  turned_from t = subst (λ ss. AreTurned (phase_net Two full) ss slots table) was t

  pub turn_ok : (result : Result (Unit {0}) PotentialRefusal) → MatchResult result (λ _. AreTurned (phase_net Two full) before slots table) (IsTurnCause (phase_net Two full) before)
      → IfOk result (λ _. IsTurn (network_of full.net) (state_of f) (state_of g))
  turn_ok (Ok u) t = subst (IsTurn (network_of full.net) (state_of f)) (sym state_is) (turns (network_of full.net) full.artificial f st kept (full_net_is_sound One full) slots table (long ∙ ap length is_old) (turned_from t) artificial none)
  turn_ok (Err e) t = record {}

  pub kept_ok : (result : Result (Unit {0}) PotentialRefusal) → MatchResult result (λ _. AreTurned (phase_net Two full) before slots table) (IsTurnCause (phase_net Two full) before)
      → IfOk result (λ _. IsKept (phase_net Two full) g)
  kept_ok (Ok u) t =
      subst (λ s. Holds (phase_net Two full) (values_of s) g.slots.items) (sym state_is)
      (subst (Holds (phase_net Two full) (values_of (record { marks = f.marks.items; flows = f.flows.items; potentials = table }))) (sym slots_are)
      (holds_after (network_of full.net) full.artificial f st kept (full_net_is_sound One full) slots table (long ∙ ap length is_old) (turned_from t)))
  kept_ok (Err e) t = record {}
