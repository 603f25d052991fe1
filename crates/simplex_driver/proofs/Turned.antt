-- The loop that turns the pieces, slot by slot.
use Rattle.std.specs.Prelude.{◌≡◌, ◌≢◌, ℕ, ◌+◌, ◌<◌, ◌≤◌, List, [], ◌∷◌, length, Option, Some, None, slice_index_or, slice_set}
use Rattle.std.proofs.Common.{refl, sym, ap, subst, ◌∙◌, inl, arith, zero, suc}
use Rattle.std.proofs.lemmas.List.{get_or-set_same, get_or-set_other}
use Rattle.std.proofs.Math.ListN.{length-set}
use native.Mathlib.Decide.{ℕ_discrete}
use Rattle.gain_graphs.specs.Arcs.{IsIn}
use Rattle.gain_graphs.proofs.Lists.{in_map, in_map_of}
use Rattle.np_frac.specs.Ratio.{Ratio, zero_ratio}
use Rattle.np_model.specs.Network.Flows.{Network, at}
use Rattle.np_model.specs.Basis.Pieces.{PieceLists, nodes_in}
use Rattle.np_basis.proofs.Ascending.{Ascends, ascends}
use Rattle.np_basis.proofs.Sound.{one_entry}
use Rattle.quasi_tree.specs.Store.{Store}
use Rattle.tree_potentials.specs.Answers.{HasPotentials}
use Rattle.simplex_driver.specs.Store.{slot_at, written, potentials_of}
use Rattle.simplex_driver.specs.Turns.{CanTurn, IsSlotTurned}
use Rattle.simplex_driver.proofs.Tables.{Has, written_has, written_off}
use Rattle.simplex_driver.proofs.Stepped.{no_piece, some_one, none_some}

-- the slots before a place are turned, and the others are as before
pub record IsTurnedTo (net : Network) (before : List (Option Store)) (place : ℕ) (slots : List (Option Store)) (table : List Ratio) : Type 0 where
  pub long : length slots ≡ length before
  pub done : (v : ℕ) → v < place → IsSlotTurned net table (slot_at before v) (slot_at slots v)
  pub rest : (v : ℕ) → place ≤ v → slot_at slots v ≡ slot_at before v

pub none_turned : (net : Network) (before : List (Option Store)) (table : List Ratio) → IsTurnedTo net before 0 before table
none_turned net before table = record { long = refl; done = λ v l. absurd (omega (arith, l)); rest = λ v l. refl }

-- what a slot is before, to what it is after, over any table that has the potentials of the piece after
slot_other_table : (net : Network) (table other : List Ratio) (before after : Option Store) → IsSlotTurned net table before after
    → ((q : Store) → after ≡ Some q → (n : ℕ × Ratio) → IsIn n q.lists.nodes → at other n.0 ≡ at table n.0) → IsSlotTurned net other before after
slot_other_table net table other None after h same = h
slot_other_table net table other (Some before) after h same = (
  h.0,
  h.1,
  record { nodes = h.2.nodes; basics = h.2.basics; marks = h.2.marks; potentials = h.2.potentials; stand = λ n i. same h.0 h.1 n i ∙ h.2.stand n i },
)

-- the piece of a turned slot has the nodes of the one before
nodes_before : (net : Network) (table : List Ratio) (before after : Option Store) (q : Store) → IsSlotTurned net table before after → after ≡ Some q
    → (p : Store) × (before ≡ Some p) × (nodes_in q.lists ≡ nodes_in p.lists)
nodes_before net table None after q h e = absurd (none_some q (sym h ∙ e))
nodes_before net table (Some p) after q h e = (p, refl, ap (λ (x : Store). nodes_in x.lists) (some_one q h.0 (sym e ∙ h.1)) ∙ h.2.nodes)

node_of_entry : (p : PieceLists) (v : ℕ) → Has (potentials_of p) v → IsIn v (nodes_in p)
node_of_entry p v h =
    let r = in_map_of (λ (n : ℕ × Ratio). (n.0, n.1)) h.0 p.nodes h.1 in
    subst (λ u. IsIn u (nodes_in p)) (sym (ap (λ (x : ℕ × Ratio). x.0) r.2) ∙ h.2) (in_map (λ (n : ℕ × Ratio). n.0) r.0 p.nodes r.1)

module _ (net : Network) (before : List (Option Store)) (can : CanTurn net before) (place : ℕ) (slots : List (Option Store)) (table : List Ratio) (h : IsTurnedTo net before place slots table) (below : place < length before) where
  -- an empty slot
  pub none_more : (left : List (Option Store)) → left ≡ slice_set slots place no_piece → slot_at slots place ≡ None → IsTurnedTo net before (place + 1) left table
  none_more left is none = record {
    long = ap length is ∙ length-set slots place no_piece ∙ h.long;
    done = λ v l. elim (ℕ_discrete v place) [
      | yes e ↦ subst (λ u. IsSlotTurned net table (slot_at before u) (slot_at left u)) (sym e)
          (subst (λ o. IsSlotTurned net table o (slot_at left place)) (sym (sym (h.rest place (omega arith)) ∙ none)) (ap (λ ss. slot_at ss place) is ∙ get_or-set_same slots place no_piece no_piece (omega (arith, below, h.long))))
      | no n ↦ subst (IsSlotTurned net table (slot_at before v)) (sym (ap (λ ss. slot_at ss v) is ∙ get_or-set_other slots place v no_piece no_piece n)) (h.done v (omega (arith, l, n)))
    ];
    rest = λ v l. ap (λ ss. slot_at ss v) is ∙ get_or-set_other slots place v no_piece no_piece (λ e. omega (arith, l, e)) ∙ h.rest v (omega (arith, l));
  }

  -- a slot with a piece, which got its potentials
  module _ (p q : Store) (there : slot_at slots place ≡ Some p) (nodes : nodes_in q.lists ≡ nodes_in p.lists) (basics : q.lists.basics ≡ p.lists.basics) (marks : q.lists.marks ≡ p.lists.marks)
      (potentials : HasPotentials net q.lists) (left : List (Option Store)) (is : left ≡ slice_set (slice_set slots place no_piece) place (Some q))
      (after : List Ratio) (wrote : after ≡ written (potentials_of q.lists) table) (long : (n : ℕ × Ratio) → IsIn n q.lists.nodes → n.0 < length table)
      (once : (n m : ℕ × Ratio) → IsIn n q.lists.nodes → IsIn m q.lists.nodes → n.0 ≡ m.0 → n ≡ m) where
    was : slot_at before place ≡ Some p
    was = sym (h.rest place (omega arith)) ∙ there

    emptied_long : length (slice_set slots place no_piece) ≡ length before
    emptied_long = length-set slots place no_piece ∙ h.long

    stands : (n : ℕ × Ratio) → IsIn n q.lists.nodes → at after n.0 ≡ n.1
    stands n i =
        ap (λ t. at t n.0) wrote
        ∙ written_has (λ v x. v ≡ n.0 → x ≡ n.1) zero_ratio (potentials_of q.lists) table
        (λ e k same.
        let r = in_map_of (λ (m : ℕ × Ratio). (m.0, m.1)) e q.lists.nodes k in
        ap (λ (x : ℕ × Ratio). x.1) r.2 ∙ ap (λ (x : ℕ × Ratio). x.1) (once r.0 n r.1 i (sym (ap (λ (x : ℕ × Ratio). x.0) r.2) ∙ same)))
        n.0 (long n i) (inl ((n.0, n.1), in_map (λ (m : ℕ × Ratio). (m.0, m.1)) n q.lists.nodes i, refl)) refl

    -- the nodes of the pieces before are others
    other_nodes : (v : ℕ) → v < place → (r : Store) → slot_at slots v ≡ Some r → (n : ℕ × Ratio) → IsIn n r.lists.nodes → at after n.0 ≡ at table n.0
    other_nodes v l r e n i =
        let o = nodes_before net table (slot_at before v) (slot_at slots v) r (h.done v l) e in
        let mine : IsIn n.0 (nodes_in o.0.lists) = subst (IsIn n.0) o.2 (in_map (λ (x : ℕ × Ratio). x.0) n r.lists.nodes i) in
        ap (λ t. at t n.0) wrote
        ∙ written_off zero_ratio (potentials_of q.lists) table n.0 (λ k.
        let same = can.apart v place o.0 p n.0 o.1 was mine (subst (IsIn n.0) nodes (node_of_entry q.lists n.0 k)) in
        omega (arith, l, same))

    kept_slot : (v : ℕ) → v ≢ place → slot_at left v ≡ slot_at slots v
    kept_slot v n = ap (λ ss. slot_at ss v) is ∙ get_or-set_other (slice_set slots place no_piece) place v (Some q) no_piece n ∙ get_or-set_other slots place v no_piece no_piece n

    pub piece_more : IsTurnedTo net before (place + 1) left after
    piece_more = record {
      long = ap length is ∙ length-set (slice_set slots place no_piece) place (Some q) ∙ emptied_long;
      done = λ v l. elim (ℕ_discrete v place) [
        | yes e ↦ subst (λ u. IsSlotTurned net after (slot_at before u) (slot_at left u)) (sym e)
            (subst (λ o. IsSlotTurned net after o (slot_at left place)) (sym was) (
              q,
              ap (λ ss. slot_at ss place) is ∙ get_or-set_same (slice_set slots place no_piece) place (Some q) no_piece (omega (arith, below, emptied_long)),
              record { nodes = nodes; basics = basics; marks = marks; potentials = potentials; stand = stands },
            ))
        | no n ↦ (
            let l' : v < place = omega (arith, l, n) in
            subst (IsSlotTurned net after (slot_at before v)) (sym (kept_slot v n))
            (slot_other_table net table after (slot_at before v) (slot_at slots v) (h.done v l') (other_nodes v l')))
      ];
      rest = λ v l. kept_slot v (λ e. omega (arith, l, e)) ∙ h.rest v (omega (arith, l));
    }

-- ---- what the code reads

read_at : {A : Type 0} (d : A) (xs : List A) (i : ℕ) (r : A) → r ≡ slice_index_or xs i r → i < length xs → slice_index_or xs i d ≡ r
read_at d [] i r e l = absurd (omega (arith, l))
read_at d (x ∷ xs) zero r e l = sym e
read_at d (x ∷ xs) (suc i) r e l = read_at d xs i r e (omega (arith, l))

pub taken_at : (slots : List (Option Store)) (place : ℕ) (read took : Option Store) → read ≡ slice_index_or slots place read → took ≡ slice_index_or slots place read → place < length slots
    → slot_at slots place ≡ took
taken_at slots place read took e f l = read_at no_piece slots place read e l ∙ e ∙ sym f

module _ (net : Network) (before : List (Option Store)) (can : CanTurn net before) (place : ℕ) (p q : Store) (was : slot_at before place ≡ Some p) (nodes : nodes_in q.lists ≡ nodes_in p.lists) where
  pub own_entry : (n m : ℕ × Ratio) → IsIn n q.lists.nodes → IsIn m q.lists.nodes → n.0 ≡ m.0 → n ≡ m
  own_entry n m i j e = one_entry (λ (x : ℕ × Ratio). x.0) q.lists.nodes (subst Ascends (sym nodes) (ascends (nodes_in p.lists) (can.each place p was).shape.nodes_ascend)) n m i j e

  pub own_node : (n : ℕ × Ratio) → IsIn n q.lists.nodes → n.0 < length net.supply
  own_node n i = (can.each place p was).nodes n.0 (subst (IsIn n.0) nodes (in_map (λ (x : ℕ × Ratio). x.0) n q.lists.nodes i))
