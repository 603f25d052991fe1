-- The loop that finds where each node is at home, slot by slot.
use Rattle.std.specs.Prelude.{◌≡◌, ℕ, ◌+◌, ◌<◌, ◌≤◌, List, length, Option, Some, None}
use Rattle.std.specs.List.{All}
use Rattle.std.proofs.Common.{sym, ap, subst, ◌∙◌, inl, inr, arith}
use native.Mathlib.Decide.{ℕ_discrete}
use Rattle.gain_graphs.specs.Arcs.{IsIn}
use Rattle.gain_graphs.proofs.Lists.{in_map, in_map_of}
use Rattle.np_frac.specs.Ratio.{Ratio}
use Rattle.np_model.specs.Network.Flows.{Network}
use Rattle.np_model.specs.Basis.Pieces.{nodes_in, least_node}
use Rattle.quasi_tree.specs.Store.{Store}
use Rattle.simplex_driver.specs.declared.forest.Forest.{Forest}
use Rattle.simplex_driver.specs.Homes.{home_at, homes_of, AreHomes}
use Rattle.simplex_driver.specs.Store.{slot_at, written, IsInSlot, IsKept}
use Rattle.simplex_driver.proofs.Attempts.{place_in, some_node}
use Rattle.simplex_driver.proofs.Stepped.{some_one, none_some, slot_below}
use Rattle.simplex_driver.proofs.Tables.{length_written, written_has}

-- the nodes of the pieces before a place are at home
pub record AreHomesTo (slots : List (Option Store)) (place : ℕ) (homes : List ℕ) : Type 0 where
  pub long : length homes ≡ length slots
  pub done : (v u : ℕ) (p : Store) → u < place → slot_at slots u ≡ Some p → IsIn v (nodes_in p.lists) → IsInSlot slots (home_at homes v) v

pub none_yet : (slots : List (Option Store)) (homes : List ℕ) → length homes ≡ length slots → AreHomesTo slots 0 homes
none_yet slots homes long = record { long = long; done = λ v u p l. absurd (omega (arith, l)) }

module _ (net : Network) (f : Forest) (kept : IsKept net f) (place : ℕ) (homes : List ℕ) (h : AreHomesTo f.slots.items place homes) where
  node_below : (u : ℕ) (p : Store) (v : ℕ) → slot_at f.slots.items u ≡ Some p → IsIn v (nodes_in p.lists) → v < length homes
  node_below u p v e i = let r = ((kept.pieces u p e).0.part.is_piece.joined v).0 i in omega (arith, r.0, kept.slot_each, h.long)

  pub some : (p : Store) → slot_at f.slots.items place ≡ Some p → 0 < length p.lists.nodes
  some p e = let own = (kept.pieces place p e).0 in some_node p.lists own.part.least own.part.is_piece.has_least

  pub within : (p : Store) → slot_at f.slots.items place ≡ Some p → All (λ (n : ℕ × Ratio). n.0 < length homes) p.lists.nodes
  within p e k d l = node_below place p _ e (in_map (λ (n : ℕ × Ratio). n.0) _ p.lists.nodes (place_in p.lists.nodes d k l))

  -- an empty slot
  pub none_more : slot_at f.slots.items place ≡ None → AreHomesTo f.slots.items (place + 1) homes
  none_more none = record {
    long = h.long;
    done = λ v u p l e i. elim (ℕ_discrete u place) [
      | yes d ↦ absurd (none_some p (sym none ∙ ap (slot_at f.slots.items) (sym d) ∙ e))
      | no n ↦ h.done v u p (omega (arith, l, n)) e i
    ];
  }

  -- a slot with a piece, which is the home of its nodes
  module _ (p : Store) (there : slot_at f.slots.items place ≡ Some p) (now : List ℕ) (wrote : now ≡ written (homes_of p.lists) homes) where
    entry : (e : ℕ × ℕ) → IsIn e (homes_of p.lists) → IsInSlot f.slots.items e.1 e.0
    entry e i =
        let r = in_map_of (λ (n : ℕ × Ratio). (n.0, least_node p.lists)) e p.lists.nodes i in (
          p,
          ap (slot_at f.slots.items) (ap (λ (z : ℕ × ℕ). z.1) r.2 ∙ (kept.pieces place p there).1) ∙ there,
          subst (λ u. IsIn u (nodes_in p.lists)) (sym (ap (λ (z : ℕ × ℕ). z.0) r.2)) (in_map (λ (n : ℕ × Ratio). n.0) r.0 p.lists.nodes r.1),
        )

    own : (v : ℕ) → IsIn v (nodes_in p.lists) → (e : ℕ × ℕ) × IsIn e (homes_of p.lists) × (e.0 ≡ v)
    own v i =
        let n = in_map_of (λ (x : ℕ × Ratio). x.0) v p.lists.nodes i in
        ((n.0.0, least_node p.lists), in_map (λ (x : ℕ × Ratio). (x.0, least_node p.lists)) n.0 p.lists.nodes n.1, sym n.2)

    pub piece_more : AreHomesTo f.slots.items (place + 1) now
    piece_more = record {
      long = ap length wrote ∙ length_written (homes_of p.lists) homes ∙ h.long;
      done = λ v u q l e i.
          subst (λ (t : List ℕ). IsInSlot f.slots.items (home_at t v) v) (sym wrote)
          (written_has (λ w home. IsInSlot f.slots.items home w) 0 (homes_of p.lists) homes entry v (node_below u q v e i) (elim (ℕ_discrete u place) [
            | yes d ↦ inl (own v (subst (λ (x : Store). IsIn v (nodes_in x.lists)) (some_one q p (sym e ∙ ap (slot_at f.slots.items) d ∙ there)) i))
            | no n ↦ inr (h.done v u q (omega (arith, l, n)) e i)
          ]));
    }

  pub all_home : length f.slots.items ≤ place → AreHomes f.slots.items homes
  all_home end = record {
    home_each = h.long;
    at_home = λ v l.
        let r = kept.whole v (omega (arith, l, kept.slot_each)) in
        h.done v r.0 r.1.0 (let b = slot_below f.slots.items r.0 r.1.0 r.1.1 in omega (arith, b, end)) r.1.1 r.1.2;
  }
