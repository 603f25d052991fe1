-- The pieces that are taken out of the slots are all pieces of the state.
use Rattle.std.specs.Prelude.{◌≡◌, ℕ, ◌+◌, ◌<◌, ◌≤◌, List, [], ◌∷◌, ◌++◌, length, take, slice_set, Option, Some, None, option_to_list}
use Rattle.std.proofs.Common.{refl, sym, ap, subst, ◌∙◌, inl, inr, arith, zero, suc}
use Rattle.std.proofs.lemmas.Grind.{flat_map-append}
use Rattle.std.proofs.lemmas.List.{append-nil, take_more, get_or-set_same, get_or-set_other}
use Rattle.std.proofs.Math.ListN.{length-set}
use native.Mathlib.Decide.{ℕ_discrete}
use Rattle.gain_graphs.specs.Arcs.{IsIn, AreDistinct}
use Rattle.gain_graphs.proofs.Lists.{in_map, in_map_of, distinct_append}
use Rattle.np_model.specs.Network.Flows.{Network}
use Rattle.np_model.specs.Basis.Pieces.{nodes_in, nodes_of, least_node}
use Rattle.np_model.specs.Basis.States.{values_of, IsPieceOf, IsState}
use Rattle.np_basis.specs.PivotLaws.{ArePiecesOf}
use Rattle.np_basis.proofs.Cutting.{piece_is_unique}
use Rattle.np_basis.proofs.Reading.{in_flat, in_flat_of}
use Rattle.pivot_workers.specs.Forests.{AreForest}
use Rattle.quasi_tree.specs.Store.{Store}
use Rattle.simplex_driver.specs.declared.forest.Forest.{Forest}
use Rattle.simplex_driver.specs.Rounds.{pieces_in}
use Rattle.simplex_driver.specs.Store.{lists_all, slot_at, state_of, IsKept}
use Rattle.simplex_driver.proofs.Stepped.{no_piece, none_some}

-- ---- pieces and slots

pub in_slots : (slots : List (Option Store)) (p : Store) → IsIn p (pieces_in slots) → (v : ℕ) × (slot_at slots v ≡ Some p)
in_slots [] p i = absurd i
in_slots (None ∷ slots) p i = let r = in_slots slots p i in (suc r.0, r.1)
in_slots (Some q ∷ slots) p (inl e) = (zero, ap (λ (x : Store). Some x) (sym e))
in_slots (Some q ∷ slots) p (inr i) = let r = in_slots slots p i in (suc r.0, r.1)

pub slot_in : (slots : List (Option Store)) (v : ℕ) (p : Store) → slot_at slots v ≡ Some p → IsIn p (pieces_in slots)
slot_in [] v p e = absurd (none_some p e)
slot_in (o ∷ slots) zero p e = subst (λ x. IsIn p (pieces_in (x ∷ slots))) (sym e) (inl refl)
slot_in (None ∷ slots) (suc v) p e = slot_in slots v p e
slot_in (Some q ∷ slots) (suc v) p e = inr (slot_in slots v p e)

-- pieces of which no two share a node, and none has a node twice
apart_slots : (slots : List (Option Store)) → ((v : ℕ) (p : Store) → slot_at slots v ≡ Some p → AreDistinct (nodes_in p.lists))
    → ((u v : ℕ) (p q : Store) (w : ℕ) → slot_at slots u ≡ Some p → slot_at slots v ≡ Some q → IsIn w (nodes_in p.lists) → IsIn w (nodes_in q.lists) → u ≡ v)
    → AreDistinct (nodes_of (lists_all (pieces_in slots)))
apart_slots [] own apart = record {}
apart_slots (None ∷ slots) own apart =
    apart_slots slots (λ v p e. own (suc v) p e) (λ u v p q w e f i j. let s = apart (suc u) (suc v) p q w e f i j in omega (arith, s))
apart_slots (Some r ∷ slots) own apart =
    distinct_append (nodes_in r.lists) (nodes_of (lists_all (pieces_in slots))) (own zero r refl)
    (apart_slots slots (λ v p e. own (suc v) p e) (λ u v p q w e f i j. let s = apart (suc u) (suc v) p q w e f i j in omega (arith, s)))
    (λ w i j.
    let k = in_flat_of nodes_in (lists_all (pieces_in slots)) w j in
    let m = in_map_of (λ (x : Store). x.lists) k.0 (pieces_in slots) k.1 in
    let n = in_slots slots m.0 m.1 in
    let s = apart zero (suc n.0) r m.0 w refl n.1 i (subst (λ t. IsIn w (nodes_in t)) m.2 k.2) in omega (arith, s))

module _ (net : Network) (f : Forest) (kept : IsKept net f) where
  pub pieces_of_slots : ArePiecesOf net (values_of (state_of f)) (lists_all (pieces_in f.slots.items))
  pieces_of_slots = record {
    each = λ p i.
        let m = in_map_of (λ (x : Store). x.lists) p (pieces_in f.slots.items) i in
        let n = in_slots f.slots.items m.0 m.1 in
        subst (λ t. IsPieceOf net (values_of (state_of f)) t) (sym m.2) (kept.pieces n.0 m.0 n.1).0;
    apart = apart_slots f.slots.items (λ v p e. (kept.pieces v p e).0.part.is_piece.nodes_once)
        (λ u v p q w e k i j. sym (kept.pieces u p e).1 ∙ ap least_node (piece_is_unique net (values_of (state_of f)) p.lists q.lists w (kept.pieces u p e).0 (kept.pieces v q k).0 i j) ∙ (kept.pieces v q k).1);
  }

  pub whole_in_slots : (v : ℕ) → v < length net.supply → IsIn v (nodes_of (lists_all (pieces_in f.slots.items)))
  whole_in_slots v l =
      let r = kept.whole v l in
      in_flat nodes_in (lists_all (pieces_in f.slots.items)) r.1.0.lists v
      (in_map (λ (x : Store). x.lists) r.1.0 (pieces_in f.slots.items) (slot_in f.slots.items r.0 r.1.0 r.1.1)) r.1.2

  pub forest_of_slots : IsState net (state_of f) → AreForest net (lists_all (pieces_in f.slots.items))
  forest_of_slots st = record { state = state_of f; is_state = st; pieces_of = pieces_of_slots; whole = whole_in_slots }

-- ---- the loop that takes them out

-- the slots before a place are empty, and the others are as before
pub record IsEmptiedTo (before : List (Option Store)) (place : ℕ) (slots : List (Option Store)) (pieces : List Store) : Type 0 where
  pub long : length slots ≡ length before
  pub taken : pieces ≡ pieces_in (take place before)
  pub done : (v : ℕ) → v < place → slot_at slots v ≡ None
  pub rest : (v : ℕ) → place ≤ v → slot_at slots v ≡ slot_at before v

pub one_more_taken : (before : List (Option Store)) (place : ℕ) (slots : List (Option Store)) (pieces : List Store) → IsEmptiedTo before place slots pieces → place < length before
    → (o : Option Store) → slot_at slots place ≡ o → (left : List (Option Store)) → left ≡ slice_set slots place no_piece → (now : List Store) → now ≡ pieces ++ option_to_list o
    → IsEmptiedTo before (place + 1) left now
one_more_taken before place slots pieces h l o there left is now e = record {
  long = ap length is ∙ length-set slots place no_piece ∙ h.long;
  taken = e ∙ ap (λ ps. ps ++ option_to_list o) h.taken
      ∙ ap (λ x. pieces_in (take place before) ++ option_to_list x) (sym there ∙ h.rest place (omega arith))
      ∙ sym (ap (λ xs. pieces_in xs) (take_more before place no_piece l) ∙ flat_map-append option_to_list (take place before) (slot_at before place ∷ []) ∙ ap (λ xs. pieces_in (take place before) ++ xs) (append-nil (option_to_list (slot_at before place))));
  done = λ v k. elim (ℕ_discrete v place) [
    | yes d ↦ ap (λ ss. slot_at ss v) is ∙ ap (λ u. slot_at (slice_set slots place no_piece) u) d ∙ get_or-set_same slots place no_piece no_piece (omega (arith, l, h.long))
    | no n ↦ ap (λ ss. slot_at ss v) is ∙ get_or-set_other slots place v no_piece no_piece n ∙ h.done v (omega (arith, k, n))
  ];
  rest = λ v k. ap (λ ss. slot_at ss v) is ∙ get_or-set_other slots place v no_piece no_piece (λ d. omega (arith, k, d)) ∙ h.rest v (omega (arith, k));
}
