-- After a pivot the slots are those of the state afterwards.
use Rattle.std.specs.Prelude.{◌≡◌, ◌⊎◌, ◌↔◌, ℕ, ◌<◌, List, [], ◌∷◌, length, map, slice_index, Option, Some, None}
use Rattle.std.proofs.Common.{refl, sym, ap, subst, ◌∙◌, inl, inr, arith}
use Rattle.std.proofs.Math.ListN.{get_or-eq_default}
use Rattle.gain_graphs.specs.Arcs.{IsIn}
use Rattle.gain_graphs.proofs.Lists.{in_map, in_map_of, decide_in}
use Rattle.np_model.specs.declared.log.Entry.{Entry}
use Rattle.np_model.specs.Network.Flows.{Network}
use Rattle.np_model.specs.Basis.Graphs.{ends_at}
use Rattle.np_model.specs.Basis.Pieces.{PieceLists, nodes_in, nodes_of, least_node}
use Rattle.np_model.specs.Basis.Pivots.{IsPivot}
use Rattle.np_model.specs.Basis.Sound.{HoldEnds}
use Rattle.np_model.specs.Basis.States.{State, values_of, IsPieceOf, IsState}
use Rattle.np_basis.specs.PivotLaws.{HasRealArcs, ArePiecesOf, ArePiecesAfter}
use Rattle.np_basis.proofs.Cutting.{piece_is_unique}
use Rattle.np_basis.proofs.Pivoting.{others_are_kept}
use Rattle.np_basis.proofs.Reading.{in_flat, in_flat_of}
use Rattle.quasi_tree.specs.Store.{Store}
use Rattle.simplex_driver.specs.Store.{lists_all, written, emptied, filled, slot_at, IsInSlot, Holds}
use Rattle.simplex_driver.proofs.Tables.{Has, length_written, written_has, written_off}

pub some_one : {A : Type 0} (x y : A) → Some x ≡ Some y → x ≡ y
some_one x y e = cc

pub none_some : {A : Type 0} (x : A) → None ≡ Some x → ⊥
none_some x e = cc

pub cases : (x y : ℕ) → (x < y) ⊎ (¬ (x < y))
cases x y = grind arith

abbrev pub no_piece : Option Store
no_piece = None

-- the least node is one of the nodes
pub has_least : (p : PieceLists) → (v : ℕ) → IsIn v (nodes_in p) → IsIn (least_node p) (nodes_in p)
has_least p v i = first (nodes_in p) v i
  where
    first : (vs : List ℕ) (u : ℕ) → IsIn u vs → IsIn (slice_index vs 0) vs
    first [] u j = absurd j
    first (x ∷ xs) u j = inl refl

-- a slot that holds a piece is one of the list
pub slot_below : (xs : List (Option Store)) (h : ℕ) (p : Store) → slot_at xs h ≡ Some p → h < length xs
slot_below xs h p e = elim (cases h (length xs)) [
  | inl l ↦ l
  | inr l ↦ absurd (none_some p (sym (get_or-eq_default xs no_piece (omega (arith, l))) ∙ e))
]

module _ (net : Network) (real : ℕ) (ground : HasRealArcs net real) (s : State) (st : IsState net s) (slots : List (Option Store)) (h : Holds net (values_of s) slots)
    (ps : List PieceLists) (pieces : ArePiecesOf net (values_of s) ps) (hs : List ℕ) (covers : (v : ℕ) → IsIn v hs ↔ IsIn v (map least_node ps))
    (entry : Entry) (t : State) (pivot : IsPivot net real s entry t) (qs : List Store) (after : ArePiecesAfter net ps t (lists_all qs))
    (lies : HoldEnds ps (ends_at net.arcs entry.enter)) where
  -- a piece in a slot that shares a node with the old pieces is one of them
  shared : (v : ℕ) (p : Store) (u : ℕ) → slot_at slots v ≡ Some p → IsIn u (nodes_in p.lists) → IsIn u (nodes_of ps) → IsIn p.lists ps
  shared v p u e i j =
      let r = in_flat_of nodes_in ps u j in
      subst (λ x. IsIn x ps) (sym (piece_is_unique net (values_of s) p.lists r.0 u (h.pieces v p e).0 (pieces.each r.0 r.1) i r.2)) r.1

  -- one that is not is kept
  kept : (v : ℕ) (p : Store) → slot_at slots v ≡ Some p → (¬ IsIn p.lists ps) → IsPieceOf net (values_of t) p.lists
  kept v p e n = others_are_kept net real s entry t ps p.lists ground st pivot pieces lies (h.pieces v p e).0 (λ u i j. n (shared v p u e i j))

  abbrev new_slots : List (Option Store)
  new_slots = written (filled qs) (written (emptied hs) slots)

  long : length (written (filled qs) (written (emptied hs) slots)) ≡ length slots
  long = length_written (filled qs) (written (emptied hs) slots) ∙ length_written (emptied hs) slots

  abbrev IsGood : ℕ → Option Store → Type 0
  IsGood v o = (p : Store) → o ≡ Some p → IsPieceOf net (values_of t) p.lists × (least_node p.lists ≡ v)

  has_emptied : (v : ℕ) → Has (emptied hs) v → IsIn v hs
  has_emptied v k =
      let r = in_map_of (λ (u : ℕ). (u, no_piece)) k.0 hs k.1 in
      subst (λ u. IsIn u hs) (sym (ap (λ (x : ℕ × Option Store). x.0) r.2) ∙ k.2) r.1

  has_filled : (v : ℕ) → Has (filled qs) v → (q : Store) × IsIn q qs × (least_node q.lists ≡ v)
  has_filled v k = let r = in_map_of (λ (p : Store). (least_node p.lists, Some p)) k.0 qs k.1 in (r.0, r.1, sym (ap (λ (x : ℕ × Option Store). x.0) r.2) ∙ k.2)

  good_before : (v : ℕ) → v < length slots → IsGood v (slot_at (written (emptied hs) slots) v)
  good_before v l p e = elim (decide_in v hs) [
    | yes i ↦ absurd (none_some p (sym (written_has (λ u o. IsIn u hs → o ≡ None) None (emptied hs) slots
        (λ f k m. let r = in_map_of (λ (x : ℕ). (x, no_piece)) f hs k in ap (λ (x : ℕ × Option Store). x.1) r.2) v l (inl (empties v i)) i) ∙ e))
    | no n ↦ other n (sym (written_off None (emptied hs) slots v (λ k. n (has_emptied v k))) ∙ e)
  ]
    where
      empties : (u : ℕ) → IsIn u hs → Has (emptied hs) u
      empties u i = ((u, no_piece), in_map (λ (x : ℕ). (x, no_piece)) u hs i, refl)

      other : (¬ IsIn v hs) → slot_at slots v ≡ Some p → IsPieceOf net (values_of t) p.lists × (least_node p.lists ≡ v)
      other n k = (kept v p k (λ i. n ((covers v).1 (subst (λ u. IsIn u (map least_node ps)) (h.pieces v p k).1 (in_map least_node p.lists ps i)))), (h.pieces v p k).1)

  new_piece : (q : Store) → IsIn q qs → IsPieceOf net (values_of t) q.lists
  new_piece q i = after.pieces_of.each q.lists (in_map (λ (x : Store). x.lists) q qs i)

  good : (v : ℕ) → v < length slots → IsGood v (slot_at (written (filled qs) (written (emptied hs) slots)) v)
  good v l = written_has (λ u o. (p : Store) → o ≡ Some p → IsPieceOf net (values_of t) p.lists × (least_node p.lists ≡ u)) None (filled qs) (written (emptied hs) slots)
      (λ f k p e.
      let r = in_map_of (λ (x : Store). (least_node x.lists, Some x)) f qs k in
      let same : r.0 ≡ p = some_one r.0 p (sym (ap (λ (x : ℕ × Option Store). x.1) r.2) ∙ e) in
      (subst (λ (x : Store). IsPieceOf net (values_of t) x.lists) same (new_piece r.0 r.1), sym (ap (λ (x : Store). least_node x.lists) same) ∙ sym (ap (λ (x : ℕ × Option Store). x.0) r.2)))
      v (omega (arith, length_written (emptied hs) slots)) (inr (good_before v l))

  -- a slot beyond the list is empty
  beyond : (v : ℕ) (p : Store) → slot_at (written (filled qs) (written (emptied hs) slots)) v ≡ Some p → v < length slots
  beyond v p e = let l = slot_below (written (filled qs) (written (emptied hs) slots)) v p e in omega (arith, long)

  -- a new piece is in its slot
  q_least : (q : Store) → IsIn q qs → IsIn (least_node q.lists) (nodes_in q.lists)
  q_least q i = let p = new_piece q i in has_least q.lists p.part.least p.part.is_piece.has_least

  q_below : (q : Store) → IsIn q qs → least_node q.lists < length slots
  q_below q i = let p = new_piece q i in omega (arith, ((p.part.is_piece.joined (least_node q.lists)).0 (q_least q i)).0, h.slot_each)

  new_there : (q : Store) → IsIn q qs → (x : Store) × (slot_at (written (filled qs) (written (emptied hs) slots)) (least_node q.lists) ≡ Some x) × (x.lists ≡ q.lists)
  new_there q i = written_has (λ u o. (y : Store) → IsIn y qs → least_node y.lists ≡ u → (x : Store) × (o ≡ Some x) × (x.lists ≡ y.lists)) None (filled qs) (written (emptied hs) slots)
      (λ f k y j e.
      let r = in_map_of (λ (z : Store). (least_node z.lists, Some z)) f qs k in
      let there : least_node y.lists ≡ least_node r.0.lists = e ∙ ap (λ (z : ℕ × Option Store). z.0) r.2 in
      let same : r.0.lists ≡ y.lists = piece_is_unique net (values_of t) r.0.lists y.lists (least_node r.0.lists) (new_piece r.0 r.1) (new_piece y j) (q_least r.0 r.1)
      (subst (λ u. IsIn u (nodes_in y.lists)) there (q_least y j)) in
      (r.0, ap (λ (z : ℕ × Option Store). z.1) r.2, same))
      (least_node q.lists) (omega (arith, length_written (emptied hs) slots, q_below q i)) (inl ((least_node q.lists, Some q), in_map (λ (y : Store). (least_node y.lists, Some y)) q qs i, refl)) q i refl

  -- a node of the new pieces is in the slot of one of them, and each other node in that of the piece before
  new_slot : (v : ℕ) → IsIn v (nodes_of (lists_all qs)) → (u : ℕ) × IsInSlot (written (filled qs) (written (emptied hs) slots)) u v
  new_slot v i =
      let r = in_flat_of nodes_in (lists_all qs) v i in
      let q = in_map_of (λ (x : Store). x.lists) r.0 qs r.1 in
      let x = new_there q.0 q.1 in
      (least_node q.0.lists, (x.0, x.1, subst (λ z. IsIn v (nodes_in z)) (q.2 ∙ sym x.2) r.2))

  old_slot : (v : ℕ) → v < length net.supply → (¬ IsIn v (nodes_of (lists_all qs))) → (u : ℕ) × IsInSlot (written (filled qs) (written (emptied hs) slots)) u v
  old_slot v l n =
      let found = h.whole v l in
      let slot : ℕ = found.0 in
      let o = found.1 in
      let is_least : least_node o.0.lists ≡ slot = (h.pieces slot o.0 o.1).1 in
      let not_old : ¬ IsIn o.0.lists ps = λ i. n ((after.same_nodes v).0 (in_flat nodes_in ps o.0.lists v i o.2)) in (
        slot,
        (
          o.0,
          written_off None (filled qs) (written (emptied hs) slots) slot (λ k.
              let r = has_filled slot k in
              let u : IsIn (least_node r.0.lists) (nodes_of ps) = (after.same_nodes (least_node r.0.lists)).1
              (in_flat nodes_in (lists_all qs) r.0.lists (least_node r.0.lists) (in_map (λ (x : Store). x.lists) r.0 qs r.1) (q_least r.0 r.1)) in
              not_old (shared slot o.0 (least_node r.0.lists) o.1 (subst (λ w. IsIn w (nodes_in o.0.lists)) (is_least ∙ sym r.2) (has_least o.0.lists v o.2)) u))
              ∙ written_off None (emptied hs) slots slot (λ k.
              let r = in_map_of least_node slot ps ((covers slot).0 (has_emptied slot k)) in
              let old = pieces.each r.0 r.1 in
              not_old (shared slot o.0 (least_node o.0.lists) o.1 (has_least o.0.lists v o.2)
              (in_flat nodes_in ps r.0 (least_node o.0.lists) r.1 (subst (λ w. IsIn w (nodes_in r.0)) (sym (is_least ∙ r.2)) (has_least r.0 old.part.least old.part.is_piece.has_least)))))
              ∙ o.1,
          o.2,
        ),
      )

  pub holds_after : Holds net (values_of t) (written (filled qs) (written (emptied hs) slots))
  holds_after = record {
    slot_each = long ∙ h.slot_each;
    pieces = λ v p e. good v (beyond v p e) p e;
    whole = λ v l. elim (decide_in v (nodes_of (lists_all qs))) [ yes i ↦ new_slot v i | no n ↦ old_slot v l n ];
  }
