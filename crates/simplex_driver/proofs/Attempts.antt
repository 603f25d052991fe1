-- The pieces that an arc needs, by the homes of its ends.
use Rattle.std.specs.Prelude.{Bool, true, false, ◌==◌, ◌≡◌, ◌≢◌, ◌↔◌, ℕ, ◌<◌, List, [], ◌∷◌, length, map, Some, slice_index_or, slice_set}
use Rattle.std.specs.List.{All, flat_map}
use Rattle.std.proofs.Common.{refl, sym, ap, subst, ◌∙◌, inl, inr, arith, zero, suc}
use Rattle.gain_graphs.specs.Arcs.{IsIn}
use Rattle.gain_graphs.proofs.Lists.{in_map, in_map_of, in_front, distinct_append}
use Rattle.np_frac.specs.Ratio.{Ratio}
use Rattle.np_model.specs.declared.arc.Ends.{Ends}
use Rattle.np_model.specs.declared.arc.Ends.TheVariants.{Link, Drain, Feed}
use Rattle.np_model.specs.declared.log.Entry.{Entry}
use Rattle.np_model.specs.declared.log.Mark.{Mark}
use Rattle.np_model.specs.declared.log.Mark.TheVariants as marked
use Rattle.np_model.specs.declared.piece.Hands.{Hands}
use Rattle.np_model.specs.declared.piece.Hands.TheVariants.{One, Two}
use Rattle.np_model.specs.declared.network.FullNet.{FullNet}
use Rattle.np_model.specs.declared.phase.Phase.{Phase}
use Rattle.np_model.specs.Network.Arcs.{AreNodes}
use Rattle.np_model.specs.Network.Flows.{Network}
use Rattle.gain_graphs.specs.Forests as forests
use Rattle.np_model.specs.Basis.Graphs.{ratios, graph_ends, arc_at, ends_at}
use Rattle.np_model.specs.Basis.Needed.{lists_held, AreNeededFor}
use Rattle.np_model.specs.Basis.Phases.{phase_net, real_arcs, all_arcs}
use Rattle.np_model.specs.Basis.Pieces.{PieceLists, nodes_in, nodes_of, least_node}
use Rattle.np_model.specs.Basis.Sound.{AreSound, bound_at, HoldEnds, IsAfter}
use Rattle.np_model.specs.Basis.States.{State, Values, values_of, IsPieceOf, IsState}
use Rattle.np_model.specs.Basis.Pivots.{IsPivot}
use Rattle.np_basis.specs.PivotLaws.{HasRealArcs, ArePiecesOf, ArePiecesAfter}
use Rattle.np_basis.proofs.Cutting.{piece_is_unique}
use Rattle.np_basis.proofs.Basics.{basics_hold}
use Rattle.np_basis.proofs.Directions as directions
use Rattle.np_basis.proofs.FromPieces.{after_is_exactly}
use Rattle.np_basis.proofs.Fulls.{length_full, full_net_is_sound}
use Rattle.np_basis.proofs.Held.{arc_below}
use Rattle.np_basis.proofs.Reading.{in_flat_of, pieces_are_sound}
use Rattle.np_basis.proofs.Roots.{only_one}
use Rattle.np_basis.proofs.Sound.{alone_apart}
use Rattle.quasi_tree.specs.Store.{Store}
use Rattle.piece_lists.specs.Parts.{lists_in}
use Rattle.simplex_driver.specs.declared.forest.Forest.{Forest}
use Rattle.simplex_driver.specs.Homes.{home_at, homes_needed, AreHomes, HasHome, HaveHomes}
use Rattle.simplex_driver.specs.Store.{state_of, slot_at, IsInSlot, LiesWithin, Holds, IsKept, written, filled, emptied, lists_all, stores_in, potentials_of, flows_written}
use Rattle.simplex_driver.specs.Picks.{CanPivot}
use Rattle.simplex_driver.proofs.Stepped as steps
use Rattle.simplex_driver.proofs.Stepped.{some_one, slot_below, has_least}
use Rattle.simplex_driver.proofs.TableLaws as tables

pub one_piece : (net : Network) (s : Values) (p : PieceLists) → IsPieceOf net s p → ArePiecesOf net s (p ∷ [])
one_piece net s p h = record {
  each = λ o. elim [ inl e ↦ subst (IsPieceOf net s) (sym e) h | inr i ↦ absurd i ];
  apart = alone_apart (nodes_in p) h.part.is_piece.nodes_once;
}

two_pieces : (net : Network) (s : Values) (p q : PieceLists) → IsPieceOf net s p → IsPieceOf net s q → ((u : ℕ) → IsIn u (nodes_in p) → ¬ IsIn u (nodes_in q)) → ArePiecesOf net s (p ∷ q ∷ [])
two_pieces net s p q h k apart = record {
  each = λ o. elim [ inl e ↦ subst (IsPieceOf net s) (sym e) h | inr i ↦ elim i [ inl e ↦ subst (IsPieceOf net s) (sym e) k | inr j ↦ absurd j ] ];
  apart = distinct_append (nodes_in p) (nodes_of (q ∷ [])) h.part.is_piece.nodes_once (alone_apart (nodes_in q) k.part.is_piece.nodes_once) (λ u i j. apart u i (only_one q u j));
}

pub same_state : (p q : State) → p.marks ≡ q.marks → p.flows ≡ q.flows → p.potentials ≡ q.potentials → p ≡ q
same_state p q e f g =
    ap (λ n. let z : State = record { marks = n; flows = p.flows; potentials = p.potentials } in z) e
    ∙ ap (λ n. let z : State = record { marks = q.marks; flows = n; potentials = p.potentials } in z) f
    ∙ ap (λ n. let z : State = record { marks = q.marks; flows = q.flows; potentials = n } in z) g

all_lists : (change : Hands Store) → lists_all (stores_in change) ≡ lists_in change
all_lists (One p) = refl
all_lists (Two p q) = refl

pub place_in : {A : Type 0} (xs : List A) (d : A) (k : ℕ) → k < length xs → IsIn (slice_index_or xs k d) xs
place_in [] d k l = absurd (omega (arith, l))
place_in (y ∷ ys) d zero l = inl refl
place_in (y ∷ ys) d (suc k) l = inr (place_in ys d k (omega (arith, l)))

pub some_node : (p : PieceLists) (v : ℕ) → IsIn v (nodes_in p) → 0 < length p.nodes
some_node p v i = go p.nodes i
  where
    go : (ns : List (ℕ × Ratio)) → IsIn v (map (λ n. n.0) ns) → 0 < length ns
    go [] j = absurd j
    go (n ∷ ns) j = omega arith

-- a full network in a phase has an arc for each number below its arcs and nodes, and the first ones are real
pub long : (phase : Phase) (full : FullNet) → length (phase_net phase full).arcs ≡ all_arcs full
long phase full = length_full phase full.net.arcs full.artificial

pub ground : (phase : Phase) (full : FullNet) → HasRealArcs (phase_net phase full) (real_arcs full)
ground phase full = record { sound = full_net_is_sound phase full; few = omega (arith, long phase full) }

-- what holds of each of the lists of the pieces in hand
pub all_within : (g : Forest) (hands : Hands Store) → ((p : PieceLists) → IsIn p (lists_held (λ (s : Store). s.lists) hands) → LiesWithin g p) → All (LiesWithin g) (lists_held (λ (s : Store). s.lists) hands)
all_within g hands h k d l = h (slice_index_or (lists_held (λ (s : Store). s.lists) hands) k d) (place_in (lists_held (λ (s : Store). s.lists) hands) d k l)

held_lists : (hands : Hands Store) → lists_held (λ (s : Store). s.lists) hands ≡ lists_in hands
held_lists (One p) = refl
held_lists (Two p q) = refl

pub in_lists : (p : PieceLists) (hands change : Hands Store) → hands ≡ change → IsIn p (lists_held (λ (s : Store). s.lists) hands) → IsIn p (lists_in change)
in_lists p hands change e i = subst (IsIn p) (held_lists hands ∙ ap lists_in e) i

-- ---- the writes of a pivot, one behind the other

pub slots_made : (net : Network) (homes : List ℕ) (f a b g : Forest) (entry : Entry) (e : Ends) (hands change : Hands Store) → e ≡ ends_at net.arcs entry.enter → hands ≡ change
    → a.slots.items ≡ written (emptied (homes_needed homes e)) f.slots.items → b.slots.items ≡ written (filled (stores_in hands)) a.slots.items → g.slots.items ≡ b.slots.items
    → g.slots.items ≡ written (filled (stores_in change)) (written (emptied (homes_needed homes (ends_at net.arcs entry.enter))) f.slots.items)
slots_made net homes f a b g entry e hands change is same one two three =
    three ∙ two ∙ ap (written (filled (stores_in hands))) one ∙ ap (λ h. written (filled (stores_in h)) (written (emptied (homes_needed homes e)) f.slots.items)) same
    ∙ ap (λ t. written (filled (stores_in change)) (written (emptied (homes_needed homes t)) f.slots.items)) is

pub table_made : {A : Type 0} (of : PieceLists → List (ℕ × A)) (hands change : Hands Store) → hands ≡ change → (f a b : List A) → a ≡ f
    → b ≡ written (flat_map of (lists_held (λ (s : Store). s.lists) hands)) a → b ≡ written (flat_map of (lists_in change)) f
table_made of hands change same f a b one two =
    two ∙ ap (written (flat_map of (lists_held (λ (s : Store). s.lists) hands))) one ∙ ap (λ ls. written (flat_map of ls) f) (held_lists hands ∙ ap lists_in same)

pub flows_made : (net : Network) (entry : Entry) (bound : Ratio) (hands change : Hands Store) → hands ≡ change → (f a b g : List Ratio) → a ≡ f
    → b ≡ written (flat_map flows_written (lists_held (λ (s : Store). s.lists) hands)) a → bound ≡ bound_at (arc_at net.arcs entry.leave) entry.leave_at
    → g ≡ slice_set b entry.leave bound
    → g ≡ slice_set (written (flat_map flows_written (lists_in change)) f) entry.leave (bound_at (arc_at net.arcs entry.leave) entry.leave_at)
flows_made net entry bound hands change same f a b g one two is three =
    three ∙ ap (λ t. slice_set b entry.leave t) is
    ∙ ap (λ t. slice_set t entry.leave (bound_at (arc_at net.arcs entry.leave) entry.leave_at)) (table_made flows_written hands change same f a b one two)

pub marks_made : (entry : Entry) (f a b g : List Mark) → a ≡ f → b ≡ a → g ≡ slice_set (slice_set b entry.enter marked.Basic) entry.leave entry.leave_at
    → g ≡ slice_set (slice_set f entry.enter marked.Basic) entry.leave entry.leave_at
marks_made entry f a b g one two three = three ∙ ap (λ t. slice_set (slice_set t entry.enter marked.Basic) entry.leave entry.leave_at) (two ∙ one)

pub same_home : (homes : List ℕ) (u v : ℕ) (same : Bool) → same ≡ (home_at homes u == home_at homes v) → same ≡ true → home_at homes u ≡ home_at homes v
same_home homes u v same e h = grind (arith, e, h)

pub other_home : (homes : List ℕ) (u v : ℕ) (same : Bool) → same ≡ (home_at homes u == home_at homes v) → same ≡ false → home_at homes u ≢ home_at homes v
other_home homes u v same e h = grind (arith, e, h)

module _ (net : Network) (real : ℕ) (grounded : HasRealArcs net real) (f : Forest) (st : IsState net (state_of f)) (kept : IsKept net f) (homes : List ℕ) (are : AreHomes f.slots.items homes) where
  at_home : (v : ℕ) → v < length net.supply → IsInSlot f.slots.items (home_at homes v) v
  at_home v l = are.at_home v (omega (arith, l, kept.slot_each))

  pub has_home : (v : ℕ) → v < length net.supply → HasHome f.slots.items homes v
  has_home v l =
      let r = at_home v l in
      record { node = omega (arith, l, are.home_each, kept.slot_each); slot = slot_below f.slots.items (home_at homes v) r.0 r.1; piece = r.0; there = r.1 }

  pub have_homes : (e : Ends) → AreNodes (length net.supply) e → HaveHomes f.slots.items homes e
  have_homes (Link i j g) h = (has_home i h.0, has_home j h.1)
  have_homes (Drain v) h = has_home v h
  have_homes (Feed v) h = has_home v h

  -- the ends of an arc are nodes
  pub joins : (a : ℕ) (e : Ends) → a < length net.arcs → e ≡ ends_at net.arcs a → AreNodes (length net.supply) e
  joins a e l is = subst (AreNodes (length net.supply)) (sym is) (grounded.sound a _ l).joins

  abbrev IsHome : ℕ → Store → Type 0
  IsHome v p = Some p ≡ slot_at f.slots.items (home_at homes v)

  -- the piece at the home of a node has the node
  node_in : (v : ℕ) (p : Store) → v < length net.supply → IsHome v p → IsIn v (nodes_in p.lists)
  node_in v p l e = let r = at_home v l in subst (λ (x : Store). IsIn v (nodes_in x.lists)) (sym (some_one p r.0 (e ∙ r.1))) r.2

  is_piece : (v : ℕ) (p : Store) → IsHome v p → IsPieceOf net (values_of (state_of f)) p.lists
  is_piece v p e = (kept.pieces (home_at homes v) p (sym e)).0

  home_is : (v : ℕ) (p : Store) → IsHome v p → least_node p.lists ≡ home_at homes v
  home_is v p e = (kept.pieces (home_at homes v) p (sym e)).1

  -- ---- the pieces of an arc with one end, of a link within a piece, and of a link between two

  pub in_one : (v : ℕ) (p : Store) → v < length net.supply → IsHome v p → IsIn v (nodes_of (p.lists ∷ []))
  in_one v p l e = in_front v (nodes_in p.lists) [] (node_in v p l e)

  pub single : (v : ℕ) (p : Store) → IsHome v p → ArePiecesOf net (values_of (state_of f)) (p.lists ∷ [])
  single v p e = one_piece net (values_of (state_of f)) p.lists (is_piece v p e)

  pub double : (u v : ℕ) (p q : Store) → home_at homes u ≢ home_at homes v → IsHome u p → IsHome v q → ArePiecesOf net (values_of (state_of f)) (p.lists ∷ q.lists ∷ [])
  double u v p q n e k = two_pieces net (values_of (state_of f)) p.lists q.lists (is_piece u p e) (is_piece v q k) (λ w i j.
      n (sym (home_is u p e) ∙ ap least_node (piece_is_unique net (values_of (state_of f)) p.lists q.lists w (is_piece u p e) (is_piece v q k) i j) ∙ home_is v q k))

  pub sound : (ps : List PieceLists) → ArePiecesOf net (values_of (state_of f)) ps → AreSound net ps
  sound ps h = pieces_are_sound net (state_of f) ps st h.each h.apart

  valid : (a : ℕ) (e : Ends) → a < length net.arcs → e ≡ ends_at net.arcs a → forests.IsValid ratios (length net.supply) (graph_ends e)
  valid a e l is = subst (λ t. forests.IsValid ratios (length net.supply) (graph_ends t)) (sym is) (directions.ends_valid net grounded.sound a l)

  pub needs_drain : (a v : ℕ) (p : Store) (e : Ends) → a < length net.arcs → e ≡ ends_at net.arcs a → e ≡ Drain v → IsHome v p → AreNeededFor (p.lists ∷ []) (ends_at net.arcs a)
  needs_drain a v p e l is k h = subst (AreNeededFor (p.lists ∷ [])) (sym k ∙ is) (in_one v p (valid a (Drain v) l (sym k ∙ is)) h)

  pub needs_feed : (a v : ℕ) (p : Store) (e : Ends) → a < length net.arcs → e ≡ ends_at net.arcs a → e ≡ Feed v → IsHome v p → AreNeededFor (p.lists ∷ []) (ends_at net.arcs a)
  needs_feed a v p e l is k h = subst (AreNeededFor (p.lists ∷ [])) (sym k ∙ is) (in_one v p (valid a (Feed v) l (sym k ∙ is)) h)

  pub needs_same : (a u v : ℕ) (g : Ratio) (p : Store) (e : Ends) → a < length net.arcs → e ≡ ends_at net.arcs a → e ≡ Link u v g → home_at homes u ≡ home_at homes v → IsHome u p
      → AreNeededFor (p.lists ∷ []) (ends_at net.arcs a)
  needs_same a u v g p e l is k same h =
      let n = valid a (Link u v g) l (sym k ∙ is) in
      subst (AreNeededFor (p.lists ∷ [])) (sym k ∙ is) (in_one u p n.0 h, in_one v p n.1 (h ∙ ap (slot_at f.slots.items) same), n.2)

  pub needs_two : (a u v : ℕ) (g : Ratio) (p q : Store) (e : Ends) → a < length net.arcs → e ≡ ends_at net.arcs a → e ≡ Link u v g → IsHome u p → IsHome v q
      → AreNeededFor (p.lists ∷ q.lists ∷ []) (ends_at net.arcs a)
  needs_two a u v g p q e l is k h m =
      let n = valid a (Link u v g) l (sym k ∙ is) in
      subst (AreNeededFor (p.lists ∷ q.lists ∷ [])) (sym k ∙ is) (inl (node_in u p n.0 h, node_in v q n.1 m))

  -- ---- the slots that are emptied are those of these pieces

  least_home : (v : ℕ) (ps : List PieceLists) (p : PieceLists) → v < length net.supply → ArePiecesOf net (values_of (state_of f)) ps → IsIn p ps → IsIn v (nodes_in p)
      → least_node p ≡ home_at homes v
  least_home v ps p l h i j =
      let r = at_home v l in
      ap least_node (piece_is_unique net (values_of (state_of f)) p r.0.lists v (h.each p i) (kept.pieces (home_at homes v) r.0 r.1).0 j r.2)
      ∙ (kept.pieces (home_at homes v) r.0 r.1).1

  -- an end of an arc that the piece has
  abbrev HasEnd : PieceLists → Ends → Type 0
  HasEnd p e = (u : ℕ) × IsIn u (nodes_in p) × (u < length net.supply) × IsIn (home_at homes u) (homes_needed homes e)

  has_end : (ps : List PieceLists) (p : PieceLists) (e : Ends) → AreNodes (length net.supply) e → AreNeededFor ps e → IsIn p ps → HasEnd p e
  has_end [] p e l n i = absurd n
  has_end (q ∷ []) p (Link u v g) l n i = elim i [ inl k ↦ (u, subst (λ t. IsIn u (nodes_in t)) (sym k) (only_one q u n.0), l.0, inl refl) | inr j ↦ absurd j ]
  has_end (q ∷ []) p (Drain v) l n i = elim i [ inl k ↦ (v, subst (λ t. IsIn v (nodes_in t)) (sym k) (only_one q v n), l, inl refl) | inr j ↦ absurd j ]
  has_end (q ∷ []) p (Feed v) l n i = elim i [ inl k ↦ (v, subst (λ t. IsIn v (nodes_in t)) (sym k) (only_one q v n), l, inl refl) | inr j ↦ absurd j ]
  has_end (q ∷ r ∷ []) p (Link u v g) l (inl n) i = elim i [
    | inl k ↦ (u, subst (λ t. IsIn u (nodes_in t)) (sym k) n.0, l.0, inl refl)
    | inr j ↦ elim j [ inl k ↦ (v, subst (λ t. IsIn v (nodes_in t)) (sym k) n.1, l.1, inr (inl refl)) | inr m ↦ absurd m ]
  ]
  has_end (q ∷ r ∷ []) p (Link u v g) l (inr n) i = elim i [
    | inl k ↦ (v, subst (λ t. IsIn v (nodes_in t)) (sym k) n.1, l.1, inr (inl refl))
    | inr j ↦ elim j [ inl k ↦ (u, subst (λ t. IsIn u (nodes_in t)) (sym k) n.0, l.0, inl refl) | inr m ↦ absurd m ]
  ]
  has_end (q ∷ r ∷ []) p (Drain v) l n i = absurd n
  has_end (q ∷ r ∷ []) p (Feed v) l n i = absurd n
  has_end (q ∷ r ∷ o ∷ ps) p e l n i = absurd n

  -- a home of an end is the least node of the piece that has it
  home_of_end : (ps : List PieceLists) (u : ℕ) → u < length net.supply → ArePiecesOf net (values_of (state_of f)) ps → IsIn u (nodes_of ps)
      → IsIn (home_at homes u) (map least_node ps)
  home_of_end ps u l h i =
      let r = in_flat_of nodes_in ps u i in
      subst (λ t. IsIn t (map least_node ps)) (least_home u ps r.0 l h r.1 r.2) (in_map least_node r.0 ps r.1)

  home_needed : (ps : List PieceLists) (e : Ends) (w : ℕ) → AreNodes (length net.supply) e → ArePiecesOf net (values_of (state_of f)) ps → HoldEnds ps e
      → IsIn w (homes_needed homes e) → IsIn w (map least_node ps)
  home_needed ps (Link u v g) w l h n i = elim i [
    | inl k ↦ subst (λ t. IsIn t (map least_node ps)) (sym k) (home_of_end ps u l.0 h n.0)
    | inr j ↦ elim j [ inl k ↦ subst (λ t. IsIn t (map least_node ps)) (sym k) (home_of_end ps v l.1 h n.1) | inr m ↦ absurd m ]
  ]
  home_needed ps (Drain v) w l h n i = elim i [ inl k ↦ subst (λ t. IsIn t (map least_node ps)) (sym k) (home_of_end ps v l h n) | inr j ↦ absurd j ]
  home_needed ps (Feed v) w l h n i = elim i [ inl k ↦ subst (λ t. IsIn t (map least_node ps)) (sym k) (home_of_end ps v l h n) | inr j ↦ absurd j ]

  pub covers : (ps : List PieceLists) (e : Ends) → AreNodes (length net.supply) e → ArePiecesOf net (values_of (state_of f)) ps → AreNeededFor ps e → HoldEnds ps e
      → (w : ℕ) → IsIn w (homes_needed homes e) ↔ IsIn w (map least_node ps)
  covers ps e l h n holds w = (
    home_needed ps e w l h holds,
    (λ i.
        let r = in_map_of least_node w ps i in
        let u = has_end ps r.0 e l n r.1 in
        subst (λ t. IsIn t (homes_needed homes e)) (sym (r.2 ∙ least_home u.0 ps r.0 u.2 h r.1 u.1)) u.3),
  )

  -- ---- the pivot that can be made

  module _ (entry : Entry) (change : Hands Store) (can : CanPivot net real (values_of (state_of f)) entry (lists_in change)) where
    is_after : IsAfter net real can.pieces entry (lists_in change)
    is_after = can.pivoted.is_after

    pub pivoted : (after : State) × IsPivot net real (state_of f) entry after × ArePiecesAfter net can.pieces after (lists_in change)
    pivoted = (after_is_exactly net real (state_of f) entry can.pieces (lists_in change) grounded st can.pieces_of is_after.few is_after.in_order is_after.ends).0 is_after

    pub enter_below : entry.enter < length net.arcs
    enter_below = omega (arith, is_after.eligible.is_open.0, grounded.few)

    pub leave_below : entry.leave < length net.arcs
    leave_below = let x = pivoted in arc_below net entry.leave x.1.move.leaves

    node_below : (p : PieceLists) → IsPieceOf net (values_of pivoted.0) p → (x : ℕ × Ratio) → IsIn x p.nodes → x.0 < length net.supply
    node_below p q x i = ((q.part.is_piece.joined x.0).0 (in_map (λ (n : ℕ × Ratio). n.0) x p.nodes i)).0

    basic_below : (p : PieceLists) → IsPieceOf net (values_of pivoted.0) p → (x : ℕ × Ends × Ratio) → IsIn x p.basics → x.0 < length net.arcs
    basic_below p q x i = ((basics_hold net.arcs (values_of pivoted.0).mark x.0).0 ((q.part.is_piece.touched x.0).0 (in_map (λ (b : ℕ × Ends × Ratio). b.0) x p.basics i)).0).0

    -- new pieces lie within the tables
    pub lies_within : (g : Forest) → length g.slots.items ≡ length f.slots.items → length g.potentials.items ≡ length f.potentials.items
        → length g.flows.items ≡ length f.flows.items → (p : PieceLists) → IsIn p (lists_in change) → LiesWithin g p
    lies_within g a c d p i =
        let x = pivoted in
        let q : IsPieceOf net (values_of x.0) p = x.2.pieces_of.each p i in
        record {
          some = some_node p q.part.least q.part.is_piece.has_least;
          slot = let r = (q.part.is_piece.joined (least_node p)).0 (has_least p q.part.least q.part.is_piece.has_least) in omega (arith, r.0, a, kept.slot_each);
          potentials = λ k e l. let r = node_below p q (slice_index_or p.nodes k e) (place_in p.nodes e k l) in omega (arith, r, c, st.one_potential_each);
          flows = λ k e l. let r = basic_below p q (slice_index_or p.basics k e) (place_in p.basics e k l) in omega (arith, r, d, st.feasible.one_each);
        }

    pub made : (g : Forest) → g.slots.items ≡ written (filled (stores_in change)) (written (emptied (homes_needed homes (ends_at net.arcs entry.enter))) f.slots.items)
        → g.potentials.items ≡ written (flat_map potentials_of (lists_in change)) f.potentials.items
        → g.flows.items ≡ slice_set (written (flat_map flows_written (lists_in change)) f.flows.items) entry.leave (bound_at (arc_at net.arcs entry.leave) entry.leave_at)
        → g.marks.items ≡ slice_set (slice_set f.marks.items entry.enter marked.Basic) entry.leave entry.leave_at
        → IsPivot net real (state_of f) entry (state_of g) × IsKept net g
    made g a c d m =
        let x = pivoted in
        let holds_ends = is_after.ends in
        let is : state_of g ≡ x.0 = same_state (state_of g) x.0
        (m ∙ tables.marks_after net real grounded (state_of f) st can.pieces can.pieces_of entry x.0 x.1 (lists_in change) x.2 holds_ends)
        (d ∙ tables.flows_after net real grounded (state_of f) st can.pieces can.pieces_of entry x.0 x.1 (lists_in change) x.2 holds_ends)
        (c ∙ tables.potentials_after net real grounded (state_of f) st can.pieces can.pieces_of entry x.0 x.1 (lists_in change) x.2 holds_ends) in
        let cover = covers can.pieces (ends_at net.arcs entry.enter) (joins entry.enter (ends_at net.arcs entry.enter) enter_below refl) can.pieces_of can.needed holds_ends in
        let after = subst (ArePiecesAfter net can.pieces x.0) (sym (all_lists change)) x.2 in
        let holds = steps.holds_after net real grounded (state_of f) st f.slots.items kept can.pieces can.pieces_of (homes_needed homes (ends_at net.arcs entry.enter)) cover entry x.0 x.1 (stores_in change) after holds_ends in (
          subst (IsPivot net real (state_of f) entry) (sym is) x.1,
          subst (Holds net (values_of (state_of g))) (sym a)
              (subst (λ w. Holds net (values_of w) (written (filled (stores_in change)) (written (emptied (homes_needed homes (ends_at net.arcs entry.enter))) f.slots.items))) (sym is) holds),
        )
