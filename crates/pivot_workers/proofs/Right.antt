-- Where each end lies at present in the piece of the slot that was seen, no slot is found busy, and no piece taken lacks its end.
use Rattle.std.proofs.Common.{◌≡◌, inl, inr, ⊎_elim, ℕ, ◌≤◌, List, [], ◌∷◌, ◌++◌, sym, ap, subst, refl, arith}
use Rattle.std.specs.Prelude.{Option, Some, None, slice_index}
use Rattle.gain_graphs.specs.Arcs.{IsIn}
use Rattle.np_model.specs.declared.arc.Ends.{Ends}
use Rattle.np_model.specs.declared.arc.Ends.TheVariants.{Link, Drain, Feed}
use Rattle.np_model.specs.Network.Flows.{Network}
use Rattle.np_model.specs.Basis.Pieces.{PieceLists, nodes_in, least_node}
use Rattle.tree_table.specs.Passes.{View}
use Rattle.tree_table.specs.Replay.{HasSeen}
use Rattle.tree_table.specs.Slots.{LiesAt, lying_at}
use Rattle.tree_table.specs.Weights.{weigh, once, AreAmong}
use Rattle.tree_table.proofs.Nodes.{stands_in, least_stands}
use Rattle.tree_table.proofs.Seen.{one_seen}
use Rattle.tree_table.proofs.Sums.{once-same}
use Rattle.pivot_workers.specs.declared.seeing.Seen.{Seen}
use Rattle.pivot_workers.specs.Forests.{AreForest}
use Rattle.pivot_workers.specs.Openings.{AreSeated}
use Rattle.pivot_workers.specs.Stale.{HasAt, LacksAt, AreStale, IsStale, IsFresh}
use Rattle.pivot_workers.specs.Takes.{HasSecond, in_order, slots_of, seen_at, IsSeatedAt, AreRight, IsRight, HasTaken, IsMissed}
use Rattle.pivot_workers.proofs.Forest.{there, one_piece}
use Rattle.pivot_workers.proofs.Places.{of_two}

member_weigh : (f : PieceLists → ℕ) (now : List PieceLists) (p : PieceLists) → IsIn p now → f p ≤ weigh f now
member_weigh f [] p here = absurd here
member_weigh f (q ∷ now) p here =
    ⊎_elim
    (λ (e : p ≡ q). let a : f p ≡ f q = ap f e in omega arith)
    (λ (later : IsIn p now). let a = member_weigh f now p later in omega arith)
    here

none_lies : (now : List PieceLists) (slot v : ℕ) → lying_at slot now ≡ 0 → IsSeatedAt now slot v → ⊥
none_lies now slot v none s =
    let a = member_weigh (λ p. once slot (least_node p)) now s.0 s.1 in
    let b : once slot (least_node s.0) ≡ 1 = subst (λ (k : ℕ). once slot k ≡ 1) (sym s.3) (once-same slot) in
    absurd (omega arith)

there_lacks : (slot v : ℕ) (ps : List PieceLists) → LacksAt slot v ps → (p : PieceLists) × IsIn p ps × LiesAt slot p × (¬ IsIn v (nodes_in p))
there_lacks slot v [] h = absurd h
there_lacks slot v (p ∷ ps) h =
    ⊎_elim
    (λ (x : LiesAt slot p × (¬ IsIn v (nodes_in p))). (p, inl refl, x.0, x.1))
    (λ (x : LacksAt slot v ps). let t = there_lacks slot v ps x in (t.0, inr t.1, t.2, t.3))
    h

-- the least of the nodes is one of them
least_in : (ns : List ℕ) (v : ℕ) → IsIn v ns → IsIn (slice_index ns 0) ns
least_in [] v here = absurd here
least_in (n ∷ ns) v here = inl refl

-- a piece that has the end where it was seen is there
seat_of : (slot v : ℕ) (ps now : List PieceLists) → AreAmong ps now → HasAt slot v ps → ((p : PieceLists) → IsIn p ps → IsIn p now) → IsSeatedAt now slot v
seat_of slot v [] now among h into = absurd h
seat_of slot v (p ∷ ps) now among h into =
    ⊎_elim
    (λ (x : LiesAt slot p × IsIn v (nodes_in p)). (p, into p (inl refl), x.1, x.0.0))
    (λ (x : HasAt slot v ps). seat_of slot v ps now (λ f. let a = among f in omega arith) x (λ q i. into q (inr i)))
    h

pub seated : (slot v : ℕ) (ps now : List PieceLists) → AreAmong ps now → HasAt slot v ps → IsSeatedAt now slot v
seated slot v ps now among h = seat_of slot v ps now among h (λ p i. there ps now p among i)

module _ (net : Network) (now : List PieceLists) (f : AreForest net now) where
  not_lacking : (slot v : ℕ) (ps : List PieceLists) → LacksAt slot v ps → AreAmong ps now → IsSeatedAt now slot v → ⊥
  not_lacking slot v ps h among s =
      let t = there_lacks slot v ps h in
      let mine : IsIn slot (nodes_in t.0) = stands_in slot (nodes_in t.0) (least_stands slot t.0 t.2) in
      let other : IsIn slot (nodes_in s.0) = subst (λ (z : ℕ). IsIn z (nodes_in s.0)) s.3 (least_in (nodes_in s.0) v s.2) in
      let same : t.0 ≡ s.0 = one_piece net now f t.0 s.0 slot (there ps now t.0 among t.1) s.1 mine other in
      t.3 (subst (λ (z : PieceLists). IsIn v (nodes_in z)) (sym same) s.2)

  stale_seat : (end at node slot : ℕ) (ps : List PieceLists) → (node ≡ end) × (slot ≡ at) × LacksAt slot node ps → AreAmong ps now → IsSeatedAt now at end → ⊥
  stale_seat end at node slot ps g among s =
      not_lacking at end ps (subst (λ (z : ℕ × ℕ). LacksAt z.0 z.1 ps) (λ i. (g.1 i, g.0 i)) g.2) among s

  pub right_stale : (ends : Ends) (a : ℕ) (b : Option ℕ) (node slot : ℕ) (ps : List PieceLists) → AreAmong ps now → AreStale ends a b node slot ps → AreRight now ends a b → ⊥
  right_stale (Link from to gain) a None node slot ps among st r = r
  right_stale (Link from to gain) a (Some b) node slot ps among st r =
      ⊎_elim
      (λ (x : (node ≡ from) × (slot ≡ a) × LacksAt slot node ps). stale_seat from a node slot ps x among r.0)
      (λ (x : HasAt a from ps × ((node ≡ to) × (slot ≡ b) × LacksAt slot node ps)). stale_seat to b node slot ps x.1 among r.1)
      st
  right_stale (Drain at) a b node slot ps among st r = stale_seat at a node slot ps st among r
  right_stale (Feed at) a b node slot ps among st r = stale_seat at a node slot ps st among r

only_one : (slot a : ℕ) → IsIn slot (a ∷ []) → slot ≡ a
only_one slot a here = ⊎_elim (λ (e : slot ≡ a). e) (λ (x : ⊥). absurd x) here

pub right_busy : (now : List PieceLists) (ends : Ends) (a : ℕ) (b : Option ℕ) (slot : ℕ) → HasSecond ends b → IsIn slot (in_order a b) → lying_at slot now ≡ 0 → AreRight now ends a b → ⊥
right_busy now (Link from to gain) a None slot fits here none r = r
right_busy now (Link from to gain) a (Some b) slot fits here none r =
    ⊎_elim
    (λ (e : slot ≡ a). none_lies now a from (subst (λ (z : ℕ). lying_at z now ≡ 0) e none) r.0)
    (λ (e : slot ≡ b). none_lies now b to (subst (λ (z : ℕ). lying_at z now ≡ 0) e none) r.1)
    (of_two slot a b here)
right_busy now (Drain at) a None slot fits here none r = none_lies now a at (subst (λ (z : ℕ). lying_at z now ≡ 0) (only_one slot a here) none) r
right_busy now (Drain at) a (Some b) slot fits here none r = fits
right_busy now (Feed at) a None slot fits here none r = none_lies now a at (subst (λ (z : ℕ). lying_at z now ≡ 0) (only_one slot a here) none) r
right_busy now (Feed at) a (Some b) slot fits here none r = fits

in_place : (slot : ℕ) (before after : List ℕ) → IsIn slot (before ++ slot ∷ after)
in_place slot [] after = inl refl
in_place slot (k ∷ before) after = inr (in_place slot before after)

-- ---- of a pass with all shares

pub missed_not_right : (v w : View) (ends : Ends) (seen : Seen) (slot word : ℕ) (now : List PieceLists) → HasSecond ends seen.second → IsMissed v w (slots_of seen) slot word
    → v.shares ≡ 64 → HasSeen v now → IsRight now ends seen → ⊥
missed_not_right v w ends seen slot word now fits m all s r =
    let a = (m.none_there all).1 in
    let same = one_seen v now a.0 all s a.1 (λ p. once slot (least_node p)) in
    right_busy now ends seen.first seen.second slot fits (subst (λ z. IsIn slot z) (sym m.place) (in_place slot m.before m.after)) (let z = a.2 in omega arith) r

pub among_now : (v w : View) (slots : List ℕ) (now : List PieceLists) → HasTaken v w slots → v.shares ≡ 64 → HasSeen v now → AreAmong w.got now
among_now v w slots now t all s f = let a = t.there f in let b = one_seen v now t.now all s t.seen f in omega arith

pub stale_not_right : (net : Network) (v w : View) (ends : Ends) (seen : Seen) (node slot : ℕ) (now : List PieceLists) → AreForest net now → HasTaken v w (slots_of seen)
    → IsStale ends seen node slot w.got → v.shares ≡ 64 → HasSeen v now → IsRight now ends seen → ⊥
stale_not_right net v w ends seen node slot now f t st all s r =
    right_stale net now f ends seen.first seen.second node slot w.got (among_now v w (slots_of seen) now t all s) st r

-- ---- at the slots named for the ends

pub seated_right : (openings : List ℕ) (now : List PieceLists) (ends : Ends) → AreSeated openings now ends → IsRight now ends (seen_at openings ends)
seated_right openings now (Link from to gain) s = s
seated_right openings now (Drain at) s = s
seated_right openings now (Feed at) s = s

pub fresh_seated : (openings : List ℕ) (now : List PieceLists) (ends : Ends) (ps : List PieceLists) → AreAmong ps now → IsFresh ends (seen_at openings ends) ps → AreSeated openings now ends
fresh_seated openings now (Link from to gain) ps among fresh = (seated _ from ps now among fresh.0, seated _ to ps now among fresh.1)
fresh_seated openings now (Drain at) ps among fresh = seated _ at ps now among fresh
fresh_seated openings now (Feed at) ps among fresh = seated _ at ps now among fresh

pub seen_fits : (openings : List ℕ) (ends : Ends) → HasSecond ends (seen_at openings ends).second
seen_fits openings (Link from to gain) = record {}
seen_fits openings (Drain at) = record {}
seen_fits openings (Feed at) = record {}
