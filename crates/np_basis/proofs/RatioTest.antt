-- Where a bound stands ahead of some arc of a direction, there is a move along it, and one by the entering arc.
use Rattle.std.specs.Prelude.{◌≡◌, ◌≢◌, ◌⊎◌, ℕ, ◌≤◌, List, [], ◌∷◌}
use Rattle.std.proofs.Common.{refl, sym, ap, subst, ◌∙◌, inl, inr, arith}
use Rattle.gain_graphs.specs.Arcs.{IsIn, AreDistinct}
use Rattle.gain_graphs.proofs.Lists.{in_map_of, decide_in}
use Rattle.gain_graphs.proofs.Selected.{Selected, select, least_of}
use Rattle.np_frac.specs.Ratio.{Ratio, zero_ratio, ◌≤ᵣ◌, ◌<ᵣ◌, ◌+ᵣ◌, ◌*ᵣ◌}
use Rattle.np_frac.proofs.Field.{same_or}
use Rattle.np_frac.proofs.RatioLaws.{≤ᵣ_refl, ≤ᵣ_trans, ≤ᵣ_same, ≤ᵣ_antisym, <ᵣ_is_≤ᵣ, below_or, clash}
use Rattle.np_model.specs.declared.arc.Ends.{Ends}
use Rattle.np_model.specs.declared.arc.Upper.{Upper}
use Rattle.np_model.specs.declared.arc.Upper.TheVariants.{Finite, Infinite}
use Rattle.np_model.specs.declared.arc.NetArc.{NetArc}
use Rattle.np_model.specs.declared.log.Mark.{Mark}
use Rattle.np_model.specs.declared.log.Mark.TheVariants as marked
use Rattle.np_model.specs.declared.log.Entry.{Entry}
use Rattle.np_model.specs.Network.Arcs.{IsAtMost, IsFull, IsWithin, bound_of}
use Rattle.np_model.specs.Network.Flows.{Network}
use Rattle.np_model.specs.Basis.Graphs.{graph_of, no_arc, arc_at, ends_at}
use Rattle.np_model.specs.Basis.Moves.{sign, IsTowards, IsDirection, Stops, IsMove}
use Rattle.np_model.specs.Basis.Pieces.{PieceLists, basics_in, nodes_of, basics_of}
use Rattle.np_model.specs.Basis.Sound.{bound_at, values_in, AreSound}
use Rattle.np_model.specs.Basis.States.{Values, StandsAt}
use Rattle.np_basis.specs.Laws.{HasSoundArcs}
use Rattle.np_basis.specs.PivotLaws.{MayEnter, HasBoundAhead, MoveExists, MoveIsUnique}
use Rattle.np_basis.proofs.Directions as directions
use Rattle.np_basis.proofs.Directions.{direction_is_unique}
use Rattle.np_basis.proofs.Reading.{in_flat, in_flat_of, touches_flat}
use Rattle.np_basis.proofs.Room.{Room, room, free, decide_ahead, stops_ahead, one_bound, one_step}
use Rattle.np_basis.proofs.Sound as said
use Rattle.np_basis.proofs.Sound.{lies_touch}

not_zero : (a : NetArc) (d : Ratio) → HasBoundAhead a d → d ≢ zero_ratio
not_zero a d h e = elim h [ inl k ↦ clash k (≤ᵣ_same (sym e)) | inr k ↦ clash k.0 (≤ᵣ_same e) ]

module _ (net : Network) (s : Values) (d : ℕ → Ratio) (numbers : List ℕ) (start : (a : ℕ) → IsIn a numbers → IsWithin (arc_at net.arcs a) (s.flow a)) where
  -- ---- the greatest step

  -- the least room among some arcs
  record Limit (xs : List ℕ) : Type 0 where
    step : Ratio
    forwards : zero_ratio ≤ᵣ step
    fits : (a : ℕ) → IsIn a xs → (z : Ratio) → zero_ratio ≤ᵣ z → z ≤ᵣ step → IsWithin (arc_at net.arcs a) (s.flow a +ᵣ z *ᵣ d a)
    arc : ℕ
    is_one : IsIn arc xs
    bound : Mark
    stops : Stops net s d step arc bound
    most : (z : Ratio) → IsWithin (arc_at net.arcs arc) (s.flow arc +ᵣ z *ᵣ d arc) → z ≤ᵣ step

  -- none of them has a bound ahead
  abbrev AreFree : List ℕ → Type 0
  AreFree xs = (a : ℕ) → IsIn a xs → ¬ HasBoundAhead (arc_at net.arcs a) (d a)

  free_fits : (a : ℕ) → IsIn a numbers → (¬ HasBoundAhead (arc_at net.arcs a) (d a)) → (z : Ratio) → zero_ratio ≤ᵣ z → IsWithin (arc_at net.arcs a) (s.flow a +ᵣ z *ᵣ d a)
  free_fits a i n z l = free (arc_at net.arcs a) (s.flow a) (d a) (start a i) n z l

  limit : (xs : List ℕ) → ((a : ℕ) → IsIn a xs → IsIn a numbers) → AreFree xs ⊎ Limit xs
  limit [] sub = inl (λ a i. absurd i)
  limit (b ∷ xs) sub = go (decide_ahead (arc_at net.arcs b) (d b)) (limit xs (λ a i. sub a (inr i)))
    where
      own : (P : ℕ → Type 0) → P b → ((a : ℕ) → IsIn a xs → P a) → (a : ℕ) → IsIn a (b ∷ xs) → P a
      own P x f a = elim [ inl e ↦ subst P (sym e) x | inr i ↦ f a i ]

      alone : HasBoundAhead (arc_at net.arcs b) (d b) → Room (arc_at net.arcs b) (s.flow b) (d b)
      alone h = room (arc_at net.arcs b) (s.flow b) (d b) (start b (sub b (inl refl))) h

      first : HasBoundAhead (arc_at net.arcs b) (d b) → (r : Room (arc_at net.arcs b) (s.flow b) (d b))
          → ((a : ℕ) → IsIn a xs → (z : Ratio) → zero_ratio ≤ᵣ z → z ≤ᵣ r.step → IsWithin (arc_at net.arcs a) (s.flow a +ᵣ z *ᵣ d a)) → Limit (b ∷ xs)
      first h r f = record {
        step = r.step;
        forwards = r.forwards;
        fits = own (λ a. (z : Ratio) → zero_ratio ≤ᵣ z → z ≤ᵣ r.step → IsWithin (arc_at net.arcs a) (s.flow a +ᵣ z *ᵣ d a)) r.fits f;
        arc = b;
        is_one = inl refl;
        bound = r.bound;
        stops = record { moves = not_zero (arc_at net.arcs b) (d b) h; towards = r.towards; rests = r.rests };
        most = r.most;
      }

      later : (l : Limit xs) → ((z : Ratio) → zero_ratio ≤ᵣ z → z ≤ᵣ l.step → IsWithin (arc_at net.arcs b) (s.flow b +ᵣ z *ᵣ d b)) → Limit (b ∷ xs)
      later l f = record {
        step = l.step;
        forwards = l.forwards;
        fits = own (λ a. (z : Ratio) → zero_ratio ≤ᵣ z → z ≤ᵣ l.step → IsWithin (arc_at net.arcs a) (s.flow a +ᵣ z *ᵣ d a)) f l.fits;
        arc = l.arc;
        is_one = inr l.is_one;
        bound = l.bound;
        stops = l.stops;
        most = l.most;
      }

      lesser : HasBoundAhead (arc_at net.arcs b) (d b) → (r : Room (arc_at net.arcs b) (s.flow b) (d b)) → (l : Limit xs) → (r.step <ᵣ l.step) ⊎ (l.step ≤ᵣ r.step) → Limit (b ∷ xs)
      lesser h r l (inl k) = first h r (λ a i z m n. l.fits a i z m (≤ᵣ_trans n (<ᵣ_is_≤ᵣ k)))
      lesser h r l (inr k) = later l (λ z m n. r.fits z m (≤ᵣ_trans n k))

      go : Dec (HasBoundAhead (arc_at net.arcs b) (d b)) → AreFree xs ⊎ Limit xs → AreFree (b ∷ xs) ⊎ Limit (b ∷ xs)
      go (no n) (inl f) = inl (own (λ a. ¬ HasBoundAhead (arc_at net.arcs a) (d a)) n f)
      go (no n) (inr l) = inr (later l (λ z m _. free_fits b (sub b (inl refl)) n z m))
      go (yes h) (inl f) = inr (first h (alone h) (λ a i z m _. free_fits a (sub a (inr i)) (f a i) z m))
      go (yes h) (inr l) = inr (lesser h (alone h) l (below_or (alone h).step l.step))

  -- ---- the leaving arc

  module _ (t : Ratio) where
    -- the arc is one of these and stops the move
    Stopper : ℕ → Type 0
    Stopper a = IsIn a numbers × ((m : Mark) × Stops net s d t a m)

    decide : (a : ℕ) → Dec (Stopper a)
    unfolding Stopper
    decide a = go (decide_in a numbers) (decide_ahead (arc_at net.arcs a) (d a))
      where
        at_room : (i : IsIn a numbers) → HasBoundAhead (arc_at net.arcs a) (d a) → (r : Room (arc_at net.arcs a) (s.flow a) (d a)) → Dec (r.step ≡ t) → Dec (IsIn a numbers × ((m : Mark) × Stops net s d t a m))
        at_room i h r (yes e) = yes (i, (r.bound, record { moves = not_zero (arc_at net.arcs a) (d a) h; towards = r.towards; rests = subst (λ z. StandsAt (arc_at net.arcs a) r.bound (s.flow a +ᵣ z *ᵣ d a)) e r.rests }))
        at_room i h r (no n) = no (λ x. n (one_step (arc_at net.arcs a) (s.flow a) (d a) r.step t r.bound x.1.0 x.1.1.moves r.towards x.1.1.towards r.rests x.1.1.rests))

        go : Dec (IsIn a numbers) → Dec (HasBoundAhead (arc_at net.arcs a) (d a)) → Dec (IsIn a numbers × ((m : Mark) × Stops net s d t a m))
        go (no n) _ = no (λ x. n x.0)
        go (yes i) (no n) = no (λ x. n (stops_ahead (arc_at net.arcs a) (s.flow a +ᵣ t *ᵣ d a) (d a) x.1.0 x.1.1.moves x.1.1.towards x.1.1.rests))
        go (yes i) (yes h) = at_room i h (room (arc_at net.arcs a) (s.flow a) (d a) (start a i) h) (same_or (room (arc_at net.arcs a) (s.flow a) (d a) (start a i) h).step t)

    record Leaves (enter : ℕ) : Type 0 where
      leave : ℕ
      is_one : IsIn leave numbers
      bound : Mark
      stops : Stops net s d t leave bound
      first : (a : ℕ) (m : Mark) → IsIn a numbers → Stops net s d t a m → (leave ≡ enter) ⊎ ((a ≢ enter) × (leave ≤ a))

    leaves : (enter : ℕ) → AreDistinct numbers → (b : ℕ) (m : Mark) → IsIn b numbers → Stops net s d t b m → Leaves enter
    unfolding Stopper
    leaves enter once b m i k = go (decide enter)
      where
        all : Selected Stopper numbers
        all = select Stopper decide numbers once

        least : (xs : List ℕ) → IsIn b xs → (l : ℕ) × IsIn l xs × ((v : ℕ) → IsIn v xs → l ≤ v)
        least [] j = absurd j
        least (x ∷ xs) j = least_of x xs

        go : Dec (Stopper enter) → Leaves enter
        go (yes x) = record { leave = enter; is_one = x.0; bound = x.1.0; stops = x.1.1; first = λ a n j q. inl refl }
        go (no h) =
            let l = least all.list ((all.holds b).1 (i, (i, (m, k)))) in
            let x = (all.holds l.0).0 l.1 in
            record {
              leave = l.0;
              is_one = x.0;
              bound = x.1.1.0;
              stops = x.1.1.1;
              first = λ a n j q. inr ((λ e. h (subst Stopper e (j, (n, q)))), l.2 a ((all.holds a).1 (j, (j, (n, q)))));
            }

-- ---- sound pieces

full_within : (l : Ratio) (u : Upper) → IsAtMost l u → IsFull (bound_of u) u → (l ≤ᵣ bound_of u) × IsAtMost (bound_of u) u
full_within l (Finite u) h k = (h, ≤ᵣ_refl u)
full_within l Infinite h k = absurd k

bound_within : (a : NetArc) (m : Mark) → IsAtMost a.lower a.upper → m ≢ marked.Basic → StandsAt a m (bound_at a m) → IsWithin a (bound_at a m)
bound_within a marked.Lower h n k = (≤ᵣ_refl a.lower, h)
bound_within a marked.Upper h n k = full_within a.lower a.upper h k
bound_within a marked.Basic h n k = absurd (n refl)

module _ (net : Network) (ps : List PieceLists) (enter : ℕ) (arcs : HasSoundArcs net) (sound : AreSound net ps) (may : MayEnter net ps enter) where
  within : (a : ℕ) → IsIn a (enter ∷ basics_of ps) → IsWithin (arc_at net.arcs a) ((values_in net ps).flow a)
  within a = elim [ inl e ↦ subst (λ b. IsWithin (arc_at net.arcs b) ((values_in net ps).flow b)) (sym e) entering | inr i ↦ basic i ]
    where
      basic : IsIn a (basics_of ps) → IsWithin (arc_at net.arcs a) ((values_in net ps).flow a)
      basic i =
          let r = in_flat_of basics_in ps a i in
          let b = in_map_of (λ (x : ℕ × Ends × Ratio). x.0) a r.0.basics r.2 in
          subst (λ c. IsWithin (arc_at net.arcs c) ((values_in net ps).flow c)) (sym b.2)
          (subst (IsWithin (arc_at net.arcs b.0.0)) (sym (said.flow_said net ps sound r.0 b.0 r.1 b.1)) ((sound.each r.0 r.1).within b.0 b.1))

      entering : IsWithin (arc_at net.arcs enter) ((values_in net ps).flow enter)
      entering =
          let r = touches_flat ps (graph_of (ends_at net.arcs) enter) (lies_touch (nodes_of ps) (graph_of (ends_at net.arcs) enter) may.ends) in
          let c = sound.each r.0 r.1 in
          let m = in_map_of (λ (x : ℕ × Mark). x.0) enter r.0.marks ((c.in_net.marked enter).1 (may.below, (λ j. may.not_basic (in_flat basics_in ps r.0 enter r.1 j)), r.2)) in
          let mark : (values_in net ps).mark enter ≡ m.0.1 = ap (values_in net ps).mark m.2 ∙ said.mark_said net ps sound r.0 m.0 r.1 m.1 in
          subst (IsWithin (arc_at net.arcs enter)) (sym (said.flow_off net ps sound enter may.not_basic ∙ ap (bound_at (arc_at net.arcs enter)) mark))
          (subst (λ b. IsWithin (arc_at net.arcs b) (bound_at (arc_at net.arcs b) m.0.1)) (sym m.2)
          (bound_within (arc_at net.arcs m.0.0) m.0.1 (subst (λ b. IsAtMost (arc_at net.arcs b).lower (arc_at net.arcs b).upper) m.2 (arcs enter no_arc may.below).bounds)
          (c.in_net.shape.at_bounds m.0 m.1) (c.allowed m.0 m.1)))

  once : AreDistinct (enter ∷ basics_of ps)
  once = (directions.of_entering net arcs ps enter (record { each = λ o i. (sound.each o i).in_net; apart = sound.apart }) may).once

pub move_exists : MoveExists
move_exists net ps enter d a arcs sound may h i ahead = elim (limit net (values_in net ps) d (enter ∷ basics_of ps) (within net ps enter arcs sound may) (enter ∷ basics_of ps) (λ b j. j)) [
  | inl f ↦ absurd (f a i ahead)
  | inr l ↦ (
      let x = leaves net (values_in net ps) d (enter ∷ basics_of ps) (within net ps enter arcs sound may) l.step enter (once net ps enter arcs sound may) l.arc l.bound l.is_one l.stops in (
        record { enter = enter; leave = x.leave; leave_at = x.bound },
        refl,
        l.step,
        record {
          direction = h;
          within = λ b j. l.fits b j l.step l.forwards (≤ᵣ_refl l.step);
          greatest = λ z f. l.most z (f l.arc l.is_one);
          leaves = x.is_one;
          stops = x.stops;
          first = x.first;
        },
      ))
]

-- ---- one move

module _ (net : Network) (s : Values) (nodes numbers basic : List ℕ) (x : Entry) (d : ℕ → Ratio) (t : Ratio) (y : Entry) (e : ℕ → Ratio) (u : Ratio)
    (h : IsMove net s nodes numbers basic x d t) (k : IsMove net s nodes numbers basic y e u) (enter : x.enter ≡ y.enter) (same : (a : ℕ) → IsIn a numbers → d a ≡ e a) where
  steps : t ≡ u
  steps = ≤ᵣ_antisym
      (k.greatest t (λ a i. subst (λ z. IsWithin (arc_at net.arcs a) (s.flow a +ᵣ t *ᵣ z)) (same a i) (h.within a i)))
      (h.greatest u (λ a i. subst (λ z. IsWithin (arc_at net.arcs a) (s.flow a +ᵣ u *ᵣ z)) (sym (same a i)) (k.within a i)))

  -- what stops one stops the other
  to : (a : ℕ) (m : Mark) → IsIn a numbers → Stops net s d t a m → Stops net s e u a m
  to a m i q = record {
    moves = subst (λ z. z ≢ zero_ratio) (same a i) q.moves;
    towards = subst (λ z. IsTowards z m) (same a i) q.towards;
    rests = subst (λ z. StandsAt (arc_at net.arcs a) m (s.flow a +ᵣ z *ᵣ e a)) steps (subst (λ z. StandsAt (arc_at net.arcs a) m (s.flow a +ᵣ t *ᵣ z)) (same a i) q.rests);
  }

  from : (a : ℕ) (m : Mark) → IsIn a numbers → Stops net s e u a m → Stops net s d t a m
  from a m i q = record {
    moves = subst (λ z. z ≢ zero_ratio) (sym (same a i)) q.moves;
    towards = subst (λ z. IsTowards z m) (sym (same a i)) q.towards;
    rests = subst (λ z. StandsAt (arc_at net.arcs a) m (s.flow a +ᵣ z *ᵣ d a)) (sym steps) (subst (λ z. StandsAt (arc_at net.arcs a) m (s.flow a +ᵣ u *ᵣ z)) (sym (same a i)) q.rests);
  }

  leave_same : x.leave ≡ y.leave
  leave_same = go (h.first y.leave y.leave_at k.leaves (from y.leave y.leave_at k.leaves k.stops)) (k.first x.leave x.leave_at h.leaves (to x.leave x.leave_at h.leaves h.stops))
    where
      go : (x.leave ≡ x.enter) ⊎ ((y.leave ≢ x.enter) × (x.leave ≤ y.leave)) → (y.leave ≡ y.enter) ⊎ ((x.leave ≢ y.enter) × (y.leave ≤ x.leave)) → x.leave ≡ y.leave
      go (inl p) (inl q) = p ∙ enter ∙ sym q
      go (inl p) (inr q) = absurd (q.0 (p ∙ enter))
      go (inr p) (inl q) = absurd (p.0 (q ∙ sym enter))
      go (inr p) (inr q) = omega (arith, p.1, q.1)

  bound_same : x.leave_at ≡ y.leave_at
  bound_same = one_bound (d x.leave) x.leave_at y.leave_at h.stops.moves h.stops.towards
      (subst (λ a. IsTowards (d a) y.leave_at) (sym leave_same) (from y.leave y.leave_at k.leaves k.stops).towards)

  entries : x ≡ y
  entries = ap (λ a. let z : Entry = record { enter = a; leave = x.leave; leave_at = x.leave_at } in z) enter
      ∙ ap (λ a. let z : Entry = record { enter = y.enter; leave = a; leave_at = x.leave_at } in z) leave_same
      ∙ ap (λ m. let z : Entry = record { enter = y.enter; leave = y.leave; leave_at = m } in z) bound_same

pub move_is_unique : MoveIsUnique
move_is_unique net ps x y d e t u arcs all may enter h k = (
  entries net (values_in net ps) (nodes_of ps) (x.enter ∷ basics_of ps) (basics_of ps) x d t y e u h other enter same,
  steps net (values_in net ps) (nodes_of ps) (x.enter ∷ basics_of ps) (basics_of ps) x d t y e u h other enter same,
)
  where
    other : IsMove net (values_in net ps) (nodes_of ps) (x.enter ∷ basics_of ps) (basics_of ps) y e u
    other = subst (λ a. IsMove net (values_in net ps) (nodes_of ps) (a ∷ basics_of ps) (basics_of ps) y e u) (sym enter) k

    same : (a : ℕ) → IsIn a (x.enter ∷ basics_of ps) → d a ≡ e a
    same = direction_is_unique net ps x.enter (sign ((values_in net ps).mark x.enter)) d e arcs all may h.direction
        (subst (λ a. IsDirection net (nodes_of ps) (x.enter ∷ basics_of ps) (basics_of ps) a (sign ((values_in net ps).mark a)) e) (sym enter) other.direction)
