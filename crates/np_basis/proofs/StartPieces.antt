-- The piece of a node at the start: its shape, and that it is the one of the start state.
use Rattle.std.specs.Prelude.{◌≡◌, ℕ, ◌+◌, ◌<◌, ◌==◌, ◌||◌, Bool, true, false, if◌then◌else◌, List, [], ◌∷◌, map, length, filter}
use Rattle.std.specs.List.{range_with_len}
use Rattle.std.specs.List.Sorted.{IsStrictlyIncreasing}
use Rattle.std.proofs.Common.{refl, sym, ap, subst, ◌∙◌, inl, inr, arith}
use Rattle.std.proofs.lemmas.Bool.{cases_eq}
use Rattle.std.proofs.lemmas.Bool.Decides.{nat_tests}
use Rattle.std.proofs.lemmas.List.Kept.{IsStrictlyIncreasing-filter}
use Rattle.gain_graphs.specs.Arcs.{IsIn, Touches}
use Rattle.np_model.specs.declared.arc.Ends.{Ends}
use Rattle.np_model.specs.declared.arc.Ends.TheVariants.{Link, Drain, Feed}
use Rattle.np_model.specs.declared.arc.NetArc.{NetArc}
use Rattle.np_model.specs.declared.log.Mark.{Mark}
use Rattle.np_model.specs.declared.log.Mark.TheVariants.{Lower}
use Rattle.np_model.specs.declared.phase.Phase.TheVariants.{One}
use Rattle.np_model.specs.Network.Flows.{Network}
use Rattle.np_model.specs.Basis.Graphs.{graph_ends, ends_at}
use Rattle.np_model.specs.Basis.Pieces.{marked_in, HasShape}
use Rattle.np_model.specs.Basis.States.{values_of, IsReadOff}
use Rattle.np_model.specs.Basis.Starts.{start_state, start_net, start_piece, touches}
use Rattle.np_basis.specs.Laws.{StartPieceHasShape, StartPieceIsPiece}
use Rattle.np_basis.proofs.Ascending.{rises, one_rises}
use Rattle.gain_graphs.proofs.Lists.{range_holds, range_within, filter_holds}
use Rattle.np_basis.proofs.Basics.{range_ascends}
use Rattle.np_basis.proofs.Starting as start

-- the numbers of the marks
marked_numbers : (p : ℕ → Bool) (xs : List ℕ) → map (λ (m : ℕ × Mark). m.0) (filter (λ (m : ℕ × Mark). p m.0) (map (λ a. (a, Lower)) xs)) ≡ filter p xs
marked_numbers p [] = refl
marked_numbers p (x ∷ xs) = by_test (p x) (marked_numbers p xs)
  where
    by_test : (b : Bool) → map (λ (m : ℕ × Mark). m.0) (filter (λ (m : ℕ × Mark). p m.0) (map (λ a. (a, Lower)) xs)) ≡ filter p xs
        → map (λ (m : ℕ × Mark). m.0) (if b then (x, Lower) ∷ filter (λ (m : ℕ × Mark). p m.0) (map (λ a. (a, Lower)) xs) else filter (λ (m : ℕ × Mark). p m.0) (map (λ a. (a, Lower)) xs))
        ≡ (if b then x ∷ filter p xs else filter p xs)
    by_test true rest = ap (λ (t : List ℕ). x ∷ t) rest
    by_test false rest = rest

-- each of them is at its lower bound
all_lower : (p : ℕ → Bool) (xs : List ℕ) (m : ℕ × Mark) → IsIn m (filter (λ (k : ℕ × Mark). p k.0) (map (λ a. (a, Lower)) xs)) → (m.1 ≡ Lower) × IsIn m.0 xs
all_lower p [] m none = absurd none
all_lower p (x ∷ xs) m is_in = by_test (p x) (all_lower p xs m) is_in
  where
    by_test : (b : Bool) → (IsIn m (filter (λ (k : ℕ × Mark). p k.0) (map (λ a. (a, Lower)) xs)) → (m.1 ≡ Lower) × IsIn m.0 xs)
        → IsIn m (if b then (x, Lower) ∷ filter (λ (k : ℕ × Mark). p k.0) (map (λ a. (a, Lower)) xs) else filter (λ (k : ℕ × Mark). p k.0) (map (λ a. (a, Lower)) xs))
        → (m.1 ≡ Lower) × IsIn m.0 (x ∷ xs)
    by_test true later (inl e) = (ap (λ (k : ℕ × Mark). k.1) e, inl (ap (λ (k : ℕ × Mark). k.0) e))
    by_test true later (inr i) = let l = later i in (l.0, inr l.1)
    by_test false later i = let l = later i in (l.0, inr l.1)

-- the test of touching a node
touches_so : (e : Ends) (v : ℕ) → touches e v ≡ true → Touches (v ∷ []) (graph_ends e)
touches_so (Link from to gain) v t = elim (cases_eq v from) [
  | inl e ↦ inl (inl (sym e))
  | inr d ↦ elim (cases_eq v to) [
    | inl e ↦ inr (inl (sym e))
    | inr k ↦ absurd (let no_from : (v == from) ≡ false = grind (arith, nat_tests, d) in let no_to : (v == to) ≡ false = grind (arith, nat_tests, k) in cc (rw (no_from, no_to) at t))
  ]
]
touches_so (Drain at) v t = inl (grind (arith, nat_tests, t))
touches_so (Feed at) v t = inl (grind (arith, nat_tests, t))

touches_if : (e : Ends) (v : ℕ) → Touches (v ∷ []) (graph_ends e) → touches e v ≡ true
touches_if (Link from to gain) v (inl (inl e)) = let yes' : (v == from) ≡ true = grind (arith, nat_tests, e) in rw yes' refl
touches_if (Link from to gain) v (inl (inr none)) = absurd none
touches_if (Link from to gain) v (inr (inl e)) = let at_head : (v == to) ≡ true = grind (arith, nat_tests, e) in either (v == from) at_head
  where
    either : (b : Bool) → (v == to) ≡ true → (b || (v == to)) ≡ true
    either true h = refl
    either false h = h
touches_if (Link from to gain) v (inr (inr none)) = absurd none
touches_if (Drain at) v (inl e) = grind (arith, nat_tests, e)
touches_if (Drain at) v (inr none) = absurd none
touches_if (Feed at) v (inl e) = grind (arith, nat_tests, e)
touches_if (Feed at) v (inr none) = absurd none

module _ (net : Network) (v : ℕ) where
  abbrev m : ℕ
  m = length net.arcs

  abbrev p : ℕ → Bool
  p a = touches (ends_at net.arcs a) v

  numbers : marked_in (start_piece net v) ≡ filter p (range_with_len 0 m)
  numbers = marked_numbers p (range_with_len 0 m)

  marks_rise : IsStrictlyIncreasing (marked_in (start_piece net v))
  marks_rise = subst (λ t. IsStrictlyIncreasing t) (sym numbers) (IsStrictlyIncreasing-filter p (range_with_len 0 m) (rises (range_with_len 0 m) (range_ascends 0 m)))

  marked_is : (a : ℕ) → IsIn a (marked_in (start_piece net v)) → (a < m) × (p a ≡ true)
  marked_is a i = let f = (filter_holds p (range_with_len 0 m) a).0 (subst (λ t. IsIn a t) numbers i) in (omega (arith, (range_within 0 m a f.0).1), f.1)

  is_marked : (a : ℕ) → a < m → p a ≡ true → IsIn a (marked_in (start_piece net v))
  is_marked a l t = subst (λ s. IsIn a s) (sym numbers) ((filter_holds p (range_with_len 0 m) a).1 (range_holds 0 m a (omega arith) (omega (arith, l)), t))

  pub shape : HasShape (start_piece net v)
  shape = record {
    nodes_ascend = one_rises v;
    basics_ascend = one_rises (m + v);
    marks_ascend = marks_rise;
    quasi_tree = start.one_node_tree net v;
    others = λ a i basic. elim basic [
      | inl e ↦ let l = marked_is a i in omega (arith, e, l.0)
      | inr none ↦ none
    ];
    at_bounds = λ mark i basic. cc (sym (all_lower p (range_with_len 0 m) mark i).0 ∙ basic);
  }

  module _ (below : v < length net.supply) where
    real_ends : (a : ℕ) → a < m → ends_at (start_net One net).arcs a ≡ ends_at net.arcs a
    real_ends a l = ap (λ (x : NetArc). x.ends) (start.real_at net a l)

    read_off : IsReadOff (start_net One net) (values_of (start_state net)) (start_piece net v)
    read_off = record {
      marks_ascend = marks_rise;
      potentials = λ n i. elim i [
        | inl e ↦ rw e (sym (start.potential_at net v below))
        | inr none ↦ absurd none
      ];
      basic = λ b i. elim i [
        | inl e ↦ rw e (sym (start.ends_are net v below), sym (start.flow_artificial net v below))
        | inr none ↦ absurd none
      ];
      marked = λ a. (
        (λ i. let k = marked_is a i in (
          omega (arith, start.length_arcs net, k.0),
          (λ basic. cc (sym (start.mark_real net a k.0) ∙ basic)),
          subst (λ e. Touches (v ∷ []) (graph_ends e)) (sym (real_ends a k.0)) (touches_so (ends_at net.arcs a) v k.1),
        )),
        (λ t. elim (start.split net a t.0) [
          | inl l ↦ is_marked a l (touches_if (ends_at net.arcs a) v (subst (λ e. Touches (v ∷ []) (graph_ends e)) (real_ends a l) t.2))
          | inr s ↦ absurd (t.1 (rw s.2 (start.mark_artificial net s.0 s.1)))
        ]),
      );
      marks = λ mark i. let k = all_lower p (range_with_len 0 m) mark i in k.0 ∙ sym (start.mark_real net mark.0 (omega (arith, (range_within 0 m mark.0 k.1).1)));
    }

pub start_piece_has_shape : StartPieceHasShape
start_piece_has_shape net v = shape net v

pub start_piece_is_piece : StartPieceIsPiece
start_piece_is_piece net v below = record { part = start.single_part net v below; read_off = read_off net v below }
