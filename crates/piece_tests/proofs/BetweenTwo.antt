-- The network of the tests: a feed at node 0, a drain at node 1, and a link between them; and a piece for each node.
use Rattle.std.specs.Prelude.{◌≡◌, ◌≢◌, ◌⊎◌, ◌↔◌, ℕ, ◌<◌, zero, suc, ◌&&◌, ◌||◌, not, Bool, true, false, List, [], ◌∷◌, slice_index_or}
use Rattle.std.specs.List.Sorted.{IsStrictlyIncreasing}
use Rattle.std.proofs.Common.{refl, sym, subst, ◌∙◌, inl, inr, arith}
use Rattle.std.proofs.lemmas.Bool.{and_parts}
use Rattle.std.proofs.lemmas.List.Elements.{All-cons, All-nil}
use Rattle.std.proofs.lemmas.Int.{ints}
use Rattle.gain_graphs.specs.Arcs.{IsIn, Touches}
use Rattle.np_frac.specs.Ratio.{Ratio, zero_ratio, one_ratio, whole, is_below, ◌≤ᵣ◌, ◌<ᵣ◌}
use Rattle.np_frac.proofs.RatioLaws.{≤ᵣ_trans, is_below_true, is_below_false, ≤ᵣ_same, clash}
use Rattle.np_frac.proofs.Field.{one-zero, one_above}
use Rattle.np_model.specs.declared.arc.Ends.{Ends}
use Rattle.np_model.specs.declared.arc.Ends.TheVariants.{Link, Drain, Feed}
use Rattle.np_model.specs.declared.arc.NetArc.{NetArc}
use Rattle.np_model.specs.declared.arc.Upper.{Upper as UpperBound}
use Rattle.np_model.specs.declared.arc.Upper.TheVariants.{Finite, Infinite}
use Rattle.np_model.specs.declared.log.Mark.{Mark}
use Rattle.np_model.specs.declared.log.Mark.TheVariants.{Lower, Upper, Basic}
use Rattle.np_model.specs.declared.phase.Phase.TheVariants.{Two}
use Rattle.np_model.specs.declared.piece.Direction.{Direction}
use Rattle.np_model.specs.Network.Arcs.{IsAtMost, IsFinite, is_at_most}
use Rattle.np_model.specs.Network.Flows.{Network}
use Rattle.np_model.specs.Network.Nets.{IsNet, IsSoundArc}
use Rattle.np_model.specs.Basis.Artificial.{AreArtificial, IsOneEndAt}
use Rattle.np_model.specs.Basis.Graphs.{graph_ends, ends_at}
use Rattle.np_model.specs.Basis.Phases.{with_artificial}
use Rattle.np_model.specs.Basis.Pieces.{PieceLists}
use Rattle.np_model.specs.Basis.Sound.{IsInNet, bound_at}
use Rattle.np_model.specs.Basis.States.{StandsAt}
use Rattle.np_model.proofs.Tested.{at-most-so}
use Rattle.ratio_test.specs.Asked.{AreWithin, IsOutside, IsAlong}
use Rattle.np_basis.specs.PivotLaws.{unit_of}
use Rattle.piece_tests.proofs.NodesAlone.{alone, in_net, two_rise, not_basic, unit_apart, two_are_within}

abbrev pub from_0 : Ends → UpperBound → NetArc
from_0 ends u = record { ends = ends; lower = zero_ratio; upper = u; cost = zero_ratio }

abbrev pub arcs_of : UpperBound → UpperBound → UpperBound → List NetArc
arcs_of u v w = from_0 (Feed 0) u ∷ from_0 (Drain 1) v ∷ from_0 (Link 0 1 one_ratio) w ∷ []

abbrev pub supplies : List Ratio
supplies = zero_ratio ∷ zero_ratio ∷ []

abbrev pub drains : List Ends
drains = Drain 0 ∷ Drain 1 ∷ []

-- ---- it is a network

pub is_net : (u v w : UpperBound) → IsAtMost zero_ratio u → IsAtMost zero_ratio v → IsAtMost zero_ratio w → IsNet supplies (arcs_of u v w)
is_net u v w a b c = record {
  few_nodes = omega arith;
  few_arcs = omega arith;
  sound = All-cons (IsSoundArc 2) (from_0 (Feed 0) u) (from_0 (Drain 1) v ∷ from_0 (Link 0 1 one_ratio) w ∷ []) (record { joins = omega arith; gain = tt; bounds = a })
      (All-cons (IsSoundArc 2) (from_0 (Drain 1) v) (from_0 (Link 0 1 one_ratio) w ∷ []) (record { joins = omega arith; gain = tt; bounds = b })
      (All-cons (IsSoundArc 2) (from_0 (Link 0 1 one_ratio) w) [] (record { joins = (omega arith, omega arith, λ e. absurd (omega (arith, e))); gain = one_above; bounds = c })
      (All-nil (IsSoundArc 2))));
}

pub are_artificial : AreArtificial 2 drains
are_artificial = record { one_each = refl; at_nodes = each }
  where
    each : (v : ℕ) (other : Ends) → v < 2 → IsOneEndAt v (slice_index_or drains v other)
    each zero other l = refl
    each (suc zero) other l = refl
    each (suc (suc v)) other l = absurd (omega arith)

-- ---- the two pieces

abbrev pub network : UpperBound → UpperBound → UpperBound → Network
network u v w = with_artificial Two (record { supply = supplies; arcs = arcs_of u v w }) drains

abbrev pub first_piece : Ratio → Mark → PieceLists
first_piece x m = alone 0 0 (Feed 0) x ((2, m) ∷ (3, Lower) ∷ [])

abbrev pub second_piece : Ratio → Mark → PieceLists
second_piece y m = alone 1 1 (Drain 1) y ((2, m) ∷ (4, Lower) ∷ [])

module _ (u v w : UpperBound) where
  abbrev Touched : ℕ → ℕ → ℕ → Type 0
  Touched node own k = (k < 5) × (k ≢ own) × Touches (node ∷ []) (graph_ends (ends_at (network u v w).arcs k))

  first_marked : (k : ℕ) → IsIn k (2 ∷ 3 ∷ []) ↔ Touched 0 0 k
  first_marked k = (there k, back k)
    where
      there : (k : ℕ) → IsIn k (2 ∷ 3 ∷ []) → Touched 0 0 k
      there k (inl e) = subst (Touched 0 0) (sym e) (omega arith, (λ p. omega (arith, p)), inl (inl refl))
      there k (inr (inl e)) = subst (Touched 0 0) (sym e) (omega arith, (λ p. omega (arith, p)), inl refl)
      there k (inr (inr i)) = absurd i

      back : (k : ℕ) → Touched 0 0 k → IsIn k (2 ∷ 3 ∷ [])
      back zero r = absurd (r.1 refl)
      back (suc zero) r = elim r.2 [ inl e ↦ absurd (omega (arith, e)) | inr i ↦ absurd i ]
      back (suc (suc zero)) r = inl refl
      back (suc (suc (suc zero))) r = inr (inl refl)
      back (suc (suc (suc (suc zero)))) r = elim r.2 [ inl e ↦ absurd (omega (arith, e)) | inr i ↦ absurd i ]
      back (suc (suc (suc (suc (suc k))))) r = absurd (let l = r.0 in omega arith)

  second_marked : (k : ℕ) → IsIn k (2 ∷ 4 ∷ []) ↔ Touched 1 1 k
  second_marked k = (there k, back k)
    where
      there : (k : ℕ) → IsIn k (2 ∷ 4 ∷ []) → Touched 1 1 k
      there k (inl e) = subst (Touched 1 1) (sym e) (omega arith, (λ p. omega (arith, p)), inr (inl refl))
      there k (inr (inl e)) = subst (Touched 1 1) (sym e) (omega arith, (λ p. omega (arith, p)), inl refl)
      there k (inr (inr i)) = absurd i

      back : (k : ℕ) → Touched 1 1 k → IsIn k (2 ∷ 4 ∷ [])
      back zero r = elim r.2 [ inl e ↦ absurd (omega (arith, e)) | inr i ↦ absurd i ]
      back (suc zero) r = absurd (r.1 refl)
      back (suc (suc zero)) r = inl refl
      back (suc (suc (suc zero))) r = elim r.2 [ inl e ↦ absurd (omega (arith, e)) | inr i ↦ absurd i ]
      back (suc (suc (suc (suc zero)))) r = inr (inl refl)
      back (suc (suc (suc (suc (suc k))))) r = absurd (let l = r.0 in omega arith)

  module _ (x y : Ratio) (m : Mark) (n : m ≢ Basic) where
    first_in_net : IsInNet (network u v w) (first_piece x m)
    first_in_net =
        in_net 0 0 (Feed 0) x ((2, m) ∷ (3, Lower) ∷ []) refl (network u v w) (omega arith) (omega arith) refl (two_rise 2 3 (omega arith)) (not_basic 2 3 m n) first_marked

    second_in_net : IsInNet (network u v w) (second_piece y m)
    second_in_net =
        in_net 1 1 (Drain 1) y ((2, m) ∷ (4, Lower) ∷ []) refl (network u v w) (omega arith) (omega arith) refl (two_rise 2 4 (omega arith)) (not_basic 2 4 m n) second_marked

    pub within : zero_ratio ≤ᵣ x → IsAtMost x u → zero_ratio ≤ᵣ y → IsAtMost y v → AreWithin (network u v w) (first_piece x m ∷ second_piece y m ∷ [])
    within a b c d =
        two_are_within (network u v w) 0 0 1 1 (Feed 0) (Drain 1) x y ((2, m) ∷ (3, Lower) ∷ []) ((2, m) ∷ (4, Lower) ∷ []) (λ e. omega (arith, e)) first_in_net (a, b) second_in_net (c, d)

    pub outside : (m ≡ Upper → IsFinite w) → IsOutside (network u v w) (first_piece x m ∷ second_piece y m ∷ []) 2
    outside f = record {
      is_arc = omega arith;
      ends = (inl refl, inr (inl refl), one-zero);
      not_basic = λ i. elim i [ inl e ↦ omega (arith, e) | inr k ↦ elim k [ inl e ↦ omega (arith, e) | inr r ↦ r ] ];
      at_bound = by m w f;
    }
      where
        by : (m : Mark) (w : UpperBound) → (m ≡ Upper → IsFinite w) → StandsAt (from_0 (Link 0 1 one_ratio) w) m (bound_at (from_0 (Link 0 1 one_ratio) w) m)
        by Lower w f = refl
        by Upper (Finite b) f = refl
        by Upper Infinite f = absurd (f refl)
        by Basic w f = tt

    pub along : (f d : Ratio) (up : Bool) (direction : Direction) → direction.enter ≡ 2 → direction.up ≡ up → direction.steps ≡ (0, f) ∷ (1, d) ∷ (2, unit_of up) ∷ []
        → f ≢ zero_ratio → d ≢ zero_ratio → IsAlong (first_piece x m ∷ second_piece y m ∷ []) direction
    along f d up direction e g h a b = record {
      ascend = rw h three_rise;
      not_zero = rw h (each_apart f d up a b);
      on_arcs = rw (h, e) on;
      enters = rw (h, e, g) refl;
    }
      where
        three_rise : IsStrictlyIncreasing (0 ∷ 1 ∷ 2 ∷ [])
        three_rise zero l = omega arith
        three_rise (suc zero) l = omega arith
        three_rise (suc (suc k)) l = absurd (omega arith)

        each_apart : (f d : Ratio) (up : Bool) → f ≢ zero_ratio → d ≢ zero_ratio → (step : ℕ × Ratio) → IsIn step ((0, f) ∷ (1, d) ∷ (2, unit_of up) ∷ []) → step.1 ≢ zero_ratio
        each_apart f d up a b step (inl i) = λ p. a (sym (cc i) ∙ p)
        each_apart f d up a b step (inr (inl i)) = λ p. b (sym (cc i) ∙ p)
        each_apart f d up a b step (inr (inr (inl i))) = λ p. unit_apart up (sym (cc i) ∙ p)
        each_apart f d up a b step (inr (inr (inr i))) = absurd i

        on : (a : ℕ) → IsIn a (0 ∷ 1 ∷ 2 ∷ []) → (a ≡ 2) ⊎ IsIn a (0 ∷ 1 ∷ [])
        on a (inl i) = inr (inl i)
        on a (inr (inl i)) = inr (inr (inl i))
        on a (inr (inr (inl i))) = inl i
        on a (inr (inr (inr i))) = absurd i

-- ---- what the tests have looked at

at_most_too : (y x : Ratio) (u : UpperBound) → y ≤ᵣ x → IsAtMost x u → IsAtMost y u
at_most_too y x (Finite u) h k = ≤ᵣ_trans h k
at_most_too y x Infinite h k = k

-- a flow within bounds, and an amount that is not 0
pub record IsCarried (upper : UpperBound) (flow amount : Ratio) : Type 0 where
  pub bound : IsAtMost zero_ratio upper
  pub not_negative : zero_ratio ≤ᵣ flow
  pub at_most : IsAtMost flow upper
  pub moves : amount ≢ zero_ratio

pub carried : (upper : UpperBound) (flow amount : Ratio)
    → (not (is_below flow zero_ratio) && is_at_most flow upper && (is_below amount zero_ratio || is_below zero_ratio amount)) ≡ true → IsCarried upper flow amount
carried upper flow amount e =
    let one = and_parts (not (is_below flow zero_ratio) && is_at_most flow upper) (is_below amount zero_ratio || is_below zero_ratio amount) e in
    let two = and_parts (not (is_below flow zero_ratio)) (is_at_most flow upper) one.0 in
    let above = low (is_below flow zero_ratio) refl two.0 in
    record { bound = at_most_too zero_ratio flow upper above (at-most-so flow upper two.1); not_negative = above; at_most = at-most-so flow upper two.1; moves = apart (is_below amount zero_ratio) (is_below zero_ratio amount) refl refl one.1 }
  where
    low : (b : Bool) → is_below flow zero_ratio ≡ b → not b ≡ true → zero_ratio ≤ᵣ flow
    low true p q = absurd (cc q)
    low false p q = is_below_false flow zero_ratio p

    apart : (b c : Bool) → is_below amount zero_ratio ≡ b → is_below zero_ratio amount ≡ c → (b || c) ≡ true → amount ≢ zero_ratio
    apart true c p q r = λ s. clash (is_below_true amount zero_ratio p) (≤ᵣ_same (sym s))
    apart false true p q r = λ s. clash (is_below_true zero_ratio amount q) (≤ᵣ_same s)
    apart false false p q r = absurd (cc r)

-- the network and the pieces that the tests make are these
pub same_of : (P : Network → List PieceLists → Type 0) (u v w : UpperBound) (x y : Ratio) (m : Mark) (supply : List Ratio) (arcs : List NetArc) (artificial : List Ends) (p q : PieceLists)
    → supply ≡ supplies → arcs ≡ arcs_of u v w → artificial ≡ drains → p ≡ first_piece x m → q ≡ second_piece y m → P (network u v w) (first_piece x m ∷ second_piece y m ∷ [])
    → P (with_artificial Two (record { supply = supply; arcs = arcs }) artificial) (p ∷ q ∷ [])
same_of P u v w x y m supply arcs artificial p q a b c d e h = rw (a, b, c, d, e) h
