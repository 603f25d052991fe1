-- The start of stage one of the tests: a link from node 0 to node 1 and one back, and an artificial arc at each node.
use Rattle.std.specs.Prelude.{◌≡◌, ◌≢◌, ◌⊎◌, ◌↔◌, ℕ, ◌<◌, pos, zero, suc, true, false, List, [], ◌∷◌, slice_index_or}
use Rattle.std.specs.List.Sorted.{IsStrictlyIncreasing}
use Rattle.std.proofs.Common.{refl, sym, subst, ◌∙◌, inl, inr, arith}
use Rattle.std.proofs.lemmas.List.Elements.{All-cons, All-nil}
use Rattle.std.proofs.lemmas.Int.{ints}
use Rattle.gain_graphs.specs.Arcs.{IsIn, Touches}
use Rattle.np_frac.specs.Ratio.{Ratio, zero_ratio, one_ratio, negated, whole, ◌<ᵣ◌}
use Rattle.np_frac.proofs.RatioLaws.{≤ᵣ_refl, <ᵣ_is_≤ᵣ}
use Rattle.np_frac.proofs.Field.{one-zero, whole_above, one_above}
use Rattle.np_model.specs.declared.arc.Ends.{Ends}
use Rattle.np_model.specs.declared.arc.Ends.TheVariants.{Link, Drain, Feed}
use Rattle.np_model.specs.declared.arc.NetArc.{NetArc}
use Rattle.np_model.specs.declared.arc.Upper.TheVariants.{Infinite}
use Rattle.np_model.specs.declared.log.Mark.TheVariants.{Lower, Basic}
use Rattle.np_model.specs.declared.phase.Phase.TheVariants.{One}
use Rattle.np_model.specs.declared.piece.Direction.{Direction}
use Rattle.np_model.specs.Network.Flows.{Network}
use Rattle.np_model.specs.Network.Nets.{IsNet, IsSoundArc}
use Rattle.np_model.specs.Basis.Artificial.{AreArtificial, IsOneEndAt}
use Rattle.np_model.specs.Basis.Graphs.{graph_ends, ends_at}
use Rattle.np_model.specs.Basis.Phases.{with_artificial}
use Rattle.np_model.specs.Basis.Pieces.{PieceLists}
use Rattle.np_model.specs.Basis.Sound.{IsInNet}
use Rattle.ratio_test.specs.Asked.{AreWithin, IsOutside, IsAlong}
use Rattle.piece_tests.proofs.NodesAlone.{alone, in_net, two_rise, not_basic, unit_apart, two_are_within}
use Rattle.piece_tests.proofs.BetweenTwo.{from_0, supplies}

abbrev pub links : List NetArc
links = from_0 (Link 0 1 (whole (pos 2))) Infinite ∷ from_0 (Link 1 0 one_ratio) Infinite ∷ []

abbrev pub artificial : List Ends
artificial = Feed 0 ∷ Drain 1 ∷ []

pub is_net : IsNet supplies links
is_net = record {
  few_nodes = omega arith;
  few_arcs = omega arith;
  sound = All-cons (IsSoundArc 2) (from_0 (Link 0 1 (whole (pos 2))) Infinite) (from_0 (Link 1 0 one_ratio) Infinite ∷ [])
      (record { joins = (omega arith, omega arith, λ e. absurd (omega (arith, e))); gain = whole_above (pos 2) (omega (arith, ints)); bounds = tt })
      (All-cons (IsSoundArc 2) (from_0 (Link 1 0 one_ratio) Infinite) [] (record { joins = (omega arith, omega arith, λ e. absurd (omega (arith, e))); gain = one_above; bounds = tt })
      (All-nil (IsSoundArc 2)));
}

pub are_artificial : AreArtificial 2 artificial
are_artificial = record { one_each = refl; at_nodes = each }
  where
    each : (v : ℕ) (other : Ends) → v < 2 → IsOneEndAt v (slice_index_or artificial v other)
    each zero other l = refl
    each (suc zero) other l = refl
    each (suc (suc v)) other l = absurd (omega arith)

abbrev pub network : Network
network = with_artificial One (record { supply = supplies; arcs = links }) artificial

abbrev pub first_piece : PieceLists
first_piece = alone 0 2 (Feed 0) one_ratio ((0, Lower) ∷ (1, Lower) ∷ [])

abbrev pub second_piece : PieceLists
second_piece = alone 1 3 (Drain 1) zero_ratio ((0, Lower) ∷ (1, Lower) ∷ [])

abbrev Touched : ℕ → ℕ → ℕ → Type 0
Touched node own k = (k < 4) × (k ≢ own) × Touches (node ∷ []) (graph_ends (ends_at network.arcs k))

first_marked : (k : ℕ) → IsIn k (0 ∷ 1 ∷ []) ↔ Touched 0 2 k
first_marked k = (there k, back k)
  where
    there : (k : ℕ) → IsIn k (0 ∷ 1 ∷ []) → Touched 0 2 k
    there k (inl e) = subst (Touched 0 2) (sym e) (omega arith, (λ p. omega (arith, p)), inl (inl refl))
    there k (inr (inl e)) = subst (Touched 0 2) (sym e) (omega arith, (λ p. omega (arith, p)), inr (inl refl))
    there k (inr (inr i)) = absurd i

    back : (k : ℕ) → Touched 0 2 k → IsIn k (0 ∷ 1 ∷ [])
    back zero r = inl refl
    back (suc zero) r = inr (inl refl)
    back (suc (suc zero)) r = absurd (r.1 refl)
    back (suc (suc (suc zero))) r = elim r.2 [ inl e ↦ absurd (omega (arith, e)) | inr i ↦ absurd i ]
    back (suc (suc (suc (suc k)))) r = absurd (let l = r.0 in omega arith)

second_marked : (k : ℕ) → IsIn k (0 ∷ 1 ∷ []) ↔ Touched 1 3 k
second_marked k = (there k, back k)
  where
    there : (k : ℕ) → IsIn k (0 ∷ 1 ∷ []) → Touched 1 3 k
    there k (inl e) = subst (Touched 1 3) (sym e) (omega arith, (λ p. omega (arith, p)), inr (inl refl))
    there k (inr (inl e)) = subst (Touched 1 3) (sym e) (omega arith, (λ p. omega (arith, p)), inl (inl refl))
    there k (inr (inr i)) = absurd i

    back : (k : ℕ) → Touched 1 3 k → IsIn k (0 ∷ 1 ∷ [])
    back zero r = inl refl
    back (suc zero) r = inr (inl refl)
    back (suc (suc zero)) r = elim r.2 [ inl e ↦ absurd (omega (arith, e)) | inr i ↦ absurd i ]
    back (suc (suc (suc zero))) r = absurd (r.1 refl)
    back (suc (suc (suc (suc k)))) r = absurd (let l = r.0 in omega arith)

at_lower : Lower ≢ Basic
at_lower e = cc e

first_in_net : IsInNet network first_piece
first_in_net =
    in_net 0 2 (Feed 0) one_ratio ((0, Lower) ∷ (1, Lower) ∷ []) refl network (omega arith) (omega arith) refl (two_rise 0 1 (omega arith)) (not_basic 0 1 Lower at_lower) first_marked

second_in_net : IsInNet network second_piece
second_in_net =
    in_net 1 3 (Drain 1) zero_ratio ((0, Lower) ∷ (1, Lower) ∷ []) refl network (omega arith) (omega arith) refl (two_rise 0 1 (omega arith)) (not_basic 0 1 Lower at_lower) second_marked

pub within : AreWithin network (first_piece ∷ second_piece ∷ [])
within =
    two_are_within network 0 2 1 3 (Feed 0) (Drain 1) one_ratio zero_ratio ((0, Lower) ∷ (1, Lower) ∷ []) ((0, Lower) ∷ (1, Lower) ∷ []) (λ e. omega (arith, e))
    first_in_net (<ᵣ_is_≤ᵣ one_above, tt) second_in_net (≤ᵣ_refl zero_ratio, tt)

pub outside : IsOutside network (first_piece ∷ second_piece ∷ []) 1
outside = record {
  is_arc = omega arith;
  ends = (inr (inl refl), inl refl, one-zero);
  not_basic = λ i. elim i [ inl e ↦ omega (arith, e) | inr k ↦ elim k [ inl e ↦ omega (arith, e) | inr r ↦ r ] ];
  at_bound = refl;
}

pub along : (direction : Direction) → direction.enter ≡ 1 → direction.up ≡ true → direction.steps ≡ (1, one_ratio) ∷ (2, negated one_ratio) ∷ (3, negated one_ratio) ∷ []
    → IsAlong (first_piece ∷ second_piece ∷ []) direction
along direction e g h = record {
  ascend = rw h three_rise;
  not_zero = rw h each_apart;
  on_arcs = rw (h, e) on;
  enters = rw (h, e, g) refl;
}
  where
    three_rise : IsStrictlyIncreasing (1 ∷ 2 ∷ 3 ∷ [])
    three_rise zero l = omega arith
    three_rise (suc zero) l = omega arith
    three_rise (suc (suc k)) l = absurd (omega arith)

    each_apart : (step : ℕ × Ratio) → IsIn step ((1, one_ratio) ∷ (2, negated one_ratio) ∷ (3, negated one_ratio) ∷ []) → step.1 ≢ zero_ratio
    each_apart step (inl i) = λ p. one-zero (sym (cc i) ∙ p)
    each_apart step (inr (inl i)) = λ p. unit_apart false (sym (cc i) ∙ p)
    each_apart step (inr (inr (inl i))) = λ p. unit_apart false (sym (cc i) ∙ p)
    each_apart step (inr (inr (inr i))) = absurd i

    on : (a : ℕ) → IsIn a (1 ∷ 2 ∷ 3 ∷ []) → (a ≡ 1) ⊎ IsIn a (2 ∷ 3 ∷ [])
    on a (inl i) = inl i
    on a (inr i) = inr i

-- the network and the pieces that the test makes are these
pub same_of : (P : Network → List PieceLists → Type 0) (supply : List Ratio) (arcs : List NetArc) (ends : List Ends) (p q : PieceLists)
    → supply ≡ supplies → arcs ≡ links → ends ≡ artificial → p ≡ first_piece → q ≡ second_piece → P network (first_piece ∷ second_piece ∷ [])
    → P (with_artificial One (record { supply = supply; arcs = arcs }) ends) (p ∷ q ∷ [])
same_of P supply arcs ends p q a b c d e h = rw (a, b, c, d, e) h
