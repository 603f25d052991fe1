-- One node of the tests with a drain, a feed and an artificial drain.
use Rattle.std.specs.Prelude.{◌≡◌, ◌≢◌, ◌⊎◌, ◌↔◌, ℕ, ◌<◌, zero, suc, true, List, [], ◌∷◌, slice_index_or}
use Rattle.std.proofs.Common.{refl, sym, subst, ◌∙◌, inl, inr, arith}
use Rattle.std.proofs.lemmas.List.Elements.{All-cons, All-nil}
use Rattle.gain_graphs.specs.Arcs.{IsIn, Touches}
use Rattle.np_frac.specs.Ratio.{Ratio, zero_ratio, one_ratio, ◌≤ᵣ◌}
use Rattle.np_frac.proofs.Field.{one-zero}
use Rattle.np_model.specs.declared.arc.Ends.{Ends}
use Rattle.np_model.specs.declared.arc.Ends.TheVariants.{Drain, Feed}
use Rattle.np_model.specs.declared.arc.NetArc.{NetArc}
use Rattle.np_model.specs.declared.arc.Upper.{Upper as UpperBound}
use Rattle.np_model.specs.declared.log.Mark.TheVariants.{Lower, Basic}
use Rattle.np_model.specs.declared.phase.Phase.TheVariants.{Two}
use Rattle.np_model.specs.declared.piece.Direction.{Direction}
use Rattle.np_model.specs.Network.Arcs.{IsAtMost}
use Rattle.np_model.specs.Network.Flows.{Network}
use Rattle.np_model.specs.Network.Nets.{IsNet, IsSoundArc}
use Rattle.np_model.specs.Basis.Artificial.{AreArtificial, IsOneEndAt}
use Rattle.np_model.specs.Basis.Graphs.{graph_ends, ends_at}
use Rattle.np_model.specs.Basis.Phases.{with_artificial}
use Rattle.np_model.specs.Basis.Pieces.{PieceLists}
use Rattle.np_model.specs.Basis.Sound.{IsInNet}
use Rattle.ratio_test.specs.Asked.{AreWithin, IsOutside, IsAlong}
use Rattle.piece_tests.proofs.NodesAlone.{alone, in_net, two_rise, not_basic, one_is_within}
use Rattle.piece_tests.proofs.BetweenTwo.{from_0}

abbrev pub arcs_of : UpperBound → UpperBound → List NetArc
arcs_of u w = from_0 (Drain 0) u ∷ from_0 (Feed 0) w ∷ []

pub is_net : (u w : UpperBound) → IsAtMost zero_ratio u → IsAtMost zero_ratio w → IsNet (zero_ratio ∷ []) (arcs_of u w)
is_net u w a b = record {
  few_nodes = omega arith;
  few_arcs = omega arith;
  sound = All-cons (IsSoundArc 1) (from_0 (Drain 0) u) (from_0 (Feed 0) w ∷ []) (record { joins = omega arith; gain = tt; bounds = a })
      (All-cons (IsSoundArc 1) (from_0 (Feed 0) w) [] (record { joins = omega arith; gain = tt; bounds = b }) (All-nil (IsSoundArc 1)));
}

pub are_artificial : AreArtificial 1 (Drain 0 ∷ [])
are_artificial = record { one_each = refl; at_nodes = each }
  where
    each : (v : ℕ) (other : Ends) → v < 1 → IsOneEndAt v (slice_index_or (Drain 0 ∷ []) v other)
    each zero other l = refl
    each (suc v) other l = absurd (omega arith)

abbrev pub network : UpperBound → UpperBound → Network
network u w = with_artificial Two (record { supply = zero_ratio ∷ []; arcs = arcs_of u w }) (Drain 0 ∷ [])

abbrev pub piece_of : Ratio → PieceLists
piece_of x = alone 0 0 (Drain 0) x ((1, Lower) ∷ (2, Lower) ∷ [])

module _ (u w : UpperBound) where
  abbrev Touched : ℕ → Type 0
  Touched k = (k < 3) × (k ≢ 0) × Touches (0 ∷ []) (graph_ends (ends_at (network u w).arcs k))

  marked : (k : ℕ) → IsIn k (1 ∷ 2 ∷ []) ↔ Touched k
  marked k = (there k, back k)
    where
      there : (k : ℕ) → IsIn k (1 ∷ 2 ∷ []) → Touched k
      there k (inl e) = subst Touched (sym e) (omega arith, (λ p. omega (arith, p)), inl refl)
      there k (inr (inl e)) = subst Touched (sym e) (omega arith, (λ p. omega (arith, p)), inl refl)
      there k (inr (inr i)) = absurd i

      back : (k : ℕ) → Touched k → IsIn k (1 ∷ 2 ∷ [])
      back zero r = absurd (r.1 refl)
      back (suc zero) r = inl refl
      back (suc (suc zero)) r = inr (inl refl)
      back (suc (suc (suc k))) r = absurd (let l = r.0 in omega arith)

  at_lower : Lower ≢ Basic
  at_lower e = cc e

  in_network : (x : Ratio) → IsInNet (network u w) (piece_of x)
  in_network x =
      in_net 0 0 (Drain 0) x ((1, Lower) ∷ (2, Lower) ∷ []) refl (network u w) (omega arith) (omega arith) refl (two_rise 1 2 (omega arith)) (not_basic 1 2 Lower at_lower) marked

  pub within : (x : Ratio) → zero_ratio ≤ᵣ x → IsAtMost x u → AreWithin (network u w) (piece_of x ∷ [])
  within x a b = one_is_within (network u w) 0 0 (Drain 0) x ((1, Lower) ∷ (2, Lower) ∷ []) (in_network x) (a, b)

  pub outside : (x : Ratio) → IsOutside (network u w) (piece_of x ∷ []) 1
  outside x = record {
    is_arc = omega arith;
    ends = inl refl;
    not_basic = λ i. elim i [ inl e ↦ omega (arith, e) | inr r ↦ r ];
    at_bound = refl;
  }

pub along : (x d : Ratio) (direction : Direction) → direction.enter ≡ 1 → direction.up ≡ true → direction.steps ≡ (0, d) ∷ (1, one_ratio) ∷ [] → d ≢ zero_ratio
    → IsAlong (piece_of x ∷ []) direction
along x d direction e g h a = record {
  ascend = rw h (two_rise 0 1 (omega arith));
  not_zero = rw h each_apart;
  on_arcs = rw (h, e) on;
  enters = rw (h, e, g) refl;
}
  where
    each_apart : (step : ℕ × Ratio) → IsIn step ((0, d) ∷ (1, one_ratio) ∷ []) → step.1 ≢ zero_ratio
    each_apart step (inl i) = λ p. a (sym (cc i) ∙ p)
    each_apart step (inr (inl i)) = λ p. one-zero (sym (cc i) ∙ p)
    each_apart step (inr (inr i)) = absurd i

    on : (k : ℕ) → IsIn k (0 ∷ 1 ∷ []) → (k ≡ 1) ⊎ IsIn k (0 ∷ [])
    on k (inl i) = inr (inl i)
    on k (inr (inl i)) = inl i
    on k (inr (inr i)) = absurd i

-- the network and the piece that the test makes are these
pub same_of : (P : Network → List PieceLists → Type 0) (u w : UpperBound) (x : Ratio) (supply : List Ratio) (arcs : List NetArc) (ends : List Ends) (p : PieceLists)
    → supply ≡ zero_ratio ∷ [] → arcs ≡ arcs_of u w → ends ≡ Drain 0 ∷ [] → p ≡ piece_of x → P (network u w) (piece_of x ∷ [])
    → P (with_artificial Two (record { supply = supply; arcs = arcs }) ends) (p ∷ [])
same_of P u w x supply arcs ends p a b c d h = rw (a, b, c, d) h
