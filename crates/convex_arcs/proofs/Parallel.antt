-- The arcs of segments: where they stand, and that they make a network.
use Rattle.std.specs.Prelude.{◌≡◌, ℕ, zero, suc, ◌+◌, Some, List, [], ◌∷◌, ◌++◌, length, take, map, sum_by}
use Rattle.std.specs.List.{All, AllByRecursion, slice_get}
use Rattle.std.proofs.Common.{refl, arith, sym, ap, ◌∙◌}
use Rattle.std.proofs.Math.Seq.{take-length}
use Rattle.std.proofs.lemmas.Int.{ints}
use Rattle.std.proofs.lemmas.List.{length-append, length-map}
use Rattle.std.proofs.lemmas.List.Elements.{All-append, All-cons, All-nil, recursion_from_All}
use Rattle.std.proofs.lemmas.List.Sums.{sum_by-cons}
use Rattle.np_frac.specs.Ratio.{Ratio, zero_ratio}
use Rattle.np_model.specs.declared.arc.Upper.{Upper}
use Rattle.np_model.specs.declared.arc.Upper.TheVariants.{Finite, Infinite}
use Rattle.np_model.specs.declared.arc.Ends.{Ends}
use Rattle.np_model.specs.declared.scheme.Band.{Band}
use Rattle.np_model.specs.Network.Arcs.{IsAtMost, IsUnder, AreNodes, IsGaining}
use Rattle.np_model.specs.Scheme.Segments.{Stage, IsConvexFrom}
use Rattle.np_model.specs.Network.Nets.{IsSoundArc, IsNet}
use Rattle.period_expand.specs.Expansion.{IsSoundStage, IsExpansion, segment_count}
use Rattle.convex_arcs.specs.Segments.{first_arc, band_arc, segment_arcs, flat_arcs, segments_before, SegmentsStandInOrder, HasNoOtherSegments}

-- ---- where they stand

pub arcs-length : (stages : List Stage) → length (flat_arcs stages) ≡ sum_by segment_count stages
arcs-length [] = refl
arcs-length (s ∷ stages) =
    omega (arith, length-append (segment_arcs s) (flat_arcs stages), length-map s.bands (band_arc s.ends), sum_by-cons segment_count s stages, arcs-length stages)

pub no_others : HasNoOtherSegments
no_others stages = arcs-length stages ∙ sym (ap (sum_by segment_count) (take-length stages))

within_first : {Y : Type 0} (xs ys : List Y) (i : ℕ) (y : Y) → slice_get xs i ≡ Some y → slice_get (xs ++ ys) i ≡ Some y
within_first [] ys i y e = absurd (cc e)
within_first (x ∷ xs) ys zero y e = e
within_first (x ∷ xs) ys (suc i) y e = within_first xs ys i y e

behind_first : {Y : Type 0} (xs ys : List Y) (i : ℕ) → slice_get (xs ++ ys) (length xs + i) ≡ slice_get ys i
behind_first [] ys i = let e : 0 + i ≡ i = omega arith in ap (λ (n : ℕ). slice_get ys n) e
behind_first (x ∷ xs) ys i =
    let e : length (x ∷ xs) + i ≡ suc (length xs + i) = omega arith in
    ap (λ (n : ℕ). slice_get (x ∷ xs ++ ys) n) e ∙ behind_first xs ys i

pub stand : SegmentsStandInOrder
stand [] number segment s a e h = absurd (cc e)
stand (t ∷ stages) zero segment s a e h =
    let same : t ≡ s = cc in
    let i : 0 + segment ≡ segment = omega arith in
    let here : slice_get (segment_arcs t) segment ≡ Some a = ap (λ s. slice_get (segment_arcs s) segment) same ∙ h in
    ap (λ (n : ℕ). slice_get (flat_arcs (t ∷ stages)) n) i ∙ within_first (segment_arcs t) (flat_arcs stages) segment a here
stand (t ∷ stages) (suc number) segment s a e h =
    let i : segments_before (t ∷ stages) (suc number) + segment ≡ length (segment_arcs t) + (segments_before stages number + segment) =
    omega (arith, sum_by-cons segment_count t (take number stages), length-map t.bands (band_arc t.ends)) in
    ap (λ (n : ℕ). slice_get (flat_arcs (t ∷ stages)) n) i ∙ behind_first (segment_arcs t) (flat_arcs stages) (segments_before stages number + segment)
    ∙ stand stages number segment s a e h

-- ---- they make a network

at_most_if_under : (x : Ratio) (u : Upper) → IsUnder x u → IsAtMost x u
at_most_if_under x (Finite u) h = record { cross = omega (arith, ints, h.cross) }
at_most_if_under x Infinite h = tt

bands_sound : (n : ℕ) (ends : Ends) (slope : Ratio) (bands : List Band) → AreNodes n ends → IsGaining ends → IsConvexFrom slope bands →
    All (IsSoundArc n) (map (band_arc ends) bands)
bands_sound n ends slope [] joins gain h = All-nil (IsSoundArc n)
bands_sound n ends slope (band ∷ bands) joins gain h =
    All-cons (IsSoundArc n) _ _ (record { joins = joins; gain = gain; bounds = at_most_if_under zero_ratio band.width h.1 })
    (bands_sound n ends band.slope bands joins gain h.2)

arcs_sound : (n : ℕ) (stages : List Stage) → AllByRecursion (IsSoundStage n) stages → All (IsSoundArc n) (flat_arcs stages)
arcs_sound n [] h = All-nil (IsSoundArc n)
arcs_sound n (s ∷ stages) h =
    let first : IsSoundArc n (first_arc s) = record { joins = h.0.joins; gain = h.0.gain; bounds = h.0.convex.0 } in
    All-append (IsSoundArc n) (segment_arcs s) (flat_arcs stages)
    (All-cons (IsSoundArc n) _ _ first (bands_sound n s.ends s.cost s.bands h.0.joins h.0.gain h.0.convex.1))
    (arcs_sound n stages h.1)

pub is_net : (supply : List Ratio) (stages : List Stage) → IsExpansion supply stages → IsNet supply (flat_arcs stages)
is_net supply stages h = record {
  few_nodes = h.few_nodes;
  few_arcs = rw (arcs-length stages) h.few_segments;
  sound = arcs_sound (length supply) stages (recursion_from_All _ stages h.sound);
}
