-- Prices that show the flows of segments least show the amounts least.
use Rattle.std.specs.Prelude.{◌≡◌, ℕ, ◌+◌, List, [], ◌∷◌, length, map, take, drop}
use Rattle.std.specs.List.{All, AllByRecursion, zip}
use Rattle.std.proofs.Common.{refl, arith, sym, subst, ap, ◌∙◌, inl, inr}
use Rattle.std.proofs.lemmas.List.{length-append, length-map, length-take-le, length-drop}
use Rattle.std.proofs.lemmas.List.Elements.{recursion_from_All, All-from_recursion}
use Rattle.np_frac.specs.Ratio.{Ratio, zero_ratio, ◌+ᵣ◌, ◌≤ᵣ◌, ◌<ᵣ◌}
use Rattle.np_frac.proofs.RatioLaws.{+ᵣ_assoc, +ᵣ-zero, zero-+ᵣ, ≤ᵣ_refl, ≤ᵣ_same, ≤ᵣ_trans, ≤ᵣ-<ᵣ_trans, <ᵣ-≤ᵣ_trans, +ᵣ_at_most, below_or, clash, minus_at_most}
use Rattle.np_frac.proofs.Sums.{sum, total_is}
use Rattle.np_model.specs.declared.arc.Ends.{Ends}
use Rattle.np_model.specs.declared.arc.Upper.{Upper}
use Rattle.np_model.specs.declared.arc.Upper.TheVariants.{Finite, Infinite}
use Rattle.np_model.specs.declared.arc.NetArc.{NetArc}
use Rattle.np_model.specs.declared.scheme.Band.{Band}
use Rattle.np_model.specs.Network.Arcs.{IsAtMost, IsFull, IsUnder}
use Rattle.np_model.specs.Network.Duality.{IsSlack, pull, reduced}
use Rattle.np_model.specs.Scheme.Segments.{Stage, Segment, segments, segments_beyond, end_after, IsConvexFrom}
use Rattle.np_model.specs.Scheme.Convex.{IsKink}
use Rattle.period_expand.specs.Expansion.{IsSoundStage, segment_count}
use Rattle.convex_arcs.specs.Segments.{band_arc, segment_arcs, flat_arcs}
use Rattle.convex_arcs.specs.Gathered.{amounts_of}
use Rattle.convex_arcs.specs.Filled.{GatheredIsShown}
use Rattle.convex_arcs.proofs.Bounds.{Keeps, not_negative, at_most_after, all_split}

abbrev Slack : List Ratio → NetArc × Ratio → Type 0
Slack p (a, q) = IsSlack p a q

-- past a segment that costs more than its price, nothing flows
none_after : (p : List Ratio) (ends : Ends) (c : Ratio) (bands : List Band) (ys : List Ratio) → IsConvexFrom c bands → length ys ≡ length bands →
    AllByRecursion (Slack p) (zip (map (band_arc ends) bands) ys) → zero_ratio <ᵣ reduced p ends c → sum (λ y. y) ys ≡ zero_ratio
none_after p ends c [] [] h e k above = refl
none_after p ends c [] (y ∷ ys) h e k above = absurd (omega (arith, e))
none_after p ends c (band ∷ bands) [] h e k above = absurd (omega (arith, e))
none_after p ends c (band ∷ bands) (y ∷ ys) h e k above =
    let next = <ᵣ-≤ᵣ_trans above (minus_at_most (pull p ends) h.0) in
    ap (λ r. r +ᵣ sum (λ y. y) ys) (k.0.0 next) ∙ zero-+ᵣ (sum (λ y. y) ys) ∙ none_after p ends band.slope bands ys h.2 (omega (arith, e)) k.1 next

-- more than fills an end is not under it
not_under : (x y z : Ratio) (end : Upper) → IsFull x end → zero_ratio ≤ᵣ y → z ≡ x +ᵣ y → IsUnder z end → ⊥
not_under x y z (Finite end) full some is under =
    clash under (≤ᵣ_trans (≤ᵣ_same (sym full)) (≤ᵣ_trans (≤ᵣ_same (sym (+ᵣ-zero x))) (≤ᵣ_trans (+ᵣ_at_most (≤ᵣ_refl x) some) (≤ᵣ_same (sym is)))))
not_under x y z Infinite full some is under = full

full_after : (x y e : Ratio) (width : Upper) → x ≡ e → IsFull y width → IsFull (x +ᵣ y) (end_after e width)
full_after x y e (Finite width) same full = ap (λ r. r +ᵣ y) same ∙ ap (λ r. e +ᵣ r) full
full_after x y e Infinite same full = full

kink_at : (p : List Ratio) (ends : Ends) (x : Ratio) (g : Segment) → (g.start <ᵣ x → zero_ratio <ᵣ reduced p ends g.slope → ⊥) →
    (IsUnder x g.end → reduced p ends g.slope <ᵣ zero_ratio → ⊥) → IsKink p ends x g
kink_at p ends x g left right = (
  (λ past at. elim (below_or zero_ratio (reduced p ends g.slope)) [ inl above ↦ absurd (left past above) | inr ok ↦ ok ]),
  (λ past under. elim (below_or (reduced p ends g.slope) zero_ratio) [ inl below ↦ absurd (right under below) | inr ok ↦ ok ]),
)

kinks_beyond : (p : List Ratio) (ends : Ends) (c : Ratio) (end : Upper) (bands : List Band) (x : Ratio) (ys : List Ratio) → IsConvexFrom c bands → length ys ≡ length bands →
    AllByRecursion Keeps (zip (map (band_arc ends) bands) ys) → AllByRecursion (Slack p) (zip (map (band_arc ends) bands) ys) → IsAtMost x end →
    (reduced p ends c <ᵣ zero_ratio → IsFull x end) → AllByRecursion (IsKink p ends (x +ᵣ sum (λ y. y) ys)) (segments_beyond end bands)
kinks_beyond p ends c end [] x ys h e k l within full = tt
kinks_beyond p ends c Infinite (band ∷ bands) x ys h e k l within full = tt
kinks_beyond p ends c (Finite end) (band ∷ bands) x [] h e k l within full = absurd (omega (arith, e))
kinks_beyond p ends c (Finite end) (band ∷ bands) x (y ∷ ys) h e k l within full =
    let later = sum (λ y. y) ys in
    let all = x +ᵣ (y +ᵣ later) in
    let again = +ᵣ_assoc x y later in
    let some = not_negative ends bands ys (omega (arith, e)) k.1 in
    let fills : reduced p ends band.slope <ᵣ zero_ratio → IsFull (x +ᵣ y) (end_after end band.width) =
    λ below. full_after x y end band.width (full (≤ᵣ-<ᵣ_trans (minus_at_most (pull p ends) h.0) below)) (l.0.1 below) in
    let rest = kinks_beyond p ends band.slope (end_after end band.width) bands (x +ᵣ y) ys h.2 (omega (arith, e)) k.1 l.1 (at_most_after end x y band.width within k.0.1) fills in
    let left : end <ᵣ all → zero_ratio <ᵣ reduced p ends band.slope → ⊥ =
    λ past above.
    let none : all ≡ x = ap (λ r. x +ᵣ (r +ᵣ later)) (l.0.0 above) ∙ ap (λ r. x +ᵣ (zero_ratio +ᵣ r)) (none_after p ends band.slope bands ys h.2 (omega (arith, e)) l.1 above) ∙ ap (λ r. x +ᵣ r) (+ᵣ-zero zero_ratio) ∙ +ᵣ-zero x in
    clash past (≤ᵣ_trans (≤ᵣ_same none) within) in (
      kink_at p ends all (record { start = end; end = end_after end band.width; slope = band.slope }) left
          (λ under below. not_under (x +ᵣ y) later all (end_after end band.width) (fills below) some (sym again) under),
      subst (λ (r : Ratio). AllByRecursion (IsKink p ends r) (segments_beyond (end_after end band.width) bands)) again rest,
    )

stage_kinks : (p : List Ratio) (n : ℕ) (s : Stage) (xs : List Ratio) → IsSoundStage n s → length xs ≡ segment_count s → AllByRecursion Keeps (zip (segment_arcs s) xs) →
    AllByRecursion (Slack p) (zip (segment_arcs s) xs) → AllByRecursion (IsKink p s.ends (sum (λ x. x) xs)) (segments s)
stage_kinks p n s [] h e k l = absurd (omega (arith, e))
stage_kinks p n s (x ∷ xs) h e k l =
    let later = sum (λ x. x) xs in
    let some = not_negative s.ends s.bands xs (omega (arith, e)) k.1 in
    let left : s.lower <ᵣ x +ᵣ later → zero_ratio <ᵣ reduced p s.ends s.cost → ⊥ =
    λ past above.
    let none : x +ᵣ later ≡ s.lower = ap (λ r. r +ᵣ later) (l.0.0 above) ∙ ap (λ r. s.lower +ᵣ r) (none_after p s.ends s.cost s.bands xs h.convex.1 (omega (arith, e)) l.1 above) ∙ +ᵣ-zero s.lower in
    clash past (≤ᵣ_same none) in (
      kink_at p s.ends (x +ᵣ later) (record { start = s.lower; end = s.upper; slope = s.cost }) left (λ under below. not_under x later (x +ᵣ later) s.upper (l.0.1 below) some refl under),
      kinks_beyond p s.ends s.cost s.upper s.bands x xs h.convex.1 (omega (arith, e)) k.1 l.1 k.0.1 l.0.1,
    )

abbrev Kinks : List Ratio → Stage × Ratio → Type 0
Kinks p (s, q) = All (λ g. IsKink p s.ends q g) (segments s)

stages_kinks : (p : List Ratio) (n : ℕ) (stages : List Stage) (flows : List Ratio) → AllByRecursion (IsSoundStage n) stages → length flows ≡ length (flat_arcs stages) →
    AllByRecursion Keeps (zip (flat_arcs stages) flows) → AllByRecursion (Slack p) (zip (flat_arcs stages) flows) → AllByRecursion (Kinks p) (zip stages (amounts_of stages flows))
stages_kinks p n [] flows h e k l = tt
stages_kinks p n (s ∷ stages) flows h e k l =
    let size : length (segment_arcs s) ≡ segment_count s = omega (arith, length-map s.bands (band_arc s.ends)) in
    let whole : length flows ≡ length (segment_arcs s) + length (flat_arcs stages) = e ∙ length-append (segment_arcs s) (flat_arcs stages) in
    let own : length (take (segment_count s) flows) ≡ segment_count s = length-take-le (segment_count s) flows (omega arith) in
    let later : length (drop (segment_count s) flows) ≡ length (flat_arcs stages) = omega (arith, length-drop (segment_count s) flows) in
    let kept = all_split Keeps (segment_arcs s) (flat_arcs stages) flows (omega arith) k in
    let slack = all_split (Slack p) (segment_arcs s) (flat_arcs stages) flows (omega arith) l in
    let first =
    stage_kinks p n s (take (segment_count s) flows) h.0 own (subst (λ (m : ℕ). AllByRecursion Keeps (zip (segment_arcs s) (take m flows))) size kept.0)
    (subst (λ (m : ℕ). AllByRecursion (Slack p) (zip (segment_arcs s) (take m flows))) size slack.0) in
    let rest =
    stages_kinks p n stages (drop (segment_count s) flows) h.1 later (subst (λ (m : ℕ). AllByRecursion Keeps (zip (flat_arcs stages) (drop m flows))) size kept.1)
    (subst (λ (m : ℕ). AllByRecursion (Slack p) (zip (flat_arcs stages) (drop m flows))) size slack.1) in (
      subst (λ (r : Ratio). All (λ g. IsKink p s.ends r g) (segments s)) (sym (total_is (λ flow. flow) (take (segment_count s) flows)))
          (All-from_recursion (IsKink p s.ends (sum (λ x. x) (take (segment_count s) flows))) (segments s) first),
      rest,
    )

pub shown_on_both_sides : GatheredIsShown
shown_on_both_sides supply stages p flows h f shows = record {
  one_each = shows.one_each;
  slopes =
      All-from_recursion (Kinks p) (zip stages (amounts_of stages flows))
      (stages_kinks p (length supply) stages flows (recursion_from_All (IsSoundStage (length supply)) stages h.sound) f.one_each
      (recursion_from_All Keeps (zip (flat_arcs stages) flows) f.within) (recursion_from_All (Slack p) (zip (flat_arcs stages) flows) shows.slack));
}
