-- Prices that certify that no flows of segments are feasible certify it of plans.
use Rattle.std.specs.Prelude.{◌≡◌, true, false, List, [], ◌∷◌, ◌++◌, map}
use Rattle.std.specs.List.{AllByRecursion, enumerate_from}
use Rattle.std.proofs.Common.{refl, sym, subst, ap, ◌∙◌, inl, inr}
use Rattle.std.proofs.lemmas.Bool.{cases_Bool}
use Rattle.std.proofs.lemmas.List.Elements.{recursion_from_All, All-from_recursion}
use Rattle.np_frac.specs.Ratio.{Ratio, zero_ratio, ◌+ᵣ◌, ◌*ᵣ◌, ◌<ᵣ◌, is_below, total}
use Rattle.np_frac.proofs.RatioLaws.{+ᵣ_assoc, +ᵣ-zero, zero-+ᵣ, *ᵣ-+ᵣ, *ᵣ-zero, is_below_true}
use Rattle.np_frac.proofs.Sums.{sum, total_is}
use Rattle.np_model.specs.declared.arc.Ends.{Ends}
use Rattle.np_model.specs.declared.arc.Upper.{Upper}
use Rattle.np_model.specs.declared.arc.Upper.TheVariants.{Finite, Infinite}
use Rattle.np_model.specs.declared.arc.NetArc.{NetArc}
use Rattle.np_model.specs.declared.scheme.Band.{Band}
use Rattle.np_model.specs.Network.Arcs.{IsFinite, bound_of}
use Rattle.np_model.specs.Network.Duality.{least_worth, reduced}
use Rattle.np_model.specs.Network.Flows.{at}
use Rattle.np_model.specs.Scheme.Segments.{Stage, hull, last_end, end_after}
use Rattle.convex_arcs.specs.Segments.{band_arc, segment_arcs, flat_arcs}
use Rattle.convex_arcs.specs.Filled.{ForbidsPlans}

-- an upper bound where the reduced cost for cost 0 is below 0
abbrev Bounded : List Ratio → NetArc → Type 0
Bounded p a = reduced p a.ends zero_ratio <ᵣ zero_ratio → IsFinite a.upper

abbrev worth : List Ratio → NetArc → Ratio
worth p a = least_worth (reduced p a.ends zero_ratio) a

-- ---- along one stage

last_finite : (p : List Ratio) (ends : Ends) (end : Upper) (bands : List Band) → reduced p ends zero_ratio <ᵣ zero_ratio → IsFinite end →
    AllByRecursion (Bounded p) (map (band_arc ends) bands) → IsFinite (last_end end bands)
last_finite p ends end [] below some h = some
last_finite p ends Infinite (band ∷ bands) below some h = some
last_finite p ends (Finite end) (band ∷ bands) below some h = last_finite p ends (end_after end band.width) bands below (after band.width (h.0 below)) h.1
  where
    after : (width : Upper) → IsFinite width → IsFinite (end_after end width)
    after (Finite width) k = tt
    after Infinite k = k

above_worth : (p : List Ratio) (ends : Ends) (bands : List Band) → is_below zero_ratio (reduced p ends zero_ratio) ≡ true → sum (worth p) (map (band_arc ends) bands) ≡ zero_ratio
above_worth p ends [] t = refl
above_worth p ends (band ∷ bands) t =
    let rest = above_worth p ends bands t in
    rw (t, rest, *ᵣ-zero (reduced p ends zero_ratio)) (+ᵣ-zero zero_ratio)

even_worth : (p : List Ratio) (ends : Ends) (bands : List Band) → is_below zero_ratio (reduced p ends zero_ratio) ≡ false → is_below (reduced p ends zero_ratio) zero_ratio ≡ false →
    sum (worth p) (map (band_arc ends) bands) ≡ zero_ratio
even_worth p ends [] f g = refl
even_worth p ends (band ∷ bands) f g = let rest = even_worth p ends bands f g in rw (f, g, rest) (+ᵣ-zero zero_ratio)

-- a band more, from any end
with_band : (p : List Ratio) (ends : Ends) (end : Ratio) (slope : Ratio) (width : Upper) (bands : List Band) → is_below zero_ratio (reduced p ends zero_ratio) ≡ false →
    is_below (reduced p ends zero_ratio) zero_ratio ≡ true → IsFinite width →
    ((e : Ratio) → reduced p ends zero_ratio *ᵣ e +ᵣ sum (worth p) (map (band_arc ends) bands) ≡ reduced p ends zero_ratio *ᵣ bound_of (last_end (Finite e) bands)) →
    reduced p ends zero_ratio *ᵣ end +ᵣ (worth p (band_arc ends (record { width = width; slope = slope })) +ᵣ sum (worth p) (map (band_arc ends) bands))
    ≡ reduced p ends zero_ratio *ᵣ bound_of (last_end (end_after end width) bands)
with_band p ends end slope (Finite width) bands f t some rest =
    let r = reduced p ends zero_ratio in
    let others = sum (worth p) (map (band_arc ends) bands) in
    let here : worth p (band_arc ends (record { width = Finite width; slope = slope })) ≡ r *ᵣ width = rw (f, t) refl in
    ap (λ q. r *ᵣ end +ᵣ (q +ᵣ others)) here ∙ sym (+ᵣ_assoc (r *ᵣ end) (r *ᵣ width) others) ∙ ap (λ q. q +ᵣ others) (sym (*ᵣ-+ᵣ r end width)) ∙ rest (end +ᵣ width)
with_band p ends end slope Infinite bands f t some rest = absurd some

below_worth : (p : List Ratio) (ends : Ends) (end : Ratio) (bands : List Band) → is_below zero_ratio (reduced p ends zero_ratio) ≡ false → is_below (reduced p ends zero_ratio) zero_ratio ≡ true →
    AllByRecursion (Bounded p) (map (band_arc ends) bands) →
    reduced p ends zero_ratio *ᵣ end +ᵣ sum (worth p) (map (band_arc ends) bands) ≡ reduced p ends zero_ratio *ᵣ bound_of (last_end (Finite end) bands)
below_worth p ends end [] f t h = +ᵣ-zero (reduced p ends zero_ratio *ᵣ end)
below_worth p ends end (band ∷ bands) f t h =
    with_band p ends end band.slope band.width bands f t (h.0 (is_below_true (reduced p ends zero_ratio) zero_ratio t)) (λ e. below_worth p ends e bands f t h.1)

from_upper : (p : List Ratio) (ends : Ends) (upper : Upper) (bands : List Band) → is_below zero_ratio (reduced p ends zero_ratio) ≡ false → is_below (reduced p ends zero_ratio) zero_ratio ≡ true →
    IsFinite upper → AllByRecursion (Bounded p) (map (band_arc ends) bands) →
    reduced p ends zero_ratio *ᵣ bound_of upper +ᵣ sum (worth p) (map (band_arc ends) bands) ≡ reduced p ends zero_ratio *ᵣ bound_of (last_end upper bands)
from_upper p ends (Finite upper) bands f t some h = below_worth p ends upper bands f t h
from_upper p ends Infinite bands f t some h = absurd some

stage_worth : (p : List Ratio) (s : Stage) → AllByRecursion (Bounded p) (segment_arcs s) → sum (worth p) (segment_arcs s) ≡ worth p (hull s)
stage_worth p s h = elim (cases_Bool (is_below zero_ratio (reduced p s.ends zero_ratio))) [
  | inl t ↦ let rest = above_worth p s.ends s.bands t in rw (t, rest) (+ᵣ-zero (reduced p s.ends zero_ratio *ᵣ s.lower))
  | inr f ↦ elim (cases_Bool (is_below (reduced p s.ends zero_ratio) zero_ratio)) [
    | inl t ↦ rw (f, t) (from_upper p s.ends s.upper s.bands f t (h.0 (is_below_true (reduced p s.ends zero_ratio) zero_ratio t)) h.1)
    | inr g ↦ let rest = even_worth p s.ends s.bands f g in rw (f, g, rest) (+ᵣ-zero zero_ratio)
  ]
]

-- ---- along all

sum-append : {A : Type 0} (f : A → Ratio) (xs ys : List A) → sum f (xs ++ ys) ≡ sum f xs +ᵣ sum f ys
sum-append f [] ys = sym (zero-+ᵣ (sum f ys))
sum-append f (x ∷ xs) ys = ap (λ r. f x +ᵣ r) (sum-append f xs ys) ∙ sym (+ᵣ_assoc (f x) (sum f xs) (sum f ys))

all_parts : {A : Type 0} (P : A → Type 0) (xs ys : List A) → AllByRecursion P (xs ++ ys) → AllByRecursion P xs × AllByRecursion P ys
all_parts P [] ys h = (tt, h)
all_parts P (x ∷ xs) ys h = let rest = all_parts P xs ys h.1 in ((h.0, rest.0), rest.1)

stages_worth : (p : List Ratio) (stages : List Stage) → AllByRecursion (Bounded p) (flat_arcs stages) → sum (worth p) (map hull stages) ≡ sum (worth p) (flat_arcs stages)
stages_worth p [] h = refl
stages_worth p (s ∷ stages) h =
    let parts = all_parts (Bounded p) (segment_arcs s) (flat_arcs stages) h in
    ap (λ r. r +ᵣ sum (worth p) (map hull stages)) (sym (stage_worth p s parts.0)) ∙ ap (λ r. sum (worth p) (segment_arcs s) +ᵣ r) (stages_worth p stages parts.1)
    ∙ sym (sum-append (worth p) (segment_arcs s) (flat_arcs stages))

stages_bounded : (p : List Ratio) (stages : List Stage) → AllByRecursion (Bounded p) (flat_arcs stages) → AllByRecursion (Bounded p) (map hull stages)
stages_bounded p [] h = tt
stages_bounded p (s ∷ stages) h =
    let parts = all_parts (Bounded p) (segment_arcs s) (flat_arcs stages) h in
    ((λ below. last_finite p s.ends s.upper s.bands below (parts.0.0 below) parts.0.1), stages_bounded p stages parts.1)

pub forbidden_on_both_sides : ForbidsPlans
forbidden_on_both_sides supply stages p h =
    let bounded = recursion_from_All (Bounded p) (flat_arcs stages) h.finite in
    let supplied = total (λ (v, potential). potential *ᵣ at supply v) (enumerate_from 0 p) in
    let same = ap (λ r. supplied +ᵣ r) (total_is (worth p) (map hull stages) ∙ stages_worth p stages bounded ∙ sym (total_is (worth p) (flat_arcs stages))) in (
      record {
        one_each = h.one_each;
        finite = All-from_recursion (Bounded p) (map hull stages) (stages_bounded p stages bounded);
        gap_above = subst (λ (r : Ratio). zero_ratio <ᵣ r) (sym same) h.gap_above;
      },
      same,
    )
