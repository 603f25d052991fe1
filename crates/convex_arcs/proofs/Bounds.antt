-- Amounts whose flows keep the bounds of the segments keep the bounds of the staged arcs.
use Rattle.std.specs.Prelude.{◌≡◌, ℕ, suc, ◌+◌, ◌≤◌, List, [], ◌∷◌, ◌++◌, length, map, take, drop}
use Rattle.std.specs.List.{AllByRecursion, zip}
use Rattle.std.proofs.Common.{refl, arith, sym, subst, ap, ◌∙◌}
use Rattle.std.proofs.lemmas.List.{length-append, length-map, length-take-le, length-drop}
use Rattle.std.proofs.lemmas.List.Elements.{recursion_from_All, All-from_recursion}
use Rattle.np_frac.specs.Ratio.{Ratio, zero_ratio, ◌+ᵣ◌, ◌≤ᵣ◌}
use Rattle.np_frac.proofs.RatioLaws.{+ᵣ_assoc, +ᵣ-zero, +ᵣ_at_most, ≤ᵣ_refl}
use Rattle.np_frac.proofs.Sums.{sum, total_is}
use Rattle.np_model.specs.declared.arc.Ends.{Ends}
use Rattle.np_model.specs.declared.arc.Upper.{Upper}
use Rattle.np_model.specs.declared.arc.Upper.TheVariants.{Finite, Infinite}
use Rattle.np_model.specs.declared.arc.NetArc.{NetArc}
use Rattle.np_model.specs.declared.scheme.Band.{Band}
use Rattle.np_model.specs.Network.Arcs.{IsAtMost, IsWithin}
use Rattle.np_model.specs.Scheme.Segments.{Stage, hull, last_end, end_after}
use Rattle.period_expand.specs.Expansion.{segment_count}
use Rattle.convex_arcs.specs.Segments.{band_arc, segment_arcs, flat_arcs}
use Rattle.convex_arcs.specs.Gathered.{amounts_of, AmountsFeasible}
use Rattle.convex_arcs.proofs.Exactly.{balances}

-- the amount keeps the bounds of the arc beside it
abbrev pub Keeps : NetArc × Ratio → Type 0
Keeps (a, q) = IsWithin a q

-- ---- along one stage

pub not_negative : (ends : Ends) (bands : List Band) (ys : List Ratio) → length ys ≡ length bands → AllByRecursion Keeps (zip (map (band_arc ends) bands) ys) →
    zero_ratio ≤ᵣ sum (λ y. y) ys
not_negative ends [] [] e h = ≤ᵣ_refl zero_ratio
not_negative ends [] (y ∷ ys) e h = absurd (omega (arith, e))
not_negative ends (band ∷ bands) [] e h = absurd (omega (arith, e))
not_negative ends (band ∷ bands) (y ∷ ys) e h =
    subst (λ (r : Ratio). r ≤ᵣ y +ᵣ sum (λ y. y) ys) (+ᵣ-zero zero_ratio) (+ᵣ_at_most h.0.0 (not_negative ends bands ys (omega (arith, e)) h.1))

pub at_most_after : (end x y : Ratio) (width : Upper) → x ≤ᵣ end → IsAtMost y width → IsAtMost (x +ᵣ y) (end_after end width)
at_most_after end x y (Finite width) h k = +ᵣ_at_most h k
at_most_after end x y Infinite h k = tt

at_most_last : (ends : Ends) (end : Upper) (bands : List Band) (x : Ratio) (ys : List Ratio) → length ys ≡ length bands → IsAtMost x end →
    AllByRecursion Keeps (zip (map (band_arc ends) bands) ys) → IsAtMost (x +ᵣ sum (λ y. y) ys) (last_end end bands)
at_most_last ends end [] x [] e h k = subst (λ (r : Ratio). IsAtMost r end) (sym (+ᵣ-zero x)) h
at_most_last ends end [] x (y ∷ ys) e h k = absurd (omega (arith, e))
at_most_last ends end (band ∷ bands) x [] e h k = absurd (omega (arith, e))
at_most_last ends Infinite (band ∷ bands) x (y ∷ ys) e h k = tt
at_most_last ends (Finite end) (band ∷ bands) x (y ∷ ys) e h k =
    let next = at_most_after end x y band.width h k.0.1 in
    subst (λ (r : Ratio). IsAtMost r (last_end (end_after end band.width) bands)) (+ᵣ_assoc x y (sum (λ y. y) ys))
    (at_most_last ends (end_after end band.width) bands (x +ᵣ y) ys (omega (arith, e)) next k.1)

stage_keeps : (s : Stage) (xs : List Ratio) → length xs ≡ segment_count s → AllByRecursion Keeps (zip (segment_arcs s) xs) → IsWithin (hull s) (sum (λ x. x) xs)
stage_keeps s [] e h = absurd (omega (arith, e))
stage_keeps s (x ∷ xs) e h =
    let some = not_negative s.ends s.bands xs (omega (arith, e)) h.1 in (
      subst (λ (r : Ratio). r ≤ᵣ x +ᵣ sum (λ x. x) xs) (+ᵣ-zero s.lower) (+ᵣ_at_most h.0.0 some),
      at_most_last s.ends s.upper s.bands x xs (omega (arith, e)) h.0.1 h.1,
    )

-- ---- along all

pub all_split : {A : Type 0} (P : A × Ratio → Type 0) (before after : List A) (xs : List Ratio) → length before ≤ length xs → AllByRecursion P (zip (before ++ after) xs) →
    AllByRecursion P (zip before (take (length before) xs)) × AllByRecursion P (zip after (drop (length before) xs))
all_split P [] after xs e h = (tt, h)
all_split P (a ∷ before) after [] e h = absurd (omega (arith, e))
all_split P (a ∷ before) after (x ∷ xs) e h =
    let rest = all_split P before after xs (omega (arith, e)) h.1 in ((h.0, rest.0), rest.1)

pub amounts-length : (stages : List Stage) (flows : List Ratio) → length (amounts_of stages flows) ≡ length stages
amounts-length [] flows = refl
amounts-length (s ∷ stages) flows = ap suc (amounts-length stages (drop (segment_count s) flows))

stages_keep : (stages : List Stage) (flows : List Ratio) → length flows ≡ length (flat_arcs stages) → AllByRecursion Keeps (zip (flat_arcs stages) flows) →
    AllByRecursion Keeps (zip (map hull stages) (amounts_of stages flows))
stages_keep [] flows e h = tt
stages_keep (s ∷ stages) flows e h =
    let size : length (segment_arcs s) ≡ segment_count s = omega (arith, length-map s.bands (band_arc s.ends)) in
    let whole : length flows ≡ length (segment_arcs s) + length (flat_arcs stages) = e ∙ length-append (segment_arcs s) (flat_arcs stages) in
    let own : length (take (segment_count s) flows) ≡ segment_count s = length-take-le (segment_count s) flows (omega arith) in
    let later : length (drop (segment_count s) flows) ≡ length (flat_arcs stages) = omega (arith, length-drop (segment_count s) flows) in
    let parts = all_split Keeps (segment_arcs s) (flat_arcs stages) flows (omega arith) h in
    let first = subst (λ (n : ℕ). AllByRecursion Keeps (zip (segment_arcs s) (take n flows))) size parts.0 in
    let rest = subst (λ (n : ℕ). AllByRecursion Keeps (zip (flat_arcs stages) (drop n flows))) size parts.1 in (
      subst (λ (r : Ratio). IsWithin (hull s) r) (sym (total_is (λ flow. flow) (take (segment_count s) flows))) (stage_keeps s (take (segment_count s) flows) own first),
      stages_keep stages (drop (segment_count s) flows) later rest,
    )

pub are_feasible : AmountsFeasible
are_feasible supply stages flows h = record {
  one_each = amounts-length stages flows ∙ sym (length-map stages hull);
  balanced = λ v below. balances stages flows h.one_each v ∙ h.balanced v below;
  within = All-from_recursion Keeps (zip (map hull stages) (amounts_of stages flows)) (stages_keep stages flows h.one_each (recursion_from_All Keeps (zip (flat_arcs stages) flows) h.within));
}
