-- Amounts filled into segments in order: feasible, at the same cost, and gathered back.
use Rattle.std.specs.Prelude.{◌≡◌, ℕ, List, [], ◌∷◌, ◌++◌, length, map, take, drop}
use Rattle.std.specs.List.{AllByRecursion, zip}
use Rattle.std.proofs.Common.{refl, arith, sym, subst, ap, ◌∙◌}
use Rattle.std.proofs.Math.Seq.{take-append_seam, drop-append_seam}
use Rattle.std.proofs.lemmas.List.{length-append, length-map}
use Rattle.std.proofs.lemmas.List.Elements.{recursion_from_All, All-from_recursion}
use Rattle.np_frac.specs.Ratio.{Ratio, zero_ratio, ◌+ᵣ◌, ◌*ᵣ◌, ◌≤ᵣ◌, total}
use Rattle.np_frac.proofs.RatioLaws.{+ᵣ_assoc, zero-+ᵣ, ≤ᵣ_same, ≤ᵣ_trans, ≤ᵣ_antisym, grows}
use Rattle.np_frac.proofs.Sums.{sum, total_is}
use Rattle.np_model.specs.declared.arc.Ends.{Ends}
use Rattle.np_model.specs.declared.arc.Upper.{Upper}
use Rattle.np_model.specs.declared.arc.Upper.TheVariants.{Finite, Infinite}
use Rattle.np_model.specs.declared.scheme.Band.{Band}
use Rattle.np_model.specs.Scheme.Segments.{AreReached, Stage, hull, segments_beyond, amount_in, cost_at, end_after, IsConvexFrom, IsValid}
use Rattle.np_model.specs.Network.Arcs.{IsAtMost, IsWithin, lesser, IsUnder}
use Rattle.np_model.specs.Network.Flows.{balance, plan_cost}
use Rattle.np_model.specs.Scheme.Convex.{StagesFeasible, stages_cost}
use Rattle.np_model.proofs.Convex.{lesser_within, lesser_least, under_end_after, part, part_not_negative, part_within, parts_are}
use Rattle.period_expand.specs.Expansion.{IsSoundStage, IsExpansion, segment_count}
use Rattle.convex_arcs.specs.Segments.{band_arc, segment_arcs, flat_arcs}
use Rattle.convex_arcs.specs.Gathered.{amounts_of}
use Rattle.convex_arcs.specs.Filled.{filled, filled_flows, FilledIsFeasible, FilledCostsTheSame, FilledGathersBack, GatheredIsLeast, LeastPlansFill}
use Rattle.convex_arcs.proofs.Exactly.{balances}
use Rattle.convex_arcs.proofs.Bounds.{Keeps, are_feasible}
use Rattle.convex_arcs.proofs.Costs.{without, paid, priced, cost_no_more}

-- ---- beyond an end

pub reached_after : (end : Ratio) (width : Upper) (bands : List Band) → AreReached width bands → AreReached (end_after end width) bands
reached_after end width [] h = tt
reached_after end (Finite width) (band ∷ bands) h = h
reached_after end Infinite (band ∷ bands) h = h

-- what lies in each segment
abbrev lying : Upper → List Band → Ratio → List Ratio
lying end bands x = map (λ g. amount_in g x) (segments_beyond end bands)

lying-length : (end : Upper) (bands : List Band) (x : Ratio) → AreReached end bands → length (lying end bands x) ≡ length bands
lying-length end [] x h = refl
lying-length Infinite (band ∷ bands) x h = absurd h
lying-length (Finite end) (band ∷ bands) x h =
    omega (arith, lying-length (end_after end band.width) bands x (reached_after end band.width bands h))

wide_enough : (start slope x : Ratio) (width : Upper) → IsUnder zero_ratio width → IsAtMost (part start (end_after start width) slope x) width
wide_enough start slope x (Finite width) h =
    subst (λ (r : Ratio). part start (end_after start (Finite width)) slope x ≤ᵣ r) (without start width) (part_within start (start +ᵣ width) slope x (grows start width h))
wide_enough start slope x Infinite h = tt

lying_keeps : (ends : Ends) (c : Ratio) (end : Upper) (bands : List Band) (x : Ratio) → IsConvexFrom c bands → AreReached end bands →
    AllByRecursion Keeps (zip (map (band_arc ends) bands) (lying end bands x))
lying_keeps ends c end [] x h r = tt
lying_keeps ends c Infinite (band ∷ bands) x h r = absurd r
lying_keeps ends c (Finite end) (band ∷ bands) x h r = (
  (part_not_negative end (end_after end band.width) band.slope x (under_end_after end band.width h.1), wide_enough end band.slope x band.width h.1),
  lying_keeps ends band.slope (end_after end band.width) bands x h.2 (reached_after end band.width bands r),
)

lying_paid : (ends : Ends) (end : Upper) (bands : List Band) (x : Ratio) → AreReached end bands →
    sum paid (zip (map (band_arc ends) bands) (lying end bands x)) ≡ sum (λ g. g.slope *ᵣ amount_in g x) (segments_beyond end bands)
lying_paid ends end [] x r = refl
lying_paid ends Infinite (band ∷ bands) x r = absurd r
lying_paid ends (Finite end) (band ∷ bands) x r =
    ap (λ t. band.slope *ᵣ part end (end_after end band.width) band.slope x +ᵣ t)
    (lying_paid ends (end_after end band.width) bands x (reached_after end band.width bands r))

sum_map : {A : Type 0} (f : A → Ratio) (xs : List A) → sum (λ y. y) (map f xs) ≡ sum f xs
sum_map f [] = refl
sum_map f (x ∷ xs) = ap (λ r. f x +ᵣ r) (sum_map f xs)

-- ---- one stage

upper_kept : (x : Ratio) (end : Upper) → IsAtMost (lesser x end) end
upper_kept x (Finite end) = lesser_within x end
upper_kept x Infinite = tt

filled-length : (s : Stage) (x : Ratio) → AreReached s.upper s.bands → length (filled s x) ≡ length (segment_arcs s)
filled-length s x r = omega (arith, lying-length s.upper s.bands x r, length-map s.bands (band_arc s.ends))

filled_keeps : (n : ℕ) (s : Stage) (x : Ratio) → IsSoundStage n s → IsWithin (hull s) x → AllByRecursion Keeps (zip (segment_arcs s) (filled s x))
filled_keeps n s x h k =
    ((lesser_least s.lower x s.upper k.0 h.convex.0, upper_kept x s.upper), lying_keeps s.ends s.cost s.upper s.bands x h.convex.1 h.reached)

filled_paid : (s : Stage) (x : Ratio) → AreReached s.upper s.bands → sum paid (zip (segment_arcs s) (filled s x)) ≡ cost_at s x
filled_paid s x r =
    ap (λ t. s.cost *ᵣ lesser x s.upper +ᵣ t)
    (lying_paid s.ends s.upper s.bands x r ∙ sym (total_is (λ g. g.slope *ᵣ amount_in g x) (segments_beyond s.upper s.bands)))

filled_sum : (n : ℕ) (s : Stage) (x : Ratio) → IsSoundStage n s → IsWithin (hull s) x → sum (λ y. y) (filled s x) ≡ x
filled_sum n s x h k =
    ap (λ t. lesser x s.upper +ᵣ t) (sum_map (λ g. amount_in g x) (segments_beyond s.upper s.bands)) ∙ parts_are x s.cost s.upper s.bands h.convex.1 k.1

-- ---- all stages

sum_joined : {A : Type 0} (f : A × Ratio → Ratio) (before after : List A) (xs ys : List Ratio) → length xs ≡ length before →
    sum f (zip (before ++ after) (xs ++ ys)) ≡ sum f (zip before xs) +ᵣ sum f (zip after ys)
sum_joined f [] after [] ys h = sym (zero-+ᵣ (sum f (zip after ys)))
sum_joined f [] after (x ∷ xs) ys h = absurd (omega (arith, h))
sum_joined f (a ∷ before) after [] ys h = absurd (omega (arith, h))
sum_joined f (a ∷ before) after (x ∷ xs) ys h =
    ap (λ r. f (a, x) +ᵣ r) (sum_joined f before after xs ys (omega (arith, h))) ∙ sym (+ᵣ_assoc (f (a, x)) (sum f (zip before xs)) (sum f (zip after ys)))

all_joined : {A : Type 0} (P : A × Ratio → Type 0) (before after : List A) (xs ys : List Ratio) → length xs ≡ length before →
    AllByRecursion P (zip before xs) → AllByRecursion P (zip after ys) → AllByRecursion P (zip (before ++ after) (xs ++ ys))
all_joined P [] after [] ys e h k = k
all_joined P [] after (x ∷ xs) ys e h k = absurd (omega (arith, e))
all_joined P (a ∷ before) after [] ys e h k = absurd (omega (arith, e))
all_joined P (a ∷ before) after (x ∷ xs) ys e h k = (h.0, all_joined P before after xs ys (omega (arith, e)) h.1 k)

flows-length : (n : ℕ) (stages : List Stage) (x : List Ratio) → AllByRecursion (IsSoundStage n) stages → length x ≡ length stages → length (filled_flows stages x) ≡ length (flat_arcs stages)
flows-length n [] x h e = refl
flows-length n (s ∷ stages) [] h e = absurd (omega (arith, e))
flows-length n (s ∷ stages) (q ∷ x) h e =
    omega (arith, length-append (filled s q) (filled_flows stages x), length-append (segment_arcs s) (flat_arcs stages), filled-length s q h.0.reached, flows-length n stages x h.1 (omega (arith, e)))

flows_keep : (n : ℕ) (stages : List Stage) (x : List Ratio) → AllByRecursion (IsSoundStage n) stages → length x ≡ length stages → AllByRecursion Keeps (zip (map hull stages) x) →
    AllByRecursion Keeps (zip (flat_arcs stages) (filled_flows stages x))
flows_keep n [] x h e k = tt
flows_keep n (s ∷ stages) [] h e k = absurd (omega (arith, e))
flows_keep n (s ∷ stages) (q ∷ x) h e k =
    all_joined Keeps (segment_arcs s) (flat_arcs stages) (filled s q) (filled_flows stages x) (filled-length s q h.0.reached) (filled_keeps n s q h.0 k.0)
    (flows_keep n stages x h.1 (omega (arith, e)) k.1)

flows_paid : (n : ℕ) (stages : List Stage) (x : List Ratio) → AllByRecursion (IsSoundStage n) stages → length x ≡ length stages →
    sum paid (zip (flat_arcs stages) (filled_flows stages x)) ≡ sum priced (zip stages x)
flows_paid n [] x h e = refl
flows_paid n (s ∷ stages) [] h e = absurd (omega (arith, e))
flows_paid n (s ∷ stages) (q ∷ x) h e =
    sum_joined paid (segment_arcs s) (flat_arcs stages) (filled s q) (filled_flows stages x) (filled-length s q h.0.reached)
    ∙ ap (λ r. r +ᵣ sum paid (zip (flat_arcs stages) (filled_flows stages x))) (filled_paid s q h.0.reached)
    ∙ ap (λ r. cost_at s q +ᵣ r) (flows_paid n stages x h.1 (omega (arith, e)))

flows_gather : (n : ℕ) (stages : List Stage) (x : List Ratio) → AllByRecursion (IsSoundStage n) stages → length x ≡ length stages → AllByRecursion Keeps (zip (map hull stages) x) →
    amounts_of stages (filled_flows stages x) ≡ x
flows_gather n [] [] h e k = refl
flows_gather n [] (q ∷ x) h e k = absurd (omega (arith, e))
flows_gather n (s ∷ stages) [] h e k = absurd (omega (arith, e))
flows_gather n (s ∷ stages) (q ∷ x) h e k =
    let all = filled s q ++ filled_flows stages x in
    let size : segment_count s ≡ length (filled s q) = omega (arith, filled-length s q h.0.reached, length-map s.bands (band_arc s.ends)) in
    let own : take (segment_count s) all ≡ filled s q = ap (λ (m : ℕ). take m all) size ∙ take-append_seam (filled s q) (filled_flows stages x) in
    let later : drop (segment_count s) all ≡ filled_flows stages x = ap (λ (m : ℕ). drop m all) size ∙ drop-append_seam (filled s q) (filled_flows stages x) in
    ap (λ ys. total (λ flow. flow) ys ∷ amounts_of stages (drop (segment_count s) all)) own
    ∙ ap (λ ys. total (λ flow. flow) (filled s q) ∷ amounts_of stages ys) later
    ∙ ap (λ r. r ∷ amounts_of stages (filled_flows stages x)) (total_is (λ flow. flow) (filled s q) ∙ filled_sum n s q h.0 k.0)
    ∙ ap (λ ys. q ∷ ys) (flows_gather n stages x h.1 (omega (arith, e)) k.1)

-- ---- the laws

-- the facts of a feasible plan, by recursion
record Plain (supply : List Ratio) (stages : List Stage) (x : List Ratio) : Type 0 where
  sound : AllByRecursion (IsSoundStage (length supply)) stages
  one_each : length x ≡ length stages
  keep : AllByRecursion Keeps (zip (map hull stages) x)

plain : (supply : List Ratio) (stages : List Stage) (x : List Ratio) → IsExpansion supply stages → StagesFeasible supply stages x → Plain supply stages x
plain supply stages x h f = record {
  sound = recursion_from_All (IsSoundStage (length supply)) stages h.sound;
  one_each = f.one_each ∙ length-map stages hull;
  keep = recursion_from_All Keeps (zip (map hull stages) x) f.within;
}

pub gathers_back : FilledGathersBack
gathers_back supply stages x h f = let p = plain supply stages x h f in flows_gather (length supply) stages x p.sound p.one_each p.keep

pub costs_the_same : FilledCostsTheSame
costs_the_same supply stages x h f =
    let p = plain supply stages x h f in
    total_is paid (zip (flat_arcs stages) (filled_flows stages x)) ∙ flows_paid (length supply) stages x p.sound p.one_each ∙ sym (total_is priced (zip stages x))

pub fills_feasibly : FilledIsFeasible
fills_feasibly supply stages x h f =
    let p = plain supply stages x h f in
    let long = flows-length (length supply) stages x p.sound p.one_each in
    record {
      one_each = long;
      balanced = λ v below. sym (balances stages (filled_flows stages x) long v) ∙ ap (λ ys. balance (map hull stages) ys v) (gathers_back supply stages x h f) ∙ f.balanced v below;
      within = All-from_recursion Keeps (zip (flat_arcs stages) (filled_flows stages x)) (flows_keep (length supply) stages x p.sound p.one_each p.keep);
    }

valid_each : (n : ℕ) (stages : List Stage) → AllByRecursion (IsSoundStage n) stages → AllByRecursion IsValid stages
valid_each n [] h = tt
valid_each n (s ∷ stages) h = (h.0.convex, valid_each n stages h.1)

pub least_on_both_sides : GatheredIsLeast
least_on_both_sides supply stages flows h l =
    let sound = recursion_from_All (IsSoundStage (length supply)) stages h.sound in
    let valid = All-from_recursion IsValid stages (valid_each (length supply) stages sound) in
    let amounts = amounts_of stages flows in
    let feasible = are_feasible supply stages flows l.feasible in
    let no_more = cost_no_more supply stages flows valid l.feasible in
    let below : (y : List Ratio) → StagesFeasible supply stages y → plan_cost (flat_arcs stages) flows ≤ᵣ stages_cost stages y =
    λ y f. ≤ᵣ_trans (l.least (filled_flows stages y) (fills_feasibly supply stages y h f)) (≤ᵣ_same (costs_the_same supply stages y h f)) in (
      record { feasible = feasible; least = λ y f. ≤ᵣ_trans no_more (below y f) },
      ≤ᵣ_antisym no_more (below amounts feasible),
    )

pub least_plans_fill : LeastPlansFill
least_plans_fill supply stages x h l =
    let sound = recursion_from_All (IsSoundStage (length supply)) stages h.sound in
    let valid = All-from_recursion IsValid stages (valid_each (length supply) stages sound) in
    record {
      feasible = fills_feasibly supply stages x h l.feasible;
      least = λ y f. ≤ᵣ_trans (≤ᵣ_same (costs_the_same supply stages x h l.feasible))
          (≤ᵣ_trans (l.least (amounts_of stages y) (are_feasible supply stages y f)) (cost_no_more supply stages y valid f));
    }
