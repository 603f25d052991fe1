-- A plan of staged arcs, moved along a ray: its convex cost falls without end.
use Rattle.std.specs.Prelude.{◌≡◌, length, List, [], ◌∷◌, map}
use Rattle.std.specs.List.{All, AllByRecursion, zip}
use Rattle.std.proofs.Common.{arith, inl, inr, sym, ap, subst, ◌∙◌}
use Rattle.std.proofs.lemmas.List.Elements.{recursion_from_All}
use Rattle.np_frac.specs.Ratio.{Ratio, zero_ratio, ◌≤ᵣ◌, ◌+ᵣ◌, ◌-ᵣ◌, ◌*ᵣ◌}
use Rattle.np_frac.proofs.Parts.{by2, operations, at_most, at_most_is}
use Rattle.np_frac.proofs.RatioLaws.{*ᵣ-+ᵣ, *ᵣ_assoc, *ᵣ_comm, *ᵣ-zero, +ᵣ-zero, +ᵣ_assoc, +ᵣ_middle, ≤ᵣ_refl, ≤ᵣ_same, ≤ᵣ_trans, ≤ᵣ-<ᵣ_trans, <ᵣ-≤ᵣ_trans, +ᵣ_at_most, below_or, *ᵣ_at_most, *ᵣ_at_least, minus_at_most, enough}
use Rattle.np_frac.proofs.Sums.{sum, total_is, total_zip_map, all_zip_map, length-map}
use Rattle.np_model.specs.declared.arc.Upper.{Upper}
use Rattle.np_model.specs.declared.arc.Upper.TheVariants.{Finite, Infinite}
use Rattle.np_model.specs.declared.scheme.Band.{Band}
use Rattle.np_model.specs.Network.Arcs.{IsAtMost, IsWithin, IsUnder}
use Rattle.np_model.specs.Network.Flows.{plan_cost}
use Rattle.np_model.specs.Scheme.Segments.{Stage, end_after, segments_beyond, last_end, last_slope, amount_in, cost_at, hull, IsConvexFrom, IsValid}
use Rattle.np_model.specs.Scheme.Convex.{hull_net, StagesFeasible, StagesRay, StagesFall, stages_cost}
use Rattle.np_model.proofs.Convex.{lesser_mono, under_end_after, part, part_is, part_none, part_not_negative, cost_beyond, cost_beyond_is}
use Rattle.np_model.proofs.Rays.{along, feasible_along}

-- no slope is above the last
slope_most : (slope : Ratio) (bands : List Band) → IsConvexFrom slope bands → slope ≤ᵣ last_slope slope bands
slope_most slope [] convex = ≤ᵣ_refl slope
slope_most slope (b ∷ bs) convex = ≤ᵣ_trans convex.0 (slope_most b.slope bs convex.2)

not_positive : {a c : Ratio} → a ≤ᵣ c → a -ᵣ c ≤ᵣ zero_ratio
not_positive {a} {c} = by2 (λ a c. a ≤ᵣ c → a -ᵣ c ≤ᵣ zero_ratio)
    (λ x y h. simp operations (at_most _ _ (omega (arith, at_most_is x y h)))) a c

-- more of the amount lies in a segment where the amount is more
part_mono : (start : Ratio) (end : Upper) (slope x y : Ratio) → IsUnder start end → x ≤ᵣ y → part start end slope x ≤ᵣ part start end slope y
part_mono start end slope x y under h =
    elim (below_or start x) [
      | inl past ↦ rw (part_is start end slope x past, part_is start end slope y (<ᵣ-≤ᵣ_trans past h)) (minus_at_most start (lesser_mono x y end h))
      | inr before ↦ rw (part_none start end slope x before) (part_not_negative start end slope y under)
    ]

-- what the segments cost beyond the last slope does not rise
parts_fall : (last slope x y : Ratio) (end : Upper) (bands : List Band) → IsConvexFrom slope bands → last_slope slope bands ≤ᵣ last → x ≤ᵣ y
    → sum (λ g. (g.slope -ᵣ last) *ᵣ amount_in g y) (segments_beyond end bands) ≤ᵣ sum (λ g. (g.slope -ᵣ last) *ᵣ amount_in g x) (segments_beyond end bands)
parts_fall last slope x y end [] convex most h = ≤ᵣ_refl zero_ratio
parts_fall last slope x y Infinite (b ∷ bs) convex most h = ≤ᵣ_refl zero_ratio
parts_fall last slope x y (Finite e) (b ∷ bs) convex most h =
    +ᵣ_at_most
    (*ᵣ_at_least (not_positive (≤ᵣ_trans (slope_most b.slope bs convex.2) most)) (part_mono e (end_after e b.width) b.slope x y (under_end_after e b.width convex.1) h))
    (parts_fall last b.slope x y (end_after e b.width) bs convex.2 most h)

-- from an amount to a greater one the cost rises by the last slope at most
cost_rises : (s : Stage) (x y : Ratio) → IsValid s → IsAtMost x (last_end s.upper s.bands) → IsAtMost y (last_end s.upper s.bands) → x ≤ᵣ y
    → cost_at s y ≤ᵣ cost_beyond (last_slope s.cost s.bands) s x +ᵣ last_slope s.cost s.bands *ᵣ y
cost_rises s x y valid within over h =
    let last : Ratio = last_slope s.cost s.bands in
    let gs = segments_beyond s.upper s.bands in
    rw (cost_beyond_is last s y valid over)
    (+ᵣ_at_most
    (+ᵣ_at_most (*ᵣ_at_least (not_positive (slope_most s.cost s.bands valid.1)) (lesser_mono x y s.upper h))
    (rw (total_is (λ g. (g.slope -ᵣ last) *ᵣ amount_in g y) gs, total_is (λ g. (g.slope -ᵣ last) *ᵣ amount_in g x) gs) (parts_fall last s.cost x y s.upper s.bands valid.1 (≤ᵣ_refl last) h)))
    (≤ᵣ_refl (last *ᵣ y)))

cost_along : (s : Stage) (t x d : Ratio) → IsValid s → IsAtMost x (last_end s.upper s.bands) → IsAtMost (x +ᵣ t *ᵣ d) (last_end s.upper s.bands) → zero_ratio ≤ᵣ t → zero_ratio ≤ᵣ d
    → cost_at s (x +ᵣ t *ᵣ d) ≤ᵣ cost_at s x +ᵣ t *ᵣ (last_slope s.cost s.bands *ᵣ d)
cost_along s t x d valid within over far sign =
    let last : Ratio = last_slope s.cost s.bands in
    let more : x ≤ᵣ x +ᵣ t *ᵣ d = subst (λ z. z ≤ᵣ x +ᵣ t *ᵣ d) (+ᵣ-zero x) (+ᵣ_at_most (≤ᵣ_refl x) (subst (λ z. z ≤ᵣ t *ᵣ d) (*ᵣ-zero t) (*ᵣ_at_most far sign))) in
    let swapped : last *ᵣ (t *ᵣ d) ≡ t *ᵣ (last *ᵣ d) = sym (*ᵣ_assoc last t d) ∙ ap (λ z. z *ᵣ d) (*ᵣ_comm last t) ∙ *ᵣ_assoc t last d in
    ≤ᵣ_trans (cost_rises s x (x +ᵣ t *ᵣ d) valid within over more)
    (≤ᵣ_same (rw (cost_beyond_is last s x valid within, *ᵣ-+ᵣ last x (t *ᵣ d), swapped) (sym (+ᵣ_assoc (cost_beyond last s x) (last *ᵣ x) (t *ᵣ (last *ᵣ d))))))

abbrev rise : Stage × Ratio → Ratio
rise (s, d) = last_slope s.cost s.bands *ᵣ d

costs_along : (t : Ratio) (stages : List Stage) (xs ds : List Ratio) → zero_ratio ≤ᵣ t → length xs ≡ length stages → length ds ≡ length stages
    → AllByRecursion IsValid stages → AllByRecursion (λ (s, q). IsWithin (hull s) q) (zip stages xs) → AllByRecursion (λ (s, q). IsWithin (hull s) q) (zip stages (along t xs ds)) → AllByRecursion (λ q. zero_ratio ≤ᵣ q) ds
    → sum (λ (s, q). cost_at s q) (zip stages (along t xs ds)) ≤ᵣ sum (λ (s, q). cost_at s q) (zip stages xs) +ᵣ t *ᵣ sum rise (zip stages ds)
costs_along t [] xs ds far e f valid within over sign = ≤ᵣ_same (rw (*ᵣ-zero t) (sym (+ᵣ-zero zero_ratio)))
costs_along t (s ∷ stages) [] ds far e f valid within over sign = absurd (omega arith)
costs_along t (s ∷ stages) (x ∷ xs) [] far e f valid within over sign = absurd (omega arith)
costs_along t (s ∷ stages) (x ∷ xs) (d ∷ ds) far e f valid within over sign =
    let here = cost_along s t x d valid.0 within.0.1 over.0.1 far sign.0 in
    let rest = costs_along t stages xs ds far (omega arith) (omega arith) valid.1 within.1 over.1 sign.1 in
    ≤ᵣ_trans (+ᵣ_at_most here rest)
    (≤ᵣ_same (+ᵣ_middle _ _ _ _ ∙ ap (λ z. (cost_at s x +ᵣ sum (λ (w, q). cost_at w q) (zip stages xs)) +ᵣ z) (sym (*ᵣ-+ᵣ t (rise (s, d)) (sum rise (zip stages ds))))))

stages_along : (supply : List Ratio) (stages : List Stage) (x d : List Ratio) (t : Ratio) → All IsValid stages → StagesRay supply stages x d → zero_ratio ≤ᵣ t
    → stages_cost stages (along t x d) ≤ᵣ stages_cost stages x +ᵣ t *ᵣ plan_cost (map hull stages) d
stages_along supply stages x d t valid ray far =
    let moved : StagesFeasible supply stages (along t x d) = feasible_along (hull_net supply stages) x d t far ray in
    let within = λ (z : List Ratio) (h : StagesFeasible supply stages z). recursion_from_All (λ (s, q). IsWithin (hull s) q) (zip stages z) (all_zip_map (λ (a, q). IsWithin a q) hull stages z h.within) in
    let slopes : plan_cost (map hull stages) d ≡ sum rise (zip stages d) = total_zip_map (λ (a, q). a.cost *ᵣ q) hull stages d ∙ total_is rise (zip stages d) in
    rw (total_is (λ (s, q). cost_at s q) (zip stages (along t x d)), total_is (λ (s, q). cost_at s q) (zip stages x), slopes)
    (costs_along t stages x d far (ray.feasible.one_each ∙ length-map hull stages) (ray.one_each ∙ length-map hull stages)
    (recursion_from_All IsValid stages valid) (within x ray.feasible) (within (along t x d) moved) (recursion_from_All (λ q. zero_ratio ≤ᵣ q) d ray.not_negative))

pub stages_fall : StagesFall
stages_fall supply stages x d valid ray c =
    let far = enough (stages_cost stages x) (plan_cost (map hull stages) d) c ray.falls in (
      along far.0 x d,
      feasible_along (hull_net supply stages) x d far.0 far.1 ray,
      ≤ᵣ-<ᵣ_trans {b = stages_cost stages x +ᵣ far.0 *ᵣ plan_cost (map hull stages) d} (stages_along supply stages x d far.0 valid ray far.1) far.2,
    )
