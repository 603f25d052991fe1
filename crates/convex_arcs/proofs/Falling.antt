-- A ray of the flows of segments gives one of the amounts.
use Rattle.std.specs.Prelude.{◌≡◌, ℕ, ◌+◌, List, [], ◌∷◌, length, map, take, drop}
use Rattle.std.specs.List.{AllByRecursion, zip}
use Rattle.std.proofs.Common.{refl, arith, sym, subst, ap, ◌∙◌, inl, inr}
use Rattle.std.proofs.lemmas.List.{length-append, length-map, length-take-le, length-drop}
use Rattle.std.proofs.lemmas.List.Elements.{recursion_from_All, All-from_recursion}
use Rattle.np_frac.specs.Ratio.{Ratio, zero_ratio, ◌+ᵣ◌, ◌*ᵣ◌, ◌≤ᵣ◌, ◌<ᵣ◌}
use Rattle.np_frac.proofs.RatioLaws.{+ᵣ-zero, zero-+ᵣ, *ᵣ-zero, ≤ᵣ_antisym, below_or}
use Rattle.np_frac.proofs.Sums.{sum, total_is}
use Rattle.np_model.specs.declared.arc.Ends.{Ends}
use Rattle.np_model.specs.declared.arc.Upper.{Upper}
use Rattle.np_model.specs.declared.arc.Upper.TheVariants.{Finite, Infinite}
use Rattle.np_model.specs.declared.arc.NetArc.{NetArc}
use Rattle.np_model.specs.declared.scheme.Band.{Band}
use Rattle.np_model.specs.Network.Flows.{plan_cost}
use Rattle.np_model.specs.Scheme.Segments.{AreReached, Stage, hull, last_end, last_slope, end_after}
use Rattle.period_expand.specs.Expansion.{IsSoundStage, segment_count}
use Rattle.convex_arcs.specs.Segments.{band_arc, segment_arcs, flat_arcs}
use Rattle.convex_arcs.specs.Gathered.{amounts_of}
use Rattle.convex_arcs.specs.Filled.{GatheredFalls}
use Rattle.convex_arcs.proofs.Exactly.{balances, sum_split}
use Rattle.convex_arcs.proofs.Bounds.{are_feasible, all_split, amounts-length}
use Rattle.convex_arcs.proofs.Costs.{paid}
use Rattle.convex_arcs.proofs.Filling.{reached_after}

-- what is asked of an arc beside its amount in a ray
abbrev Runs : NetArc × Ratio → Type 0
Runs (a, q) = (zero_ratio ≤ᵣ q) × (zero_ratio <ᵣ q → a.upper ≡ Infinite)

-- nothing runs where there is an upper bound
still : (q end : Ratio) → zero_ratio ≤ᵣ q → (zero_ratio <ᵣ q → Finite end ≡ Infinite) → q ≡ zero_ratio
still q end some open_end = elim (below_or zero_ratio q) [ inl above ↦ absurd (bound_is (open_end above)) | inr under ↦ ≤ᵣ_antisym under some ]
  where
    bound_is : Finite end ≡ Infinite → ⊥
    bound_is e = cc

-- a segment and those after it: what runs is at the last slope, and only without a last end
record Along (upper : Upper) (cost : Ratio) (ends : Ends) (bands : List Band) (q : Ratio) (ys : List Ratio) : Type 0 where
  some : zero_ratio ≤ᵣ q +ᵣ sum (λ y. y) ys
  open_ended : zero_ratio <ᵣ q +ᵣ sum (λ y. y) ys → last_end upper bands ≡ Infinite
  costs : last_slope cost bands *ᵣ (q +ᵣ sum (λ y. y) ys) ≡ cost *ᵣ q +ᵣ sum paid (zip (map (band_arc ends) bands) ys)

along : (upper : Upper) (cost : Ratio) (ends : Ends) (bands : List Band) (q : Ratio) (ys : List Ratio) → AreReached upper bands → length ys ≡ length bands → zero_ratio ≤ᵣ q →
    (zero_ratio <ᵣ q → upper ≡ Infinite) → AllByRecursion Runs (zip (map (band_arc ends) bands) ys) → Along upper cost ends bands q ys
along upper cost ends [] q [] r e h k l = record {
  some = subst (λ (x : Ratio). zero_ratio ≤ᵣ x) (sym (+ᵣ-zero q)) h;
  open_ended = λ above. k (subst (λ (x : Ratio). zero_ratio <ᵣ x) (+ᵣ-zero q) above);
  costs = ap (λ x. cost *ᵣ x) (+ᵣ-zero q) ∙ sym (+ᵣ-zero (cost *ᵣ q));
}
along upper cost ends [] q (y ∷ ys) r e h k l = absurd (omega (arith, e))
along upper cost ends (band ∷ bands) q [] r e h k l = absurd (omega (arith, e))
along Infinite cost ends (band ∷ bands) q (y ∷ ys) r e h k l = absurd r
along (Finite end) cost ends (band ∷ bands) q (y ∷ ys) r e h k l =
    let none = still q end h k in
    let after = y +ᵣ sum (λ y. y) ys in
    let same : q +ᵣ after ≡ after = ap (λ x. x +ᵣ after) none ∙ zero-+ᵣ after in
    let next = end_after end band.width in
    let rest = along next band.slope ends bands y ys (reached_after end band.width bands r) (omega (arith, e)) l.0.0 (λ above. ap (end_after end) (l.0.1 above)) l.1 in
    let others = band.slope *ᵣ y +ᵣ sum paid (zip (map (band_arc ends) bands) ys) in
    record {
      some = subst (λ (x : Ratio). zero_ratio ≤ᵣ x) (sym same) rest.some;
      open_ended = λ above. rest.open_ended (subst (λ (x : Ratio). zero_ratio <ᵣ x) same above);
      costs =
          ap (λ x. last_slope band.slope bands *ᵣ x) same ∙ rest.costs ∙ sym (zero-+ᵣ others)
          ∙ ap (λ x. x +ᵣ others) (sym (*ᵣ-zero cost) ∙ ap (λ x. cost *ᵣ x) (sym none));
    }

-- of a whole stage
record OfStage (s : Stage) (q : Ratio) (xs : List Ratio) : Type 0 where
  runs : Runs (hull s, q)
  costs : last_slope s.cost s.bands *ᵣ q ≡ sum paid (zip (segment_arcs s) xs)

of_stage : (s : Stage) (xs : List Ratio) → AreReached s.upper s.bands → length xs ≡ segment_count s → AllByRecursion Runs (zip (segment_arcs s) xs) → OfStage s (sum (λ x. x) xs) xs
of_stage s [] r e h = absurd (omega (arith, e))
of_stage s (x ∷ xs) r e h =
    let a = along s.upper s.cost s.ends s.bands x xs r (omega (arith, e)) h.0.0 h.0.1 h.1 in
    record { runs = (a.some, a.open_ended); costs = a.costs }

-- ---- along all

runs_from : (arcs : List NetArc) (d : List Ratio) → length d ≡ length arcs → AllByRecursion (λ q. zero_ratio ≤ᵣ q) d →
    AllByRecursion (λ (a, q). zero_ratio <ᵣ q → a.upper ≡ Infinite) (zip arcs d) → AllByRecursion Runs (zip arcs d)
runs_from [] d e h k = tt
runs_from (a ∷ arcs) [] e h k = absurd (omega (arith, e))
runs_from (a ∷ arcs) (q ∷ d) e h k = ((h.0, k.0), runs_from arcs d (omega (arith, e)) h.1 k.1)

runs_some : (arcs : List NetArc) (d : List Ratio) → length d ≡ length arcs → AllByRecursion Runs (zip arcs d) → AllByRecursion (λ q. zero_ratio ≤ᵣ q) d
runs_some arcs [] e h = tt
runs_some [] (q ∷ d) e h = absurd (omega (arith, e))
runs_some (a ∷ arcs) (q ∷ d) e h = (h.0.0, runs_some arcs d (omega (arith, e)) h.1)

runs_open : (arcs : List NetArc) (d : List Ratio) → AllByRecursion Runs (zip arcs d) → AllByRecursion (λ (a, q). zero_ratio <ᵣ q → a.upper ≡ Infinite) (zip arcs d)
runs_open [] d h = tt
runs_open (a ∷ arcs) [] h = tt
runs_open (a ∷ arcs) (q ∷ d) h = (h.0.1, runs_open arcs d h.1)

record OfStages (stages : List Stage) (d : List Ratio) : Type 0 where
  runs : AllByRecursion Runs (zip (map hull stages) (amounts_of stages d))
  costs : sum paid (zip (map hull stages) (amounts_of stages d)) ≡ sum paid (zip (flat_arcs stages) d)

of_stages : (n : ℕ) (stages : List Stage) (d : List Ratio) → AllByRecursion (IsSoundStage n) stages → length d ≡ length (flat_arcs stages) → AllByRecursion Runs (zip (flat_arcs stages) d) →
    OfStages stages d
of_stages n [] d h e k = record { runs = tt; costs = refl }
of_stages n (s ∷ stages) d h e k =
    let size : length (segment_arcs s) ≡ segment_count s = omega (arith, length-map s.bands (band_arc s.ends)) in
    let whole : length d ≡ length (segment_arcs s) + length (flat_arcs stages) = e ∙ length-append (segment_arcs s) (flat_arcs stages) in
    let own : length (take (segment_count s) d) ≡ segment_count s = length-take-le (segment_count s) d (omega arith) in
    let later : length (drop (segment_count s) d) ≡ length (flat_arcs stages) = omega (arith, length-drop (segment_count s) d) in
    let parts = all_split Runs (segment_arcs s) (flat_arcs stages) d (omega arith) k in
    let first = of_stage s (take (segment_count s) d) h.0.reached own (subst (λ (m : ℕ). AllByRecursion Runs (zip (segment_arcs s) (take m d))) size parts.0) in
    let rest = of_stages n stages (drop (segment_count s) d) h.1 later (subst (λ (m : ℕ). AllByRecursion Runs (zip (flat_arcs stages) (drop m d))) size parts.1) in
    let total_same = total_is (λ flow. flow) (take (segment_count s) d) in
    let others = sum paid (zip (map hull stages) (amounts_of stages (drop (segment_count s) d))) in
    record {
      runs = (subst (λ (r : Ratio). Runs (hull s, r)) (sym total_same) first.runs, rest.runs);
      costs =
          ap (λ r. last_slope s.cost s.bands *ᵣ r +ᵣ others) total_same ∙ ap (λ r. r +ᵣ others) first.costs
          ∙ ap (λ r. sum paid (zip (segment_arcs s) (take (segment_count s) d)) +ᵣ r) rest.costs
          ∙ ap (λ (m : ℕ). sum paid (zip (segment_arcs s) (take m d)) +ᵣ sum paid (zip (flat_arcs stages) (drop m d))) (sym size)
          ∙ sym (sum_split paid (segment_arcs s) (flat_arcs stages) d (omega arith));
    }

pub falls_on_both_sides : GatheredFalls
falls_on_both_sides supply stages flows d h ray =
    let sound = recursion_from_All (IsSoundStage (length supply)) stages h.sound in
    let some = recursion_from_All (λ q. zero_ratio ≤ᵣ q) d ray.not_negative in
    let open_ended = recursion_from_All (λ (a, q). zero_ratio <ᵣ q → a.upper ≡ Infinite) (zip (flat_arcs stages) d) ray.unbounded in
    let all = of_stages (length supply) stages d sound ray.one_each (runs_from (flat_arcs stages) d ray.one_each some open_ended) in
    let amounts = amounts_of stages d in
    let one_each : length amounts ≡ length (map hull stages) = amounts-length stages d ∙ sym (length-map stages hull) in
    let same : plan_cost (map hull stages) amounts ≡ plan_cost (flat_arcs stages) d =
    total_is paid (zip (map hull stages) amounts) ∙ all.costs ∙ sym (total_is paid (zip (flat_arcs stages) d)) in
    record {
      feasible = are_feasible supply stages flows ray.feasible;
      one_each = one_each;
      not_negative = All-from_recursion (λ q. zero_ratio ≤ᵣ q) amounts (runs_some (map hull stages) amounts one_each all.runs);
      unbounded = All-from_recursion (λ (a, q). zero_ratio <ᵣ q → a.upper ≡ Infinite) (zip (map hull stages) amounts) (runs_open (map hull stages) amounts all.runs);
      balanced = λ v below. balances stages d ray.one_each v ∙ ray.balanced v below;
      falls = subst (λ (r : Ratio). r <ᵣ zero_ratio) (sym same) ray.falls;
    }
