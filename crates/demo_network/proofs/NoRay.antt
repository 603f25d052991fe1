-- No cost of the demo network is below 0, so no ray falls.
use Rattle.std.specs.Prelude.{ℕ, ◌+◌, ◌%◌, List, [], ◌∷◌, map}
use Rattle.std.specs.List.{AllByRecursion, zip}
use Rattle.std.proofs.Common.{subst}
use Rattle.std.proofs.lemmas.List.Elements.{recursion_from_All, All-from_recursion}
use Rattle.np_frac.specs.Ratio.{Ratio, zero_ratio, ◌≤ᵣ◌, ◌*ᵣ◌}
use Rattle.np_frac.proofs.RatioLaws.{*ᵣ-zero, clash, *ᵣ_at_most}
use Rattle.np_frac.proofs.Sums.{total_zero, total_at_most}
use Rattle.np_model.specs.declared.arc.NetArc.{NetArc}
use Rattle.np_model.specs.declared.scheme.Flow.{Flow}
use Rattle.np_model.specs.Network.Flows.{Network, plan_cost}
use Rattle.np_model.specs.Network.Duality.{Ray}
use Rattle.np_model.specs.Scheme.Convex.{hull_net}
use Rattle.np_model.specs.Scheme.Segments.{Stage, hull, last_slope}
use Rattle.demo_network.specs.Demo.{supplies, flows_at, flows}
use Rattle.demo_network.specs.Plans.{FallsNowhere}
use Rattle.demo_network.proofs.FlowFacts.{flows_each, from_zero}
use Rattle.demo_network.proofs.Lists.{all_flat}
use Rattle.demo_network.proofs.Staging.{staged_of, staged_all}
use Rattle.demo_network.proofs.Feasible.{same_net}

-- costs and amounts that are not below 0
costs_up : (arcs : List NetArc) (d : List Ratio) → AllByRecursion (λ (a : NetArc). zero_ratio ≤ᵣ a.cost) arcs → AllByRecursion (λ (q : Ratio). zero_ratio ≤ᵣ q) d
    → AllByRecursion (λ (a, q). zero_ratio ≤ᵣ a.cost *ᵣ q) (zip arcs d)
costs_up [] d h k = tt
costs_up (a ∷ arcs) [] h k = tt
costs_up (a ∷ arcs) (q ∷ d) h k = (subst (λ (r : Ratio). r ≤ᵣ a.cost *ᵣ q) (*ᵣ-zero a.cost) (*ᵣ_at_most h.0 k.0), costs_up arcs d h.1 k.1)

hulls_up : (stages : List Stage) → AllByRecursion (λ (s : Stage). zero_ratio ≤ᵣ (hull s).cost) stages → AllByRecursion (λ (a : NetArc). zero_ratio ≤ᵣ a.cost) (map hull stages)
hulls_up [] h = tt
hulls_up (s ∷ stages) h = (h.0, hulls_up stages h.1)

flows_up : (n : ℕ) → AllByRecursion (λ (f : Flow). zero_ratio ≤ᵣ last_slope f.cost f.bands) (flows n)
flows_up n =
    all_flat (λ (f : Flow). zero_ratio ≤ᵣ last_slope f.cost f.bands) (flows_at n) 0 n
    (λ k low high.
    flows_each (λ (f : Flow). zero_ratio ≤ᵣ last_slope f.cost f.bands) n k (λ differs. from_zero (1 + k % 3)) (λ differs. from_zero 2) (from_zero 0) (from_zero 0) (from_zero 30))

no_ray : (n : ℕ) (x d : List Ratio) → Ray (hull_net (supplies n) (staged_of 8 n (flows n))) x d → ⊥
no_ray n x d ray =
    let stages = staged_of 8 n (flows n) in
    let up = staged_all (λ (s : Stage). zero_ratio ≤ᵣ (hull s).cost) (λ (f : Flow). zero_ratio ≤ᵣ last_slope f.cost f.bands) 8 n (flows n) (λ period number f q. q) (flows_up n) in
    let terms = costs_up (map hull stages) d (hulls_up stages up) (recursion_from_All (λ (q : Ratio). zero_ratio ≤ᵣ q) d ray.not_negative) in
    let pairs = zip (map hull stages) d in
    clash ray.falls
    (subst (λ (r : Ratio). r ≤ᵣ plan_cost (map hull stages) d) (total_zero pairs)
    (total_at_most (λ p. zero_ratio) (λ (a, q). a.cost *ᵣ q) pairs (All-from_recursion (λ (a, q). zero_ratio ≤ᵣ a.cost *ᵣ q) pairs terms)))

pub falls_nowhere : FallsNowhere
falls_nowhere n scheme demo x d ray = no_ray n x d (subst (λ (net : Network). Ray net x d) (same_net n scheme demo) ray)
