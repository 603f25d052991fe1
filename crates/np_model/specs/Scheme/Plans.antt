-- Plans of a scheme: one amount for each staged arc. (This project's own.)
use Rattle.std.specs.Prelude.{ℕ, ◌==◌, ◌&&◌, if◌then◌else◌, Option, Some, None, length, List}
use Rattle.std.specs.List.{enumerate_from, flat_map, filter_map, range_with_len}
use Rattle.np_frac.specs.Ratio.{Ratio, ◌<ᵣ◌}
use Rattle.np_model.specs.declared.scheme.Flow.{Flow}
use Rattle.np_model.specs.declared.scheme.Scheme.{Scheme}
use Rattle.np_model.specs.Scheme.Kinds.{ends_in, is_hold}
use Rattle.np_model.specs.Scheme.Segments.{Stage}
use Rattle.np_model.specs.Scheme.Convex.{StagesFeasible, stages_cost, StagesLeast, StagesShow, StagesImpossible, stages_gap, StagesRay}

-- a flow of this number in a period
abbrev pub stage_in : ℕ → ℕ → ℕ × Flow → Stage
stage_in k period (number, flow) =
    record { flow = number; period = period; ends = ends_in k period flow.kind; lower = flow.lower; upper = flow.upper; cost = flow.cost; bands = flow.bands }

-- its staged arc; a hold has none in the last period
abbrev pub stage_of : ℕ → ℕ → ℕ → ℕ × Flow → Option Stage
stage_of periods k period (number, flow) = if is_hold flow.kind && (period == periods) then None else Some (stage_in k period (number, flow))

-- the staged arcs: for each period from 1 on and each flow in order, its staged arc
abbrev pub staged : Scheme → List Stage
staged scheme =
    flat_map (λ period. filter_map (stage_of scheme.periods (length scheme.nodes) period) (enumerate_from 0 scheme.flows))
    (range_with_len 1 scheme.periods)

-- ---- plans, and what shows what of them

abbrev pub IsFeasiblePlan : Scheme → List Ratio → Type 0
IsFeasiblePlan scheme x = StagesFeasible scheme.supply (staged scheme) x

abbrev pub scheme_cost : Scheme → List Ratio → Ratio
scheme_cost scheme x = stages_cost (staged scheme) x

-- a least-cost plan: no feasible list of ratios, of whatever size, costs less
abbrev pub IsLeastPlan : Scheme → List Ratio → Type 0
IsLeastPlan scheme x = StagesLeast scheme.supply (staged scheme) x

-- prices show a plan optimal
abbrev pub PricesShow : Scheme → List Ratio → List Ratio → Type 0
PricesShow scheme p x = StagesShow scheme.supply (staged scheme) p x

-- prices certify that there is no plan
abbrev pub PricesForbid : Scheme → List Ratio → Type 0
PricesForbid scheme p = StagesImpossible scheme.supply (staged scheme) p

abbrev pub price_gap : Scheme → List Ratio → Ratio
price_gap scheme p = stages_gap scheme.supply (staged scheme) p

-- a plan and a ray certify that every cost has a cheaper plan
abbrev pub FallsAlong : Scheme → List Ratio → List Ratio → Type 0
FallsAlong scheme x d = StagesRay scheme.supply (staged scheme) x d

-- ---- the laws of schemes

-- a feasible plan that prices show optimal is a least-cost plan
abbrev pub PricesProve : Type 0
PricesProve = (scheme : Scheme) (p x : List Ratio) → IsFeasiblePlan scheme x → PricesShow scheme p x → IsLeastPlan scheme x

-- where prices certify it, no list of ratios is a feasible plan
abbrev pub PricesExclude : Type 0
PricesExclude = (scheme : Scheme) (p : List Ratio) → PricesForbid scheme p → (x : List Ratio) → IsFeasiblePlan scheme x → ⊥

-- every cost has a feasible plan that costs less
abbrev pub HasNoLeast : Scheme → Type 0
HasNoLeast scheme = (c : Ratio) → (y : List Ratio) × IsFeasiblePlan scheme y × (scheme_cost scheme y <ᵣ c)

-- where a plan and a ray certify it, every cost has a feasible plan that costs less
abbrev pub RaysProve : Type 0
RaysProve = (scheme : Scheme) (x d : List Ratio) → FallsAlong scheme x d → HasNoLeast scheme
