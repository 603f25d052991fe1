-- The amounts of staged arcs, from the flows of their segments. (This project's own.)
use Rattle.std.specs.Prelude.{◌≡◌, ℕ, Some, Result, Ok, Err, List, [], ◌∷◌, length, map, take, drop}
use Rattle.std.specs.List.{All, slice_get}
use Rattle.np_frac.specs.Ratio.{Ratio, zero_ratio, total, ◌≤ᵣ◌}
use Rattle.np_frac.specs.Exact.{plus_of, ◌▷◌}
use Rattle.np_frac.specs.declared.frac.Past.{Past}
use Rattle.np_model.specs.Scheme.Segments.{Stage, hull, IsValid}
use Rattle.np_model.specs.Scheme.Convex.{StagesFeasible, stages_cost}
use Rattle.np_model.specs.Network.Flows.{Network, Feasible, balance, plan_cost}
use Rattle.period_expand.specs.Expansion.{segment_count}
use Rattle.convex_arcs.specs.Segments.{segments_before, flat_arcs}
use Rattle.convex_arcs.specs.declared.amounts.GatherRefusal.{GatherRefusal}
use Rattle.convex_arcs.specs.declared.amounts.GatherRefusal.TheVariants as refusal

-- a sum from this one on, in order
abbrev pub sum_from : Ratio → List Ratio → Result Ratio Past
sum_from running [] = Ok running
sum_from running (x ∷ xs) = plus_of running x ▷ λ sum. sum_from sum xs

-- each staged arc has the sum of the flows of its segments, from the first on
abbrev pub gathered : List Stage → List Ratio → Result (List Ratio) Past
gathered [] flows = Ok []
gathered (s ∷ stages) flows =
    sum_from zero_ratio (take (segment_count s) flows) ▷ λ amount. gathered stages (drop (segment_count s) flows) ▷ λ amounts. Ok (amount ∷ amounts)

-- an answer that is this, or want of memory
abbrev pub Gathers : Result (List Ratio) GatherRefusal → Result (List Ratio) Past → Type 0
Gathers (Ok amounts) found = found ≡ Ok amounts
Gathers (Err (refusal.Past past)) found = found ≡ Err past
Gathers (Err refusal.Memory) found = Unit {0}

-- ---- the exact amounts, of whatever size

abbrev pub amounts_of : List Stage → List Ratio → List Ratio
amounts_of [] flows = []
amounts_of (s ∷ stages) flows = total (λ flow. flow) (take (segment_count s) flows) ∷ amounts_of stages (drop (segment_count s) flows)

-- what is gathered is exact
abbrev pub GatheredIsExact : Type 0
GatheredIsExact = (stages : List Stage) (flows amounts : List Ratio) → gathered stages flows ≡ Ok amounts → amounts ≡ amounts_of stages flows

-- by place: the amount of a staged arc is the sum of the flows at the places of its segments
abbrev pub AmountsByPlace : Type 0
AmountsByPlace =
    (stages : List Stage) (flows : List Ratio) (number : ℕ) (s : Stage) → slice_get stages number ≡ Some s →
    slice_get (amounts_of stages flows) number ≡ Some (total (λ flow. flow) (take (segment_count s) (drop (segments_before stages number) flows)))

-- the amounts balance as the flows do
abbrev pub AmountsBalance : Type 0
AmountsBalance =
    (stages : List Stage) (flows : List Ratio) → length flows ≡ length (flat_arcs stages) → (v : ℕ) →
    balance (map hull stages) (amounts_of stages flows) v ≡ balance (flat_arcs stages) flows v

-- ---- feasible

abbrev pub flat_net : List Ratio → List Stage → Network
flat_net supply stages = record { supply = supply; arcs = flat_arcs stages }

-- flows that are feasible for the arcs of the segments have feasible amounts
abbrev pub AmountsFeasible : Type 0
AmountsFeasible =
    (supply : List Ratio) (stages : List Stage) (flows : List Ratio) → Feasible (flat_net supply stages) flows →
    StagesFeasible supply stages (amounts_of stages flows)

-- and these cost no more
abbrev pub AmountsCostNoMore : Type 0
AmountsCostNoMore =
    (supply : List Ratio) (stages : List Stage) (flows : List Ratio) → All IsValid stages → Feasible (flat_net supply stages) flows →
    stages_cost stages (amounts_of stages flows) ≤ᵣ plan_cost (flat_arcs stages) flows
