-- Amounts of staged arcs filled into their segments in order, and what goes over between both. (This project's own.)
use Rattle.std.specs.Prelude.{◌≡◌, List, ◌∷◌, map}
use Rattle.std.specs.List.{flat_map, zip}
use Rattle.np_frac.specs.Ratio.{Ratio}
use Rattle.np_model.specs.Network.Flows.{Feasible, Least, plan_cost}
use Rattle.np_model.specs.Network.Duality.{Shows, Impossible, Ray, gap}
use Rattle.np_model.specs.Scheme.Segments.{Stage, amount_in, segments_beyond}
use Rattle.np_model.specs.Network.Arcs.{lesser}
use Rattle.np_model.specs.Scheme.Convex.{StagesFeasible, StagesLeast, StagesShow, StagesImpossible, StagesRay, stages_gap, stages_cost}
use Rattle.period_expand.specs.Expansion.{IsExpansion}
use Rattle.convex_arcs.specs.Segments.{flat_arcs}
use Rattle.convex_arcs.specs.Gathered.{flat_net, amounts_of}

-- the first segment takes the amount up to its end, and each other one what of it lies there
abbrev pub filled : Stage → Ratio → List Ratio
filled s x = lesser x s.upper ∷ map (λ g. amount_in g x) (segments_beyond s.upper s.bands)

abbrev pub filled_flows : List Stage → List Ratio → List Ratio
filled_flows stages x = flat_map (λ (s, amount). filled s amount) (zip stages x)

-- a feasible plan fills into feasible flows
abbrev pub FilledIsFeasible : Type 0
FilledIsFeasible =
    (supply : List Ratio) (stages : List Stage) (x : List Ratio) → IsExpansion supply stages → StagesFeasible supply stages x →
    Feasible (flat_net supply stages) (filled_flows stages x)

-- they cost the same
abbrev pub FilledCostsTheSame : Type 0
FilledCostsTheSame =
    (supply : List Ratio) (stages : List Stage) (x : List Ratio) → IsExpansion supply stages → StagesFeasible supply stages x →
    plan_cost (flat_arcs stages) (filled_flows stages x) ≡ stages_cost stages x

-- and they gather to the plan
abbrev pub FilledGathersBack : Type 0
FilledGathersBack =
    (supply : List Ratio) (stages : List Stage) (x : List Ratio) → IsExpansion supply stages → StagesFeasible supply stages x →
    amounts_of stages (filled_flows stages x) ≡ x

-- so flows of least cost for the segments have amounts of least cost, and the least costs are the same
abbrev pub GatheredIsLeast : Type 0
GatheredIsLeast =
    (supply : List Ratio) (stages : List Stage) (flows : List Ratio) → IsExpansion supply stages → Least (flat_net supply stages) flows →
    StagesLeast supply stages (amounts_of stages flows) × (stages_cost stages (amounts_of stages flows) ≡ plan_cost (flat_arcs stages) flows)

-- and a plan of least cost fills into flows of least cost
abbrev pub LeastPlansFill : Type 0
LeastPlansFill =
    (supply : List Ratio) (stages : List Stage) (x : List Ratio) → IsExpansion supply stages → StagesLeast supply stages x →
    Least (flat_net supply stages) (filled_flows stages x)

-- prices that show flows least for the segments show their amounts least
abbrev pub GatheredIsShown : Type 0
GatheredIsShown =
    (supply : List Ratio) (stages : List Stage) (p flows : List Ratio) → IsExpansion supply stages → Feasible (flat_net supply stages) flows →
    Shows (flat_net supply stages) p flows → StagesShow supply stages p (amounts_of stages flows)

-- ---- no plan at all, and costs that fall without end

-- prices that certify that no flows are feasible certify it of plans, with the same gap
abbrev pub ForbidsPlans : Type 0
ForbidsPlans =
    (supply : List Ratio) (stages : List Stage) (p : List Ratio) → Impossible (flat_net supply stages) p →
    StagesImpossible supply stages p × (stages_gap supply stages p ≡ gap (flat_net supply stages) p)

-- a ray of the flows gives one of the amounts, with the same cost
abbrev pub GatheredFalls : Type 0
GatheredFalls =
    (supply : List Ratio) (stages : List Stage) (flows d : List Ratio) → IsExpansion supply stages → Ray (flat_net supply stages) flows d →
    StagesRay supply stages (amounts_of stages flows) (amounts_of stages d)
