-- The least cost of a scheme is that of its expanded network. (This project's own.)
use Rattle.std.specs.Prelude.{◌≡◌, List}
use Rattle.np_frac.specs.Ratio.{Ratio}
use Rattle.np_model.specs.declared.scheme.Scheme.{Scheme}
use Rattle.np_model.specs.Network.Flows.{Network, Least, plan_cost}
use Rattle.np_model.specs.Network.Nets.{IsNet}
use Rattle.np_model.specs.Scheme.Plans.{staged, IsLeastPlan, scheme_cost}
use Rattle.convex_arcs.specs.Gathered.{flat_net, amounts_of}
use Rattle.convex_arcs.specs.Filled.{filled_flows}

-- the expanded network of a scheme: an arc for each segment of each flow in each period
abbrev pub net_of : Scheme → Network
net_of scheme = flat_net scheme.supply (staged scheme)

-- it is a valid network
abbrev pub ExpandedIsNet : Type 0
ExpandedIsNet = (scheme : Scheme) → IsNet (net_of scheme).supply (net_of scheme).arcs

-- the plan that flows of this network are gathered to, and the flows that a plan fills in
abbrev pub gathered_plan : Scheme → List Ratio → List Ratio
gathered_plan scheme flows = amounts_of (staged scheme) flows

abbrev pub filled_plan : Scheme → List Ratio → List Ratio
filled_plan scheme x = filled_flows (staged scheme) x

-- flows of least cost are gathered to a plan of least cost, at equal cost
abbrev pub LeastFlowsGather : Type 0
LeastFlowsGather =
    (scheme : Scheme) (flows : List Ratio) → Least (net_of scheme) flows →
    IsLeastPlan scheme (gathered_plan scheme flows) × (scheme_cost scheme (gathered_plan scheme flows) ≡ plan_cost (net_of scheme).arcs flows)

-- a plan of least cost fills in flows of least cost, at equal cost
abbrev pub LeastPlansAreFilled : Type 0
LeastPlansAreFilled =
    (scheme : Scheme) (x : List Ratio) → IsLeastPlan scheme x →
    Least (net_of scheme) (filled_plan scheme x) × (plan_cost (net_of scheme).arcs (filled_plan scheme x) ≡ scheme_cost scheme x)
