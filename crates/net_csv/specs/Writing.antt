-- The records of the text of a scheme.
use Rattle.std.specs.Prelude.{ℕ, ◌+◌, ◌/◌, ◌%◌, Option, Some, None, List, [], ◌∷◌, ◌++◌, length, map, codes, decimal, if◌then◌else◌}
use Rattle.std.specs.List.{filter_map, flat_map, enumerate_from}
use Rattle.np_frac.specs.Ratio.{Ratio, zero_ratio}
use Rattle.np_frac.specs.Order.{ratio_eq}
use Rattle.np_model.specs.declared.arc.Upper.{Upper}
use Rattle.np_model.specs.declared.arc.Upper.TheVariants.{Finite, Infinite}
use Rattle.np_model.specs.declared.scheme.FlowKind.{FlowKind}
use Rattle.np_model.specs.declared.scheme.FlowKind.TheVariants.{Link, Hold, Drain, Feed}
use Rattle.np_model.specs.declared.scheme.Band.{Band}
use Rattle.np_model.specs.declared.scheme.Flow.{Flow}
use Rattle.np_model.specs.declared.scheme.Scheme.{Scheme}
use Rattle.np_model.specs.Scheme.Names.{name_at}
use Rattle.net_csv.specs.AmountText.{amount_text}

abbrev pub upper_text : Upper → List ℕ
upper_text (Finite u) = amount_text u
upper_text Infinite = codes "inf"

abbrev pub node_row : List ℕ → List (List ℕ)
node_row name = codes "node" ∷ name ∷ []

-- the supply at a place, where it is not 0: with n nodes, place (P - 1) * n + i is that of node i in period P
abbrev pub supply_row : List (List ℕ) → ℕ × Ratio → Option (List (List ℕ))
supply_row nodes (place, amount) =
    if ratio_eq amount zero_ratio then None
    else Some (codes "supply" ∷ name_at nodes (place % length nodes) ∷ decimal (place / length nodes + 1) ∷ amount_text amount ∷ [])

-- what a flow joins, and its gain where it has one
abbrev pub ends_row : List (List ℕ) → List ℕ → FlowKind → List (List ℕ)
ends_row nodes name (Link from to gain) = codes "arc" ∷ name ∷ name_at nodes from ∷ name_at nodes to ∷ amount_text gain ∷ []
ends_row nodes name (Hold node gain) = codes "hold" ∷ name ∷ name_at nodes node ∷ amount_text gain ∷ []
ends_row nodes name (Drain node) = codes "drain" ∷ name ∷ name_at nodes node ∷ []
ends_row nodes name (Feed node) = codes "feed" ∷ name ∷ name_at nodes node ∷ []

-- its bounds and its cost
abbrev pub number_fields : Flow → List (List ℕ)
number_fields flow = amount_text flow.lower ∷ upper_text flow.upper ∷ amount_text flow.cost ∷ []

abbrev pub flow_row : List (List ℕ) → Flow → List (List ℕ)
flow_row nodes flow = ends_row nodes flow.name flow.kind ++ number_fields flow

abbrev pub piece_row : List ℕ → Band → List (List ℕ)
piece_row name band = codes "piece" ∷ name ∷ upper_text band.width ∷ amount_text band.slope ∷ []

-- a flow, and behind it its bands
abbrev pub flow_rows : List (List ℕ) → Flow → List (List (List ℕ))
flow_rows nodes flow = flow_row nodes flow ∷ map (piece_row flow.name) flow.bands

abbrev pub head_rows : ℕ → List (List (List ℕ))
head_rows periods = (codes "netplan" ∷ codes "1" ∷ []) ∷ (codes "periods" ∷ decimal periods ∷ []) ∷ []

-- nodes, supplies and flows, each in order
abbrev pub body_rows : Scheme → List (List (List ℕ))
body_rows scheme =
    map node_row scheme.nodes
    ++ filter_map (supply_row scheme.nodes) (enumerate_from 0 scheme.supply)
    ++ flat_map (flow_rows scheme.nodes) scheme.flows

-- all records of the text
abbrev pub rows_of : Scheme → List (List (List ℕ))
rows_of scheme = head_rows scheme.periods ++ body_rows scheme ++ (codes "end" ∷ []) ∷ []
