-- What the records of a network text define: names, amounts, flows and their bands.
use Rattle.std.specs.Prelude.{ℕ, ◌+◌, ◌/◌, ◌%◌, ◌==◌, ◌&&◌, ◌||◌, Bool, true, Option, Some, None, unwrap_or, option_map, List, [], ◌∷◌, codes, if◌then◌else◌}
use Rattle.std.specs.List.{filter_map}
use Rattle.std.specs.Option.{option_or, option_map_or}
use Rattle.np_frac.specs.Ratio.{Ratio, zero_ratio}
use Rattle.np_frac.specs.Amount.{amount_of}
use Rattle.np_records.specs.Names.{place_of, place_in}
use Rattle.np_records.specs.Rows.{is_kind}
use Rattle.np_records.specs.Records.{field_of}
use Rattle.np_model.specs.declared.scheme.FlowKind.{FlowKind}
use Rattle.np_model.specs.declared.scheme.FlowKind.TheVariants.{Link, Hold, Drain, Feed}
use Rattle.np_model.specs.declared.scheme.Band.{Band}
use Rattle.np_model.specs.declared.scheme.Flow.{Flow}
use Rattle.net_csv.specs.declared.given.Given.{Given}
use Rattle.net_csv.specs.Fields.{upper_of, period_of}

-- ---- kinds of record

abbrev pub is_flow : List (List ℕ) → Bool
is_flow r = is_kind r (codes "arc") || is_kind r (codes "hold") || is_kind r (codes "drain") || is_kind r (codes "feed")

-- ---- names

abbrev pub defined_node : List (List ℕ) → Option (List ℕ)
defined_node r = if is_kind r (codes "node") then Some (field_of r 1) else None

abbrev pub defined_flow : List (List ℕ) → Option (List ℕ)
defined_flow r = if is_flow r then Some (field_of r 1) else None

abbrev pub defined_nodes : List (List (List ℕ)) → List (List ℕ)
defined_nodes rows = filter_map defined_node rows

abbrev pub defined_flows : List (List (List ℕ)) → List (List ℕ)
defined_flows rows = filter_map defined_flow rows

-- ---- supplies

abbrev pub given_in : List (List ℕ) → List (List ℕ) → Option Given
given_in nodes r =
    if is_kind r (codes "supply") then
    option_map (λ node. record { node = node; period = period_of (field_of r 2); amount = amount_of (field_of r 3) }) (place_of nodes (field_of r 1))
    else None

-- it is given to this node in this period
abbrev pub covers : Given → ℕ → ℕ → Bool
covers given node period = (given.node == node) && option_map_or (λ p. p == period) given.period true

-- the last amount that is given to a node in a period
abbrev pub last_given : List Given → ℕ → ℕ → Option Ratio
last_given [] node period = None
last_given (given ∷ later) node period =
    option_or (last_given later node period) (if covers given node period then Some given.amount else None)

abbrev pub supplies_of : List (List (List ℕ)) → List Given
supplies_of rows = filter_map (given_in (defined_nodes rows)) rows

-- where these amounts are given, the supply at a place of the scheme: with n nodes, node i in period P stands at (P - 1) * n + i;
-- 0 where none is given
abbrev pub supply_from : ℕ → List Given → ℕ → Ratio
supply_from n supplies place = unwrap_or (last_given supplies (place % n) (place / n + 1)) zero_ratio

-- ---- flows

-- the kind of flow that a record gives
abbrev pub kind_in : List (List ℕ) → List (List ℕ) → FlowKind
kind_in nodes r =
    if is_kind r (codes "arc") then Link (place_in nodes (field_of r 2)) (place_in nodes (field_of r 3)) (amount_of (field_of r 4))
    else if is_kind r (codes "hold") then Hold (place_in nodes (field_of r 2)) (amount_of (field_of r 3))
    else if is_kind r (codes "drain") then Drain (place_in nodes (field_of r 2))
    else Feed (place_in nodes (field_of r 2))

-- where its lower and its upper bound and its cost stand, one behind the other
abbrev pub bounds_place : List (List ℕ) → ℕ
bounds_place r = if is_kind r (codes "arc") then 5 else if is_kind r (codes "hold") then 4 else 3

-- the flow, without bands
abbrev pub head_in : List (List ℕ) → List (List ℕ) → Option Flow
head_in nodes r =
    if is_flow r then
    Some (record {
      name = field_of r 1;
      kind = kind_in nodes r;
      lower = amount_of (field_of r (bounds_place r));
      upper = upper_of (field_of r (bounds_place r + 1));
      cost = amount_of (field_of r (bounds_place r + 2));
      bands = [];
    })
    else None

-- the number of the flow that a piece extends, and the band
abbrev pub piece_in : List (List ℕ) → List (List ℕ) → Option (ℕ × Band)
piece_in names r =
    if is_kind r (codes "piece") then
    option_map (λ flow. (flow, record { width = upper_of (field_of r 2); slope = amount_of (field_of r 3) })) (place_of names (field_of r 1))
    else None

abbrev pub heads_of : List (List (List ℕ)) → List Flow
heads_of rows = filter_map (head_in (defined_nodes rows)) rows

abbrev pub pieces_of : List (List (List ℕ)) → List (ℕ × Band)
pieces_of rows = filter_map (piece_in (defined_flows rows)) rows

-- the bands of a flow, in order
abbrev pub bands_at : List (ℕ × Band) → ℕ → List Band
bands_at pieces flow = filter_map (λ piece. if piece.0 == flow then Some piece.1 else None) pieces

-- flows from this number on, each with its bands
abbrev pub with_bands : ℕ → List Flow → List (ℕ × Band) → List Flow
with_bands number [] pieces = []
with_bands number (head ∷ heads) pieces = record head { bands = bands_at pieces number } ∷ with_bands (number + 1) heads pieces

abbrev pub flows_of : List (List (List ℕ)) → List Flow
flows_of rows = with_bands 0 (heads_of rows) (pieces_of rows)
