-- What is wrong with a record of the body of a network text, where these are the records of the body before it. The tests are made in
-- the order in which they stand here, and the first that fails tells the fault.
use Rattle.std.specs.Prelude.{ℕ, ◌+◌, ◌-◌, ◌*◌, ◌&&◌, nat_le, not, Bool, Option, Some, List, [], ◌∷◌, length, codes, slice_get, if◌then◌else◌}
use Rattle.std.specs.Option.{option_or, option_map_or, option_and_then}
use Rattle.std.specs.Str.{bytes_eq}
use Rattle.np_frac.specs.Ratio.{Ratio, zero_ratio, is_below}
use Rattle.np_frac.specs.Amount.{amount_of}
use Rattle.np_records.specs.Records.{field_of}
use Rattle.np_model.specs.declared.scheme.Band.{Band}
use Rattle.np_model.specs.declared.scheme.Flow.{Flow}
use Rattle.np_model.specs.Scheme.Kinds.{periods_of}
use Rattle.np_model.specs.Scheme.Segments.{last_slope}
use Rattle.np_model.specs.Scheme.Valid.{expanded_arcs}
use Rattle.net_csv.specs.declared.refused.Code.{Code}
use Rattle.net_csv.specs.declared.refused.Code.TheVariants as code
use Rattle.np_records.specs.Faults.{first_fault, unless}
use Rattle.np_model.specs.Network.Arcs.{is_at_most, is_finite, is_under}
use Rattle.net_csv.specs.Fields.{fields_fault, new_fault, used_fault, gain_fault, amount_fault, upper_fault, period_fault, upper_of}
use Rattle.np_records.specs.Names.{place_in}
use Rattle.np_records.specs.Rows.{is_kind}
use Rattle.net_csv.specs.Network.{is_flow, kind_in, bounds_place, defined_nodes, defined_flows, flows_of}

-- ---- the end of a flow

abbrev pub last_band : Flow → Option Band
last_band flow = slice_get flow.bands (length flow.bands - 1)

-- the present end of a flow is finite: a band stands behind finite ends alone, so its last part tells
abbrev pub has_finite_end : Flow → Bool
has_finite_end flow = is_finite (option_map_or (λ band. band.width) (last_band flow) flow.upper)

-- the slope of the last band, or the cost where there is none
abbrev pub present_slope : Flow → Ratio
present_slope flow = last_slope flow.cost flow.bands

-- ---- room

-- so many nodes and arcs over all periods are not too many
abbrev pub nodes_fault : ℕ → ℕ → Option Code
nodes_fault periods nodes = unless (nat_le (nodes * periods) 20000) code.TooMany

abbrev pub arcs_fault : ℕ → Option Code
arcs_fault arcs = unless (nat_le arcs 100000) code.TooMany

-- ---- the kinds of record

abbrev pub node_fault : ℕ → List (List ℕ) → List (List ℕ) → Option Code
node_fault periods nodes r =
    first_fault (
    fields_fault 2 r
    ∷ new_fault nodes (field_of r 1)
    ∷ nodes_fault periods (length nodes + 1)
    ∷ [])

abbrev pub supply_fault : ℕ → List (List ℕ) → List (List ℕ) → Option Code
supply_fault periods nodes r =
    first_fault (
    fields_fault 4 r
    ∷ used_fault nodes (field_of r 1)
    ∷ period_fault periods (field_of r 2)
    ∷ amount_fault (field_of r 3)
    ∷ [])

-- how many fields the record of a flow has
abbrev pub flow_fields : List (List ℕ) → ℕ
flow_fields r = bounds_place r + 3

-- the node or the nodes that it joins, and its gain where it has one
abbrev pub kind_fault : List (List ℕ) → List (List ℕ) → Option Code
kind_fault nodes r =
    if is_kind r (codes "arc") then first_fault (used_fault nodes (field_of r 2) ∷ used_fault nodes (field_of r 3) ∷ gain_fault (field_of r 4) ∷ [])
    else if is_kind r (codes "hold") then first_fault (used_fault nodes (field_of r 2) ∷ gain_fault (field_of r 3) ∷ [])
    else used_fault nodes (field_of r 2)

-- the lower bound, the upper bound and the cost
abbrev pub numbers_fault : List (List ℕ) → ℕ → Option Code
numbers_fault r place = first_fault (amount_fault (field_of r place) ∷ upper_fault (field_of r (place + 1)) ∷ amount_fault (field_of r (place + 2)) ∷ [])

abbrev pub ends_fault : List (List ℕ) → Option Code
ends_fault r = unless (not (is_kind r (codes "arc") && bytes_eq (field_of r 2) (field_of r 3))) code.SameEnds

abbrev pub bounds_fault : List (List ℕ) → ℕ → Option Code
bounds_fault r place = unless (is_at_most (amount_of (field_of r place)) (upper_of (field_of r (place + 1)))) code.BadBounds

-- what a flow joins, and its numbers
abbrev pub head_fault : List (List ℕ) → List (List ℕ) → List (List ℕ) → Option Code
head_fault nodes names r =
    first_fault (
    fields_fault (flow_fields r) r
    ∷ new_fault names (field_of r 1)
    ∷ kind_fault nodes r
    ∷ numbers_fault r (bounds_place r)
    ∷ ends_fault r
    ∷ bounds_fault r (bounds_place r)
    ∷ [])

-- a flow has an arc in each of its periods
abbrev pub flow_fault : ℕ → List (List ℕ) → List (List ℕ) → ℕ → List (List ℕ) → Option Code
flow_fault periods nodes names arcs r =
    option_or (head_fault nodes names r) (arcs_fault (arcs + periods_of periods (kind_in nodes r)))

-- a band is added to a flow: it begins at a finite end, has some width, and its slope does not fall; it adds an arc in each period
abbrev pub band_fault : ℕ → ℕ → Band → Flow → Option Code
band_fault periods arcs band flow =
    first_fault (
    unless (has_finite_end flow) code.PieceAfterInfinite
    ∷ unless (is_under zero_ratio band.width) code.BadBounds
    ∷ unless (not (is_below band.slope (present_slope flow))) code.NotConvex
    ∷ arcs_fault (arcs + periods_of periods flow.kind)
    ∷ [])

abbrev pub band_of : List (List ℕ) → Band
band_of r = record { width = upper_of (field_of r 2); slope = amount_of (field_of r 3) }

abbrev pub piece_fault : ℕ → List (List ℕ) → ℕ → List Flow → List (List ℕ) → Option Code
piece_fault periods names arcs flows r =
    first_fault (
    fields_fault 4 r
    ∷ used_fault names (field_of r 1)
    ∷ upper_fault (field_of r 2)
    ∷ amount_fault (field_of r 3)
    ∷ option_and_then (band_fault periods arcs (band_of r)) (slice_get flows (place_in names (field_of r 1)))
    ∷ [])

-- a record that is not `end`, by its first field, where so many arcs stand before it
abbrev pub record_fault : ℕ → List (List ℕ) → List (List ℕ) → ℕ → List Flow → List (List ℕ) → Option Code
record_fault periods nodes names arcs flows r =
    if is_kind r (codes "node") then node_fault periods nodes r
    else if is_kind r (codes "supply") then supply_fault periods nodes r
    else if is_flow r then flow_fault periods nodes names arcs r
    else if is_kind r (codes "piece") then piece_fault periods names arcs flows r
    else Some code.Unknown

-- a record of the body behind these, where it is not `end`
abbrev pub body_fault : ℕ → List (List (List ℕ)) → List (List ℕ) → Option Code
body_fault periods before r =
    record_fault periods (defined_nodes before) (defined_flows before) (expanded_arcs periods (flows_of before)) (flows_of before) r
