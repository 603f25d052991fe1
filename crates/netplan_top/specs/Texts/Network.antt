-- The text of an expanded network: its size, its nodes, and its arcs.
use Rattle.std.specs.Prelude.{ℕ, ◌+◌, ◌/◌, ◌%◌, List, [], ◌∷◌, ◌++◌, length, map, codes}
use Rattle.std.specs.Fmt.{decimal}
use Rattle.std.specs.List.{flat_map, enumerate_from}
use Rattle.np_frac.specs.Ratio.{Ratio}
use Rattle.np_frac.specs.Text.{printed}
use Rattle.np_records.specs.Texts.{records_text}
use Rattle.np_model.specs.declared.arc.Ends.{Ends}
use Rattle.np_model.specs.declared.arc.Ends.TheVariants.{Link, Drain, Feed}
use Rattle.np_model.specs.declared.arc.Upper.{Upper}
use Rattle.np_model.specs.declared.arc.Upper.TheVariants.{Finite, Infinite}
use Rattle.np_model.specs.declared.arc.NetArc.{NetArc}
use Rattle.np_model.specs.declared.scheme.Flow.{Flow}
use Rattle.np_model.specs.declared.scheme.Scheme.{Scheme}
use Rattle.np_model.specs.Scheme.Names.{name_at, flow_names}
use Rattle.np_model.specs.Scheme.Plans.{staged}
use Rattle.np_model.specs.Scheme.Segments.{Stage}
use Rattle.convex_arcs.specs.Segments.{segment_arcs, flat_arcs}
use Rattle.netplan_top.specs.Texts.Frame.{end_record}

-- ---- nodes

-- with k nodes, expanded node v is node v % k in period v / k + 1
abbrev pub node_record : List (List ℕ) → ℕ × Ratio → List (List ℕ)
node_record nodes (v, supply) =
    codes "node" ∷ decimal v ∷ name_at nodes (v % length nodes) ∷ decimal (v / length nodes + 1) ∷ printed supply ∷ []

-- ---- arcs

-- tail, head and gain
unfoldable pub ends_fields : Ends → List (List ℕ)
ends_fields (Link from to gain) = decimal from ∷ decimal to ∷ printed gain ∷ []
ends_fields (Drain at) = decimal at ∷ codes "-" ∷ codes "-" ∷ []
ends_fields (Feed at) = codes "-" ∷ decimal at ∷ codes "-" ∷ []

abbrev pub upper_field : Upper → List ℕ
upper_field (Finite u) = printed u
upper_field Infinite = codes "inf"

abbrev pub arc_fields : NetArc → List (List ℕ)
arc_fields a = ends_fields a.ends ++ (printed a.lower ∷ upper_field a.upper ∷ printed a.cost ∷ [])

-- these arcs, each with its stage and its number
abbrev pub numbered_arcs : Stage → List NetArc → List (Stage × (ℕ × NetArc))
numbered_arcs s arcs = map (λ segment. (s, segment)) (enumerate_from 0 arcs)

-- the segments of a stage, numbered
abbrev pub numbered_segments : Stage → List (Stage × (ℕ × NetArc))
numbered_segments s = numbered_arcs s (segment_arcs s)

abbrev pub segment_arc : Stage × (ℕ × NetArc) → NetArc
segment_arc (s, (segment, a)) = a

-- the arc with this number: a segment of a stage
abbrev pub arc_record : List Flow → ℕ × (Stage × (ℕ × NetArc)) → List (List ℕ)
arc_record flows (number, (s, (segment, a))) =
    codes "arc" ∷ decimal number ∷ name_at (flow_names flows) s.flow ∷ decimal s.period ∷ decimal segment ∷ arc_fields a

-- ---- the whole

abbrev pub size_record : Scheme → List (List ℕ)
size_record scheme = codes "size" ∷ decimal (length scheme.supply) ∷ decimal (length (flat_arcs (staged scheme))) ∷ []

abbrev pub node_records : Scheme → List (List (List ℕ))
node_records scheme = map (node_record scheme.nodes) (enumerate_from 0 scheme.supply)

abbrev pub arc_records : Scheme → List (List (List ℕ))
arc_records scheme = map (arc_record scheme.flows) (enumerate_from 0 (flat_map numbered_segments (staged scheme)))

unfoldable pub net_text : Scheme → List ℕ
net_text scheme =
    records_text ((codes "netplan-net" ∷ codes "1" ∷ []) ∷ size_record scheme ∷ node_records scheme ++ arc_records scheme ++ end_record ∷ [])
