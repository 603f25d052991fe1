-- Networks of three shapes with as many arcs as nodes, and the one piece that each of them is.
use Rattle.std.specs.Prelude.{ℕ, ◌+◌, ◌-◌, ◌==◌, if◌then◌else◌, pos, List, map}
use Rattle.std.specs.List.{range_with_len}
use Rattle.np_frac.specs.Ratio.{Ratio, whole, zero_ratio, one_ratio}
use Rattle.np_model.specs.declared.arc.Ends.{Ends}
use Rattle.np_model.specs.declared.arc.Ends.TheVariants.{Link, Drain}
use Rattle.np_model.specs.declared.arc.Upper.TheVariants.{Infinite}
use Rattle.np_model.specs.declared.arc.NetArc.{NetArc}
use Rattle.np_model.specs.declared.log.Mark.{Mark}
use Rattle.np_model.specs.declared.log.Mark.TheVariants.{Lower}
use Rattle.np_model.specs.declared.phase.Phase.TheVariants.{Two}
use Rattle.np_model.specs.Network.Flows.{Network}
use Rattle.np_model.specs.Basis.Phases.{with_artificial}
use Rattle.np_model.specs.Basis.Pieces.{PieceLists}
use Rattle.bench_all.specs.Nodes.{supplies, drains}
use Rattle.bench_all.specs.declared.pieces.shape.Shape.{Shape}
use Rattle.bench_all.specs.declared.pieces.shape.Shape.TheVariants.{Chain, Star, Cycle}

-- the arc of node v among n: a chain and a star have a drain at node 0, and links from the node before or from node 0; the links of a cycle
-- lead to the next node, and the first of them has the gain 2
abbrev pub arc_ends : Shape → ℕ → ℕ → Ends
arc_ends Chain n v = if v == 0 then Drain 0 else Link (v - 1) v one_ratio
arc_ends Star n v = if v == 0 then Drain 0 else Link 0 v one_ratio
arc_ends Cycle n v = Link v (if v + 1 == n then 0 else v + 1) (if v == 0 then whole (pos 2) else one_ratio)

-- it costs 1, and has no upper bound
abbrev pub net_arc : Shape → ℕ → ℕ → NetArc
net_arc shape n v = record { ends = arc_ends shape n v; lower = zero_ratio; upper = Infinite; cost = one_ratio }

abbrev pub net_arcs : Shape → ℕ → List NetArc
net_arcs shape n = map (net_arc shape n) (range_with_len 0 n)

-- the network in stage two
abbrev pub full_net : Shape → ℕ → Network
full_net shape n = with_artificial Two (record { supply = supplies n; arcs = net_arcs shape n }) (drains n)

-- ---- its piece: all nodes, all real arcs with no flow, and all artificial arcs at their lower bounds

abbrev pub piece_nodes : ℕ → List (ℕ × Ratio)
piece_nodes n = map (λ v. (v, zero_ratio)) (range_with_len 0 n)

abbrev pub piece_basics : Shape → ℕ → List (ℕ × Ends × Ratio)
piece_basics shape n = map (λ v. (v, arc_ends shape n v, zero_ratio)) (range_with_len 0 n)

abbrev pub piece_marks : ℕ → List (ℕ × Mark)
piece_marks n = map (λ a. (a, Lower)) (range_with_len n n)

abbrev pub full_piece : Shape → ℕ → PieceLists
full_piece shape n = record { nodes = piece_nodes n; basics = piece_basics shape n; marks = piece_marks n }
