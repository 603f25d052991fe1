-- Where the artificial arcs are those that the residuals ask for, the start is the one that they give.
use Rattle.std.specs.Prelude.{◌≡◌, ℕ, ◌<◌, length, map}
use Rattle.np_model.specs.declared.network.FullNet.{FullNet}
use Rattle.np_model.specs.Basis.Phases.{network_of}
use Rattle.np_model.specs.Basis.Starts.{artificial_ends, nodes_from_0, start_flows, start_potential, start_piece}
use Rattle.quasi_tree.specs.Start.{end_potential, flows_at_start, piece_at_start}

abbrev pub FlowsByResiduals : Type 0
FlowsByResiduals = (full : FullNet) → full.artificial ≡ artificial_ends (network_of full.net) → flows_at_start full ≡ start_flows (network_of full.net)

abbrev pub PotentialsByResiduals : Type 0
PotentialsByResiduals = (full : FullNet) → full.artificial ≡ artificial_ends (network_of full.net)
    → map end_potential full.artificial ≡ map (start_potential (network_of full.net)) (nodes_from_0 (network_of full.net))

abbrev pub PiecesByResiduals : Type 0
PiecesByResiduals = (full : FullNet) (v : ℕ) → full.artificial ≡ artificial_ends (network_of full.net) → v < length full.net.supply
    → piece_at_start full v ≡ start_piece (network_of full.net) v
