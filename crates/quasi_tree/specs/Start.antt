-- The pieces of the start of a full network: each node alone with its artificial arc, whichever of a drain and a feed that is.
use Rattle.std.specs.Prelude.{ℕ, ◌+◌, List, [], ◌∷◌, ◌++◌, length, map, slice_index_or}
use Rattle.np_frac.specs.Ratio.{Ratio, one_ratio, negated}
use Rattle.np_model.specs.declared.arc.Ends.{Ends}
use Rattle.np_model.specs.declared.arc.Ends.TheVariants.{Link, Drain, Feed}
use Rattle.np_model.specs.declared.network.FullNet.{FullNet}
use Rattle.np_model.specs.Basis.Phases.{network_of}
use Rattle.np_model.specs.Basis.Pieces.{PieceLists}
use Rattle.np_model.specs.Basis.Starts.{residual, nodes_from_0, start_piece}

-- the artificial arc of a node
abbrev pub artificial_at : FullNet → ℕ → Ends
artificial_at full v = slice_index_or full.artificial v (Drain v)

-- the potential that stage one gives to the node of an artificial arc
abbrev pub end_potential : Ends → Ratio
end_potential (Link from to gain) = one_ratio
end_potential (Drain at) = one_ratio
end_potential (Feed at) = negated one_ratio

-- the flow by which an artificial arc takes what is left of a supply out of its node, or brings in what is missing
abbrev pub end_flow : Ends → Ratio → Ratio
end_flow (Link from to gain) left = left
end_flow (Drain at) left = left
end_flow (Feed at) left = negated left

abbrev pub artificial_flow_at : FullNet → ℕ → Ratio
artificial_flow_at full v = end_flow (artificial_at full v) (residual (network_of full.net) v)

-- the flows of all arcs at the start: real ones stand at their lower bounds
abbrev pub flows_at_start : FullNet → List Ratio
flows_at_start full = map (λ a. a.lower) full.net.arcs ++ map (artificial_flow_at full) (nodes_from_0 (network_of full.net))

-- the piece of a node: alone, with its artificial arc in the basis and each arc that touches it at its lower bound
abbrev pub piece_at_start : FullNet → ℕ → PieceLists
piece_at_start full v = record {
  nodes = (v, end_potential (artificial_at full v)) ∷ [];
  basics = (length full.net.arcs + v, artificial_at full v, artificial_flow_at full v) ∷ [];
  marks = (start_piece (network_of full.net) v).marks;
}
