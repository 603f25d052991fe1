-- The state that stage one starts from: each arc at its lower bound, and what is left of each node's supply on an artificial arc.
-- (The start by artificial arcs is that of Ahuja, Magnanti and Orlin, Network Flows, chapter 15.)
use Rattle.std.specs.Prelude.{ℕ, ◌+◌, ◌<◌, ◌==◌, ◌||◌, Bool, if◌then◌else◌, List, [], ◌∷◌, ◌++◌, length, map, filter}
use Rattle.std.specs.List.{range_with_len}
use Rattle.np_frac.specs.Ratio.{Ratio, zero_ratio, one_ratio, negated, ◌-ᵣ◌, is_below}
use Rattle.np_frac.specs.Fits.{Fits}
use Rattle.np_model.specs.declared.arc.Ends.{Ends}
use Rattle.np_model.specs.declared.arc.Ends.TheVariants.{Link, Drain, Feed}
use Rattle.np_model.specs.declared.log.Mark.TheVariants.{Lower, Basic}
use Rattle.np_model.specs.declared.phase.Phase.{Phase}
use Rattle.np_model.specs.Network.Flows.{Network, at, balance}
use Rattle.np_model.specs.Basis.Graphs.{ends_at}
use Rattle.np_model.specs.Basis.Phases.{with_artificial}
use Rattle.np_model.specs.Basis.Pieces.{PieceLists}
use Rattle.np_model.specs.Basis.States.{State}

-- what is left of the supply of a node where each arc is at its lower bound
abbrev pub residual : Network → ℕ → Ratio
residual net v = at net.supply v -ᵣ balance net.arcs (map (λ a. a.lower) net.arcs) v

-- the artificial arc takes the residual out, or brings in what is missing
abbrev pub artificial_end : Network → ℕ → Ends
artificial_end net v = if is_below (residual net v) zero_ratio then Feed v else Drain v

abbrev pub artificial_flow : Network → ℕ → Ratio
artificial_flow net v = if is_below (residual net v) zero_ratio then negated (residual net v) else residual net v

abbrev pub start_potential : Network → ℕ → Ratio
start_potential net v = if is_below (residual net v) zero_ratio then negated one_ratio else one_ratio

abbrev pub nodes_from_0 : Network → List ℕ
nodes_from_0 net = range_with_len 0 (length net.supply)

-- the artificial arcs of the start, one for each node in order
abbrev pub artificial_ends : Network → List Ends
artificial_ends net = map (artificial_end net) (nodes_from_0 net)

-- the flows of all arcs at the start
abbrev pub start_flows : Network → List Ratio
start_flows net = map (λ a. a.lower) net.arcs ++ map (artificial_flow net) (nodes_from_0 net)

-- real arcs at their lower bounds, and artificial arcs in the basis
abbrev pub start_state : Network → State
start_state net = record {
  marks = map (λ a. Lower) net.arcs ++ map (λ v. Basic) (nodes_from_0 net);
  flows = start_flows net;
  potentials = map (start_potential net) (nodes_from_0 net);
}

-- the full network of the start, in a phase
abbrev pub start_net : Phase → Network → Network
start_net phase net = with_artificial phase net (artificial_ends net)

-- the residual of each node fits a fraction
abbrev pub ResidualsFit : Network → Type 0
ResidualsFit net = (v : ℕ) → v < length net.supply → Fits (residual net v)

-- ---- its pieces

-- the node is an end of the arc
abbrev pub touches : Ends → ℕ → Bool
touches (Link from to gain) v = (v == from) || (v == to)
touches (Drain at) v = v == at
touches (Feed at) v = v == at

-- the piece of a node: alone, with its artificial arc in the basis and each arc that touches it at its lower bound
abbrev pub start_piece : Network → ℕ → PieceLists
start_piece net v = record {
  nodes = (v, start_potential net v) ∷ [];
  basics = (length net.arcs + v, artificial_end net v, artificial_flow net v) ∷ [];
  marks = filter (λ m. touches (ends_at net.arcs m.0) v) (map (λ a. (a, Lower)) (range_with_len 0 (length net.arcs)));
}
