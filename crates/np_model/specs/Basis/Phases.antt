-- Full networks: the arcs of a network, and then one artificial arc for each node; and what each of them costs and may carry in a phase. The
-- two stages are those of the simplex method with artificial arcs (Ahuja, Magnanti and Orlin, Network Flows, chapters 11 and 15).
use Rattle.std.specs.Prelude.{ℕ, ◌+◌, List, ◌++◌, length, map}
use Rattle.np_frac.specs.Ratio.{zero_ratio, one_ratio}
use Rattle.np_model.specs.declared.arc.Ends.{Ends}
use Rattle.np_model.specs.declared.arc.Upper.TheVariants.{Finite, Infinite}
use Rattle.np_model.specs.declared.arc.NetArc.{NetArc}
use Rattle.np_model.specs.declared.phase.Phase.{Phase}
use Rattle.np_model.specs.declared.phase.Phase.TheVariants.{One, Two}
use Rattle.np_model.specs.declared.network.Net.{Net}
use Rattle.np_model.specs.declared.network.FullNet.{FullNet}
use Rattle.np_model.specs.Network.Flows.{Network}

-- a real arc costs nothing in stage one
abbrev pub real_arc : Phase → NetArc → NetArc
real_arc One a = record { ends = a.ends; lower = a.lower; upper = a.upper; cost = zero_ratio }
real_arc Two a = a

-- an artificial arc costs 1 in stage one, and carries nothing in stage two
abbrev pub artificial_arc : Phase → Ends → NetArc
artificial_arc One ends = record { ends = ends; lower = zero_ratio; upper = Infinite; cost = one_ratio }
artificial_arc Two ends = record { ends = ends; lower = zero_ratio; upper = Finite zero_ratio; cost = zero_ratio }

-- the real arcs, and then the artificial ones: that of node v has the number v after the real arcs
abbrev pub phase_arcs : Phase → List NetArc → List Ends → List NetArc
phase_arcs phase arcs artificial = map (real_arc phase) arcs ++ map (artificial_arc phase) artificial

-- a network with these artificial arcs, in a phase
abbrev pub with_artificial : Phase → Network → List Ends → Network
with_artificial phase net artificial = record { supply = net.supply; arcs = phase_arcs phase net.arcs artificial }

-- the network of a plain network's lists
abbrev pub network_of : Net → Network
network_of net = record { supply = net.supply; arcs = net.arcs }

-- a full network in a phase
abbrev pub phase_net : Phase → FullNet → Network
phase_net phase full = with_artificial phase (network_of full.net) full.artificial

abbrev pub real_arcs : FullNet → ℕ
real_arcs full = length full.net.arcs

abbrev pub all_arcs : FullNet → ℕ
all_arcs full = length full.net.arcs + length full.artificial
