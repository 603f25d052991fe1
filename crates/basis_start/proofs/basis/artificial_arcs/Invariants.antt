use Rattle.std.proofs.Common.{◌≡◌, ℕ, ◌<◌, ◌++◌, map}
use Rattle.std.specs.List.{range_with_len}
use Rattle.np_model.specs.Basis.Phases.{network_of}
use Rattle.np_model.specs.Basis.Starts.{artificial_end, artificial_flow}
use Rattle.basis_start.specs.Start.{ResidualFits}
use Rattle.basis_start.proofs.basis.artificial_arcs.Given as goal

abbrev pub invariant-loop-node : goal.invariant-loop-node
invariant-loop-node l = record {
  ends : l.made.ends.items ≡ map (artificial_end (network_of l.net)) (range_with_len 0 l.node);
  flows : l.made.flows.items ≡ map (λ arc. arc.lower) l.net.arcs ++ map (artificial_flow (network_of l.net)) (range_with_len 0 l.node);
  fit : (v : ℕ) → v < l.node → ResidualFits (network_of l.net) v;
}
