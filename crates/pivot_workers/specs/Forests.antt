-- The augmented forest that a table is set up with, and the network that it is set up for. (This project's own.)
use Rattle.std.specs.Prelude.{◌≡◌, ℕ, ◌<◌, List, length}
use Rattle.gain_graphs.specs.Arcs.{IsIn}
use Rattle.np_model.specs.declared.network.FullNet.{FullNet}
use Rattle.np_model.specs.declared.phase.Phase.{Phase}
use Rattle.np_model.specs.Network.Flows.{Network}
use Rattle.np_model.specs.Basis.Phases.{with_artificial, network_of}
use Rattle.np_model.specs.Basis.Pieces.{PieceLists, nodes_of}
use Rattle.np_model.specs.Basis.States.{State, values_of, IsState}
use Rattle.np_basis.specs.PivotLaws.{ArePiecesOf}
use Rattle.tree_table.specs.Passes.{Opening}

-- the full network in the phase of a table
abbrev pub network_at : Opening → Network
network_at opening = with_artificial opening.phase opening.net opening.artificial

-- the table was set up for this network in this phase
abbrev pub IsFor : FullNet → Phase → Opening → Type 0
IsFor full phase opening = (opening.net ≡ network_of full.net) × (opening.artificial ≡ full.artificial) × (opening.phase ≡ phase)

-- all pieces of a state
pub record AreForest (net : Network) (pieces : List PieceLists) : Type 0 where
  pub state : State
  pub is_state : IsState net state
  pub pieces_of : ArePiecesOf net (values_of state) pieces
  pub whole : (v : ℕ) → v < length net.supply → IsIn v (nodes_of pieces)

-- a table was set up with all pieces of a state
abbrev pub OpensForest : Opening → Type 0
OpensForest opening = AreForest (network_at opening) opening.pieces
