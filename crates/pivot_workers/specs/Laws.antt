-- The laws of forests and of what a table tells of them.
use Rattle.std.specs.Prelude.{List, length}
use Rattle.np_model.specs.Basis.Pieces.{PieceLists}
use Rattle.np_model.specs.Basis.Pivots.{IsPivot}
use Rattle.np_model.specs.Basis.States.{State, values_of, IsState}
use Rattle.np_basis.specs.PivotLaws.{HasRealArcs, ArePiecesOf}
use Rattle.tree_table.specs.Passes.{Opening, Pivoted}
use Rattle.tree_table.specs.Replay.{Turns}
use Rattle.pivot_workers.specs.Forests.{network_at, AreForest}

-- where the pieces there are some of a state, a pivot on one or two of them is a pivot of that state, and the pieces there after it are pieces of the
-- state after
abbrev pub TurnsArePivots : Type 0
TurnsArePivots = (opening : Opening) (s : State) (pieces next : List PieceLists) (pivoted : Pivoted) → HasRealArcs (network_at opening) (length opening.net.arcs)
    → IsState (network_at opening) s → ArePiecesOf (network_at opening) (values_of s) pieces → Turns opening pieces pivoted next
    → (after : State) × IsPivot (network_at opening) (length opening.net.arcs) s pivoted.entry after × ArePiecesOf (network_at opening) (values_of after) next

-- and where they are all pieces of a state, so they are after it
abbrev pub ForestIsKept : Type 0
ForestIsKept = (opening : Opening) (pieces next : List PieceLists) (pivoted : Pivoted) → HasRealArcs (network_at opening) (length opening.net.arcs)
    → AreForest (network_at opening) pieces → Turns opening pieces pivoted next → AreForest (network_at opening) next
