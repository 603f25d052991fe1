-- The law of sweeps.
use Rattle.std.specs.Prelude.{◌≡◌, ℕ, List, length}
use Rattle.np_model.specs.Basis.Pieces.{PieceLists}
use Rattle.np_basis.specs.PivotLaws.{HasRealArcs}
use Rattle.tree_table.specs.Passes.{Opening, Pivoted}
use Rattle.tree_table.specs.Weights.{AreSame}
use Rattle.pivot_workers.specs.Forests.{network_at, AreForest}
use Rattle.pivot_workers.specs.Sweeps.{IsSweep}

-- where the pieces there are all pieces of a state, a list of arcs and a quota have at most one sweep: its pivots are the same, and so are the pieces after it
abbrev pub SweepIsUnique : Type 0
SweepIsUnique = (opening : Opening) (openings : List ℕ) (now : List PieceLists) (arcs : List ℕ) (quota : ℕ) (log other : List Pivoted) (last later : List PieceLists)
    → HasRealArcs (network_at opening) (length opening.net.arcs) → AreForest (network_at opening) now → IsSweep opening openings now arcs quota log last
    → IsSweep opening openings now arcs quota other later → (log ≡ other) × AreSame last later
