-- Numbers named for nodes.
use Rattle.std.specs.Prelude.{◌≡◌, ℕ, List, length}
use Rattle.gain_graphs.specs.Arcs.{IsIn}
use Rattle.np_model.specs.Basis.Pieces.{PieceLists, nodes_of}
use Rattle.pivot_workers.specs.Openings.{named_for, NameSlots, IsSeated}

-- this number is named for each of these nodes, and what is named for any other has not changed
pub record AreGiven (nodes : List ℕ) (number : ℕ) (old new : List ℕ) : Type 0 where
  pub long : length new ≡ length old
  pub given : (v : ℕ) → IsIn v nodes → named_for new v ≡ number
  pub kept : (v : ℕ) → (¬ IsIn v nodes) → named_for new v ≡ named_for old v

-- a number is named for each of n nodes, and for those of these pieces it is the least node of such a piece
pub record AreNamed (n : ℕ) (pieces : List PieceLists) (openings : List ℕ) : Type 0 where
  pub slots : NameSlots n openings
  pub seated : (v : ℕ) → IsIn v (nodes_of pieces) → IsSeated openings pieces v
