-- The numbers that name for each node the piece that has it. (This project's own.)
use Rattle.std.specs.Prelude.{◌≡◌, ℕ, ◌<◌, List, length, slice_index_or}
use Rattle.gain_graphs.specs.Arcs.{IsIn}
use Rattle.np_model.specs.declared.arc.Ends.{Ends}
use Rattle.np_model.specs.declared.arc.Ends.TheVariants.{Link, Drain, Feed}
use Rattle.np_model.specs.Basis.Pieces.{PieceLists, nodes_in, least_node}

-- the number named for a node
abbrev pub named_for : List ℕ → ℕ → ℕ
named_for openings v = slice_index_or openings v 0

-- the piece that has the node is the one whose least node is named for it
abbrev pub IsSeated : List ℕ → List PieceLists → ℕ → Type 0
IsSeated openings pieces v = (piece : PieceLists) × IsIn piece pieces × IsIn v (nodes_in piece) × (least_node piece ≡ named_for openings v)

-- so it is at each end of an arc
abbrev pub AreSeated : List ℕ → List PieceLists → Ends → Type 0
AreSeated openings pieces (Link from to gain) = IsSeated openings pieces from × IsSeated openings pieces to
AreSeated openings pieces (Drain at) = IsSeated openings pieces at
AreSeated openings pieces (Feed at) = IsSeated openings pieces at

-- a number below n for each of n nodes
pub record NameSlots (n : ℕ) (openings : List ℕ) : Type 0 where
  pub one_each : length openings ≡ n
  pub near : (v : ℕ) → v < n → named_for openings v < n

-- for each of n nodes the least node of its piece
pub record AreOpenings (n : ℕ) (pieces : List PieceLists) (openings : List ℕ) : Type 0 where
  pub slots : NameSlots n openings
  pub seated : (v : ℕ) → v < n → IsSeated openings pieces v
