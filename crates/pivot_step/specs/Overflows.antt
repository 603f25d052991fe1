-- Moves of pieces, and the operations of rows A6, A3 and A7 that overflow when they are made. (This project's own.)
use Rattle.std.specs.Prelude.{ℕ, List, ◌∷◌}
use Rattle.std.specs.List.Sorted.{IsStrictlyIncreasing}
use Rattle.gain_graphs.specs.Arcs.{IsIn}
use Rattle.np_frac.specs.Ratio.{Ratio, zero_ratio}
use Rattle.np_model.specs.declared.log.Entry.{Entry}
use Rattle.np_model.specs.Network.Flows.{Network}
use Rattle.np_model.specs.Basis.Graphs.{ends_at}
use Rattle.np_model.specs.Basis.Moves.{IsEligible}
use Rattle.np_model.specs.Basis.Pieces.{PieceLists, beside, basics_of}
use Rattle.np_model.specs.Basis.Sound.{values_in, AreSound, IsAfter}
use Rattle.np_model.specs.Basis.Needed.{AreNeededFor, IsMoveOf}
use Rattle.np_model.specs.Rows.Moving.{numbers_of_steps}
use Rattle.np_model.specs.Basis.Attempts.{FlowsFit}

-- the sound pieces that an eligible arc needs
pub record AreReady (net : Network) (real : ℕ) (pieces : List PieceLists) (enter : ℕ) : Type 0 where
  pub sound : AreSound net pieces
  pub needed : AreNeededFor pieces (ends_at net.arcs enter)
  pub eligible : IsEligible net real (values_in net pieces) enter

-- a move of these pieces, with the amounts of its direction in ascending number of the arcs
pub record IsMoveBy (net : Network) (pieces : List PieceLists) (entry : Entry) (steps : List (ℕ × Ratio)) (t : Ratio) : Type 0 where
  pub ascend : IsStrictlyIncreasing (numbers_of_steps steps)
  pub own : (a : ℕ) → IsIn a (numbers_of_steps steps) → IsIn a (entry.enter ∷ basics_of pieces)
  pub move : IsMoveOf net pieces entry (beside zero_ratio steps) t

-- the pieces become these others by the move, and no operation of row A6 overflows (none of A3 and A7 does on sound pieces)
pub record IsMade (net : Network) (real : ℕ) (pieces : List PieceLists) (entry : Entry) (steps : List (ℕ × Ratio)) (t : Ratio) (after : List PieceLists) : Type 0 where
  pub is_after : IsAfter net real pieces entry after
  pub flows_fit : FlowsFit net pieces steps t
