-- What a ratio test is asked: pieces, and a direction to follow from them.
use Rattle.std.specs.Prelude.{◌≡◌, ◌≢◌, ◌⊎◌, ℕ, ◌<◌, Bool, true, false, List, length}
use Rattle.std.specs.List.Sorted.{IsStrictlyIncreasing}
use Rattle.gain_graphs.specs.Arcs.{IsIn}
use Rattle.np_frac.specs.Ratio.{Ratio, zero_ratio}
use Rattle.np_model.specs.declared.arc.Ends.{Ends}
use Rattle.np_model.specs.declared.log.Mark.{Mark}
use Rattle.np_model.specs.declared.log.Mark.TheVariants.{Lower, Upper}
use Rattle.np_model.specs.declared.piece.Direction.{Direction}
use Rattle.np_model.specs.Network.Arcs.{IsWithin}
use Rattle.np_model.specs.Network.Flows.{Network}
use Rattle.np_model.specs.Basis.Graphs.{arc_at, ends_at}
use Rattle.np_model.specs.Basis.Pieces.{PieceLists, basics_of, beside, AreApart}
use Rattle.np_model.specs.Basis.Sound.{IsInNet, HoldEnds, bound_at, values_in}
use Rattle.np_model.specs.Basis.States.{StandsAt}
use Rattle.np_basis.specs.PivotLaws.{unit_of}
use Rattle.np_model.specs.Rows.Moving.{numbers_of_steps}

-- pieces of the network that share no node, with flows within bounds
pub record AreWithin (net : Network) (pieces : List PieceLists) : Type 0 where
  pub in_net : (p : PieceLists) → IsIn p pieces → IsInNet net p
  pub apart : AreApart pieces
  pub within : (p : PieceLists) (b : ℕ × Ends × Ratio) → IsIn p pieces → IsIn b p.basics → IsWithin (arc_at net.arcs b.0) b.2

-- an arc outside the basis between nodes of the pieces, at a bound that it has
pub record IsOutside (net : Network) (pieces : List PieceLists) (enter : ℕ) : Type 0 where
  pub is_arc : enter < length net.arcs
  pub ends : HoldEnds pieces (ends_at net.arcs enter)
  pub not_basic : ¬ IsIn enter (basics_of pieces)
  pub at_bound : let mark = (values_in net pieces).mark enter in StandsAt (arc_at net.arcs enter) mark (bound_at (arc_at net.arcs enter) mark)

-- the bound towards which the entering arc goes
abbrev pub far_bound : Bool → Mark
far_bound true = Upper
far_bound false = Lower

-- steps in ascending order, none of them 0, on the entering arc and on basic arcs of the pieces
pub record IsAlong (pieces : List PieceLists) (direction : Direction) : Type 0 where
  pub ascend : IsStrictlyIncreasing (numbers_of_steps direction.steps)
  pub not_zero : (step : ℕ × Ratio) → IsIn step direction.steps → step.1 ≢ zero_ratio
  pub on_arcs : (a : ℕ) → IsIn a (numbers_of_steps direction.steps) → (a ≡ direction.enter) ⊎ IsIn a (basics_of pieces)
  pub enters : beside zero_ratio direction.steps direction.enter ≡ unit_of direction.up
