-- What is found when arcs are tried in the state at hand.
use Rattle.std.specs.Prelude.{ℕ, List, Option, Some, None, ⊤}
use Rattle.gain_graphs.specs.Arcs.{IsIn}
use Rattle.np_model.specs.declared.log.Entry.{Entry}
use Rattle.np_model.specs.declared.piece.Hands.{Hands}
use Rattle.np_model.specs.declared.piece.Prepared.{Prepared}
use Rattle.np_model.specs.declared.rows.Overflow.{Overflow}
use Rattle.np_model.specs.Network.Flows.{Network}
use Rattle.np_model.specs.Basis.Attempts.{IsPivoted, IsPrepared}
use Rattle.np_model.specs.Basis.Graphs.{ends_at}
use Rattle.np_model.specs.Basis.Needed.{AreNeededFor}
use Rattle.np_model.specs.Basis.Pieces.{PieceLists}
use Rattle.np_model.specs.Basis.States.{Values}
use Rattle.np_basis.specs.PivotLaws.{ArePiecesOf}
use Rattle.np_runs.specs.Ended.{AttemptOverflows, AttemptFindsRay}
use Rattle.quasi_tree.specs.Store.{Store}
use Rattle.piece_lists.specs.Parts.{lists_in}
use Rattle.simplex_driver.specs.declared.picking.Picked.{Picked}
use Rattle.simplex_driver.specs.declared.picking.Picked.TheVariants as picked

-- the answer to an attempt with the arc, on the pieces of what these values say that it needs
pub record IsAttempt (net : Network) (real : ℕ) (s : Values) (arc : ℕ) (result : Prepared (Hands Store)) : Type 0 where
  pub pieces : List PieceLists
  pub pieces_of : ArePiecesOf net s pieces
  pub needed : AreNeededFor pieces (ends_at net.arcs arc)
  pub prepared : IsPrepared net real pieces arc lists_in result

-- the pivot of this entry can be made on the pieces that its arc needs, and gives these
pub record CanPivot (net : Network) (real : ℕ) (s : Values) (entry : Entry) (after : List PieceLists) : Type 0 where
  pub pieces : List PieceLists
  pub pieces_of : ArePiecesOf net s pieces
  pub needed : AreNeededFor pieces (ends_at net.arcs entry.enter)
  pub pivoted : IsPivoted net real pieces entry.enter entry after

-- the first of two overflows
abbrev pub first_or : Option Overflow → Overflow → Overflow
first_or None now = now
first_or (Some before) now = before

-- the attempt with an arc of the list overflows so
pub record OneOverflows (net : Network) (real : ℕ) (s : Values) (list : List ℕ) (overflow : Overflow) : Type 0 where
  pub arc : ℕ
  pub listed : IsIn arc list
  pub overflows : AttemptOverflows net real s arc overflow

-- the attempt with each arc of the list overflows
abbrev pub AllOverflow : Network → ℕ → Values → List ℕ → Type 0
AllOverflow net real s list = (a : ℕ) → IsIn a list → (overflow : Overflow) × AttemptOverflows net real s a overflow

-- what the attempts with the listed arcs come to
abbrev pub IsPick : Network → ℕ → Values → List ℕ → Picked → Type 0
IsPick net real s list (picked.Ready entry change) = CanPivot net real s entry (lists_in change)
IsPick net real s list (picked.Ray direction) = (arc : ℕ) × AttemptFindsRay net real s arc direction
IsPick net real s list (picked.Past overflow) = OneOverflows net real s list overflow × AllOverflow net real s list
IsPick net real s list picked.Memory = ⊤
