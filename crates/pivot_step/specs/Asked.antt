-- Steps of the code: whether an arc may enter, and the move that the ratio test finds.
use Rattle.std.specs.Prelude.{◌≡◌, ℕ, Option, Some, None, List, ⊤}
use Rattle.np_frac.specs.Ratio.{Ratio}
use Rattle.np_model.specs.declared.log.Entry.{Entry}
use Rattle.np_model.specs.declared.piece.Hands.{Hands}
use Rattle.np_model.specs.declared.piece.Prepared.{Prepared}
use Rattle.np_model.specs.declared.piece.Prepared.TheVariants as prepared
use Rattle.np_model.specs.Network.Flows.{Network}
use Rattle.np_model.specs.Basis.Moves.{IsEligible}
use Rattle.np_model.specs.Basis.Pieces.{PieceLists}
use Rattle.np_model.specs.Basis.Sound.{values_in}
use Rattle.quasi_tree.specs.Store.{Store}
use Rattle.piece_lists.specs.Parts.{lists_in}
use Rattle.tree_flows.specs.declared.refusal.DirRefusal.{DirRefusal}
use Rattle.tree_flows.specs.declared.refusal.DirRefusal.TheVariants as direction
use Rattle.pivot_step.specs.declared.testing.Standing.{Standing}
use Rattle.np_model.specs.Basis.Attempts.{PriceFits, MoveOverflows}
use Rattle.pivot_step.specs.Overflows.{IsMade}

-- whether the arc may enter, with its mark and its flow
abbrev pub IsTested : Network → ℕ → List PieceLists → ℕ → Option Standing → Type 0
IsTested net real pieces arc (Some found) =
    PriceFits net real pieces arc × IsEligible net real (values_in net pieces) arc × (found.mark ≡ (values_in net pieces).mark arc)
    × (found.flow ≡ (values_in net pieces).flow arc)
IsTested net real pieces arc None = PriceFits net real pieces arc × (¬ IsEligible net real (values_in net pieces) arc)

-- the answer to a move
abbrev pub IsMoved : Network → ℕ → List PieceLists → Entry → List (ℕ × Ratio) → Ratio → Prepared (Hands Store) → Type 0
IsMoved net real pieces entry steps t (prepared.Ready made change) = (made ≡ entry) × IsMade net real pieces entry steps t (lists_in change)
IsMoved net real pieces entry steps t prepared.NotEligible = ⊥
IsMoved net real pieces entry steps t (prepared.Ray ray) = ⊥
IsMoved net real pieces entry steps t (prepared.Past overflow) = MoveOverflows net pieces entry steps t overflow
IsMoved net real pieces entry steps t prepared.Memory = ⊤

abbrev pub of_direction : DirRefusal → Prepared (Hands Store)
of_direction (direction.Past overflow) = prepared.Past overflow
of_direction direction.Memory = prepared.Memory
