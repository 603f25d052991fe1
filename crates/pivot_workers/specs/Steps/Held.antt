-- An attempt with its pieces in hand.
use Rattle.std.specs.Prelude.{ℕ, Option, Some, None, List}
use Rattle.np_model.specs.declared.piece.Direction.{Direction}
use Rattle.np_model.specs.declared.piece.Hands.{Hands}
use Rattle.np_model.specs.declared.piece.Hands.TheVariants.{One, Two}
use Rattle.np_model.specs.Basis.Attempts.{PriceFits, IsRay, FirstOverflow}
use Rattle.np_model.specs.Basis.Moves.{IsEligible}
use Rattle.np_model.specs.Basis.Pieces.{PieceLists}
use Rattle.np_model.specs.Basis.Sound.{values_in}
use Rattle.np_model.specs.Network.Flows.{Network}
use Rattle.tree_table.specs.Passes.{PassState}
use Rattle.pivot_workers.specs.declared.attempting.Attempted.{Attempted}
use Rattle.pivot_workers.specs.declared.attempting.Attempted.TheVariants as attempted
use Rattle.pivot_workers.specs.Attempts.{HasNoMore, HasPivoted}

-- a change names the one piece in hand, or the two
abbrev pub NamesHands : {T : Type 0} → (T → Option T → Type 0) → Hands T → Type 0
NamesHands names (One piece) = names piece None
NamesHands names (Two piece other) = names piece (Some other)

-- the answer on pieces in hand, which are home again
abbrev pub IsTriedOn : Network → ℕ → PassState → PassState → List PieceLists → ℕ → Attempted → Type 0
IsTriedOn net real p q pieces arc (attempted.Pivoted ticket) = HasPivoted net real p q pieces arc ticket
IsTriedOn net real p q pieces arc (attempted.Busy slot word) = ⊥
IsTriedOn net real p q pieces arc (attempted.Stale node slot) = ⊥
IsTriedOn net real p q pieces arc attempted.NotEligible = HasNoMore p q × PriceFits net real pieces arc × (¬ IsEligible net real (values_in net pieces) arc)
IsTriedOn net real p q pieces arc attempted.Ray = HasNoMore p q × ((direction : Direction) × IsRay net real pieces arc direction)
IsTriedOn net real p q pieces arc (attempted.Past overflow) = HasNoMore p q × FirstOverflow net real pieces arc overflow
IsTriedOn net real p q pieces arc attempted.Memory = HasNoMore p q × PriceFits net real pieces arc × IsEligible net real (values_in net pieces) arc
