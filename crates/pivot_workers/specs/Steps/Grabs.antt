-- Pieces taken from one slot or two.
use Rattle.std.specs.Prelude.{◌≡◌, ℕ, List}
use Rattle.np_model.specs.declared.piece.Hands.{Hands}
use Rattle.np_model.specs.Basis.Pieces.{PieceLists}
use Rattle.tree_table.specs.Passes.{View, IsIdle}
use Rattle.pivot_workers.specs.declared.seeing.Grabbed.{Grabbed}
use Rattle.pivot_workers.specs.declared.seeing.Grabbed.TheVariants as grabbed
use Rattle.pivot_workers.specs.Takes.{HasTaken, IsMissed}

-- all but the hands, slots, looks and the pieces got are as before
abbrev pub IsElsewhere : View → View → Type 0
IsElsewhere v w = (w.opening ≡ v.opening) × (w.shares ≡ v.shares) × (w.entries ≡ v.entries)

-- the pieces are in hand
pub record HasGrabbed (v w : View) (slots : List ℕ) (pieces : List PieceLists) : Type 0 where
  pub hands : w.hands ≡ pieces
  pub got : w.got ≡ pieces
  pub elsewhere : IsElsewhere v w
  pub taken : HasTaken v w slots

-- nothing is
pub record HasMissed (v w : View) (slots : List ℕ) (slot word : ℕ) : Type 0 where
  pub idle : IsIdle w
  pub elsewhere : IsElsewhere v w
  pub missed : IsMissed v w slots slot word

module _ {T : Type 0} where
  abbrev pub MatchGrabbed : Grabbed T → (Hands T → Type 0) → (ℕ → ℕ → Type 0) → Type 0
  MatchGrabbed (grabbed.Got hands) G B = G hands
  MatchGrabbed (grabbed.Busy slot word) G B = B slot word
