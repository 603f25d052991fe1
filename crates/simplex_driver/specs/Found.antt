-- What the next step of a run is.
use Rattle.std.specs.Prelude.{◌≡◌, ◌≤◌, ◌↔◌, ℕ, List, length, Bool, true, false, Err, ⊤}
use Rattle.std.specs.Result.{IsOk}
use Rattle.gain_graphs.specs.Arcs.{IsIn}
use Rattle.np_model.specs.declared.rows.Overflow.{Overflow}
use Rattle.np_model.specs.Network.Flows.{Network}
use Rattle.np_model.specs.Basis.Moves.{IsEligible}
use Rattle.np_model.specs.Basis.States.{Values}
use Rattle.np_model.specs.Rows.Prices.{price_of}
use Rattle.np_runs.specs.Ended.{AttemptOverflows, AttemptFindsRay}
use Rattle.np_runs.specs.Runs.{IsOpenOutside}
use Rattle.arc_pricing.specs.declared.refusal.PriceRefusal.{PriceRefusal}
use Rattle.arc_pricing.specs.declared.refusal.PriceRefusal.TheVariants as refusal
use Rattle.piece_lists.specs.Parts.{lists_in}
use Rattle.simplex_driver.specs.declared.stepping.Found.{Found}
use Rattle.simplex_driver.specs.declared.stepping.Found.TheVariants as found
use Rattle.simplex_driver.specs.Picks.{CanPivot}

module _ (net : Network) (real : ℕ) (s : Values) where
  -- no price of an open arc outside the basis overflows
  abbrev pub AllPricesFit : Type 0
  AllPricesFit = (a : ℕ) → IsOpenOutside net real s a → IsOk (price_of net s.potential a)

  abbrev pub NoneEligible : Type 0
  NoneEligible = (a : ℕ) → ¬ IsEligible net real s a

  -- the price of an open arc outside the basis overflows
  pub record APriceOverflows (overflow : Overflow) : Type 0 where
    pub arc : ℕ
    pub is_open : IsOpenOutside net real s arc
    pub past : price_of net s.potential arc ≡ Err overflow

  -- each attempt with an eligible arc overflows, and that with one of them so
  pub record EachOverflows (overflow : Overflow) : Type 0 where
    pub arc : ℕ
    pub eligible : IsEligible net real s arc
    pub past : AttemptOverflows net real s arc overflow
    pub all : (a : ℕ) → IsEligible net real s a → (other : Overflow) × AttemptOverflows net real s a other

  -- the eligible arcs, and no others, in a list that is no longer than that of the real arcs
  abbrev pub AreListed : List ℕ → Type 0
  AreListed list = AllPricesFit × ((a : ℕ) → IsIn a list ↔ IsEligible net real s a) × (length list ≤ real)

  -- why there is no such list
  abbrev pub IsPriceCause : PriceRefusal → Type 0
  IsPriceCause (refusal.Past overflow) = APriceOverflows overflow
  IsPriceCause refusal.Memory = ⊤

  -- the next step, each kind with its cause
  abbrev pub IsFound : Bool → Found → Type 0
  IsFound spent (found.Pivot entry change list) = (spent ≡ false) × CanPivot net real s entry (lists_in change) × AreListed list
  IsFound spent found.NoneEnters = AllPricesFit × NoneEligible
  IsFound spent (found.Spent arc) = (spent ≡ true) × AllPricesFit × IsEligible net real s arc
  IsFound spent (found.Ray direction) = (spent ≡ false) × AllPricesFit × ((arc : ℕ) × AttemptFindsRay net real s arc direction)
  IsFound spent (found.Price overflow) = APriceOverflows overflow
  IsFound spent (found.Attempts overflow) = (spent ≡ false) × AllPricesFit × EachOverflows overflow
  IsFound spent found.Memory = ⊤

-- a step without a pivot
abbrev pub IsStop : Found → Type 0
IsStop (found.Pivot entry change list) = ⊥
IsStop found.NoneEnters = ⊤
IsStop (found.Spent arc) = ⊤
IsStop (found.Ray direction) = ⊤
IsStop (found.Price overflow) = ⊤
IsStop (found.Attempts overflow) = ⊤
IsStop found.Memory = ⊤
