-- The candidates: the eligible arcs in cyclic order. (That order and what is told of an overflow are this project's own.)
use Rattle.std.specs.Prelude.{◌≡◌, ◌≢◌, ℕ, ◌-◌, Bool, List, [], ◌∷◌, ◌++◌, min, filter, Result, Ok, Err, ⊤}
use Rattle.std.specs.Result.{IsOk}
use Rattle.std.specs.List.{range_with_len}
use Rattle.gain_graphs.specs.Arcs.{IsIn}
use Rattle.np_frac.specs.Ratio.{Ratio}
use Rattle.np_model.specs.declared.log.Mark.{Mark}
use Rattle.np_model.specs.declared.log.Mark.TheVariants.{Basic}
use Rattle.np_model.specs.declared.rows.Overflow.{Overflow}
use Rattle.np_model.specs.Network.Flows.{Network}
use Rattle.np_model.specs.Basis.Moves.{IsOpen}
use Rattle.np_model.specs.Basis.States.{Values, values_of}
use Rattle.arc_pricing.specs.Prices.{is_eligible}
use Rattle.np_model.specs.Rows.Prices.{price_of}
use Rattle.arc_pricing.specs.declared.refusal.PriceRefusal.{PriceRefusal}
use Rattle.arc_pricing.specs.declared.refusal.PriceRefusal.TheVariants as refusal

-- the numbers below n: those from `from` on, and then those before it
abbrev pub cyclic : ℕ → ℕ → List ℕ
cyclic from n = range_with_len from (n - from) ++ range_with_len 0 (min from n)

-- what these marks and potentials say of arcs and nodes (which arcs are eligible does not depend on flows)
abbrev pub values_by : List Mark → List Ratio → Values
values_by marks potentials = values_of (record { marks = marks; flows = []; potentials = potentials })

-- the arcs whose price is asked for: the open ones outside the basis
abbrev pub IsPriced : Network → ℕ → Values → ℕ → Type 0
IsPriced net real s a = IsOpen net real a × (s.mark a ≢ Basic)

-- no operation of the arc's price overflows, where it is asked for
abbrev pub PriceFits : Network → ℕ → Values → ℕ → Type 0
PriceFits net real s a = IsPriced net real s a → IsOk (price_of net s.potential a)

-- the eligible ones of these arcs, in this order, where no price of them overflows
pub record AreCandidates (net : Network) (real : ℕ) (s : Values) (order list : List ℕ) : Type 0 where
  pub eligible : list ≡ filter (is_eligible net real s) order
  pub fit : (a : ℕ) → IsIn a order → PriceFits net real s a

-- the overflow of the first of these arcs, in this order, whose price overflows
pub record IsFirstOverflow (net : Network) (real : ℕ) (s : Values) (order : List ℕ) (overflow : Overflow) : Type 0 where
  pub before : List ℕ
  pub arc : ℕ
  pub after : List ℕ
  pub in_order : order ≡ before ++ arc ∷ after
  pub earlier : (a : ℕ) → IsIn a before → PriceFits net real s a
  pub priced : IsPriced net real s arc
  pub overflows : price_of net s.potential arc ≡ Err overflow

-- why there is no list
abbrev pub IsCause : Network → ℕ → Values → List ℕ → PriceRefusal → Type 0
IsCause net real s order (refusal.Past overflow) = IsFirstOverflow net real s order overflow
IsCause net real s order refusal.Memory = ⊤

-- ---- one arc

-- whether the arc is eligible, where its price does not overflow; or its overflow
abbrev pub IsTested : Network → ℕ → Values → ℕ → Result Bool Overflow → Type 0
IsTested net real s a (Ok b) = (b ≡ is_eligible net real s a) × PriceFits net real s a
IsTested net real s a (Err overflow) = IsPriced net real s a × (price_of net s.potential a ≡ Err overflow)
