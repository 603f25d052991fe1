-- The laws of prices.
use Rattle.std.specs.Prelude.{◌≡◌, ◌↔◌, ℕ, ◌<◌, Ok, IsTrue}
use Rattle.gain_graphs.specs.Arcs.{IsIn}
use Rattle.np_frac.specs.Ratio.{Ratio}
use Rattle.np_model.specs.Network.Flows.{Network}
use Rattle.np_model.specs.Basis.Graphs.{arc_at}
use Rattle.np_model.specs.Basis.Moves.{IsEligible}
use Rattle.np_model.specs.Basis.States.{Values, price}
use Rattle.arc_pricing.specs.Prices.{is_eligible}
use Rattle.np_model.specs.Rows.Prices.{price_of}
use Rattle.arc_pricing.specs.Candidates.{cyclic}

-- what row A2 finds is the reduced cost by these potentials
abbrev pub PricesAreExact : Type 0
PricesAreExact = (net : Network) (potential : ℕ → Ratio) (a : ℕ) (r : Ratio) → price_of net potential a ≡ Ok r → r ≡ price potential (arc_at net.arcs a)

-- the test finds the eligible arcs
abbrev pub EligibleByTest : Type 0
EligibleByTest = (net : Network) (real : ℕ) (s : Values) (a : ℕ) → IsTrue (is_eligible net real s a) ↔ IsEligible net real s a

-- the cyclic order has each number below n
abbrev pub CyclicHasAll : Type 0
CyclicHasAll = (from n a : ℕ) → IsIn a (cyclic from n) ↔ (a < n)
