-- The supply, where the amounts that records give are taken from the last one backwards.
use Rattle.std.specs.Prelude.{◌≡◌, ℕ, ◌+◌, ◌*◌, ◌<◌, ◌≤◌, None, List, length, get_or}
use Rattle.std.specs.Option.{option_or}
use Rattle.net_csv.specs.declared.given.Given.{Given}
use Rattle.net_csv.specs.declared.supply.Amounts.{Amounts}
use Rattle.net_csv.specs.Network.{last_given}

-- a place for each node in each period, and one for each node
pub record HasSupplyPlaces (a : Amounts) : Type 0 where
  pub each : length a.each.items ≡ a.periods * a.nodes
  pub all : length a.all.items ≡ a.nodes
  pub few : a.nodes * a.periods ≤ 20000

-- what stands at each place is the last that these amounts give there
pub record IsFilled (a : Amounts) (given : List Given) : Type 0 where
  pub places : HasSupplyPlaces a
  pub last : (period node : ℕ) → period < a.periods → node < a.nodes
      → option_or (get_or a.each.items (period * a.nodes + node) None) (get_or a.all.items node None) ≡ last_given given node (period + 1)
