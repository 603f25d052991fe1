-- The parts that a scheme is made of.
use Rattle.std.specs.Prelude.{◌≡◌, ℕ, List}
use Rattle.np_frac.specs.Ratio.{Ratio}
use Rattle.np_model.specs.declared.scheme.Flow.{Flow}
use Rattle.np_model.specs.declared.scheme.Scheme.{Scheme}

-- the scheme has these parts
pub record IsOfParts (scheme : Scheme) (periods : ℕ) (nodes : List (List ℕ)) (supply : List Ratio) (flows : List Flow) : Type 0 where
  pub periods_are : scheme.periods ≡ periods
  pub nodes_are : scheme.nodes ≡ nodes
  pub supply_is : scheme.supply ≡ supply
  pub flows_are : scheme.flows ≡ flows
