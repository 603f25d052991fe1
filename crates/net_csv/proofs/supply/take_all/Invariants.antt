use Rattle.std.proofs.Common.{◌≡◌}
use Rattle.std.specs.Prelude.{drop}
use Rattle.net_csv.specs.Steps.Supply.{IsFilled}
use Rattle.net_csv.proofs.supply.take_all.Given as goal

abbrev pub invariant-loop-place : goal.invariant-loop-place
invariant-loop-place l = IsFilled l.amounts (drop l.place l.supplies) × (l.amounts.periods ≡ l.fn.periods) × (l.amounts.nodes ≡ l.fn.nodes)
