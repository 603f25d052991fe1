use Rattle.std.proofs.Common.{◌≡◌, Ok, take}
use Rattle.std.specs.List.{enumerate_from}
use Rattle.np_frac.specs.Ratio.{zero_ratio}
use Rattle.np_frac.proofs.Folds.{run}
use Rattle.cert_checker.specs.Walk.{add_supply}
use Rattle.cert_checker.proofs.gap.supply_worth.Given as goal

abbrev pub invariant-loop-node : goal.invariant-loop-node
invariant-loop-node l = Ok l.running ≡ run (add_supply l.supply) (Ok zero_ratio) (take l.node (enumerate_from 0 l.prices))
