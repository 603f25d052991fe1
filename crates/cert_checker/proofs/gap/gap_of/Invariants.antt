use Rattle.std.proofs.Common.{◌≡◌, Ok, take, map}
use Rattle.std.specs.List.{enumerate_from}
use Rattle.np_frac.specs.Ratio.{zero_ratio}
use Rattle.np_frac.proofs.Folds.{run}
use Rattle.cert_checker.specs.Walk.{add_supply, add_least}
use Rattle.cert_checker.specs.Steps.Arcs.{as_stage}
use Rattle.cert_checker.proofs.gap.gap_of.Given as goal

abbrev pub invariant-loop-i : goal.invariant-loop-i
invariant-loop-i l = Ok l.running ≡ run (add_least l.prices) (run (add_supply l.supply) (Ok zero_ratio) (enumerate_from 0 l.prices)) (take l.i (map as_stage l.arcs))
