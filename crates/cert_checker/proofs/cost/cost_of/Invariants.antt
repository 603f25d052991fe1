use Rattle.std.proofs.Common.{◌≡◌, Ok, take}
use Rattle.cert_checker.specs.Walk.{cost_of}
use Rattle.cert_checker.proofs.Pairs.{pairs_of}
use Rattle.cert_checker.proofs.cost.cost_of.Given as goal

abbrev pub invariant-loop-i : goal.invariant-loop-i
invariant-loop-i l = Ok l.running ≡ cost_of (take l.i (pairs_of l.arcs l.amounts))
