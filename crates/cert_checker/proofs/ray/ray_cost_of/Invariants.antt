use Rattle.std.proofs.Common.{◌≡◌, Ok, take}
use Rattle.cert_checker.specs.Walk.{ray_cost_of}
use Rattle.cert_checker.proofs.Pairs.{pairs_of}
use Rattle.cert_checker.proofs.ray.ray_cost_of.Given as goal

abbrev pub invariant-loop-i : goal.invariant-loop-i
invariant-loop-i l = Ok l.running ≡ ray_cost_of (take l.i (pairs_of l.arcs l.ray))
