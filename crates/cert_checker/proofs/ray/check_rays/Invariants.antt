use Rattle.std.proofs.Common.{◌≡◌, None, take}
use Rattle.cert_checker.specs.Walk.{ray_clause, first_refusal}
use Rattle.cert_checker.proofs.Pairs.{pairs_of}
use Rattle.cert_checker.proofs.ray.check_rays.Given as goal

abbrev pub invariant-loop-i : goal.invariant-loop-i
invariant-loop-i l = first_refusal ray_clause (take l.i (pairs_of l.arcs l.ray)) ≡ None
