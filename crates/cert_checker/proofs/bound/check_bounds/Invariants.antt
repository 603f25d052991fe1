use Rattle.std.proofs.Common.{◌≡◌, None, take}
use Rattle.cert_checker.specs.Walk.{bound_clause, first_refusal}
use Rattle.cert_checker.proofs.Pairs.{pairs_of}
use Rattle.cert_checker.proofs.bound.check_bounds.Given as goal

abbrev pub invariant-loop-i : goal.invariant-loop-i
invariant-loop-i l = first_refusal bound_clause (take l.i (pairs_of l.arcs l.amounts)) ≡ None
