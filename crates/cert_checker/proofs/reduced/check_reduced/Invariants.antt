use Rattle.std.proofs.Common.{◌≡◌, None, take}
use Rattle.cert_checker.specs.Walk.{reduced_clause, first_refusal}
use Rattle.cert_checker.proofs.Pairs.{pairs_of}
use Rattle.cert_checker.proofs.reduced.check_reduced.Given as goal

abbrev pub invariant-loop-i : goal.invariant-loop-i
invariant-loop-i l = first_refusal (reduced_clause l.prices) (take l.i (pairs_of l.arcs l.amounts)) ≡ None
