use Rattle.std.proofs.Common.{◌≡◌, None, take, map}
use Rattle.cert_checker.specs.Walk.{upper_clause, first_refusal}
use Rattle.cert_checker.specs.Steps.Arcs.{as_stage}
use Rattle.cert_checker.proofs.gap.check_uppers.Given as goal

abbrev pub invariant-loop-i : goal.invariant-loop-i
invariant-loop-i l = first_refusal (upper_clause l.prices) (take l.i (map as_stage l.arcs)) ≡ None
