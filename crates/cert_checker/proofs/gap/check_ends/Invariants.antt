use Rattle.std.proofs.Common.{◌≡◌, None, take, map}
use Rattle.cert_checker.specs.Walk.{end_clause, first_refusal}
use Rattle.cert_checker.specs.Steps.Arcs.{as_stage}
use Rattle.cert_checker.proofs.gap.check_ends.Given as goal

abbrev pub invariant-loop-i : goal.invariant-loop-i
invariant-loop-i l = first_refusal end_clause (take l.i (map as_stage l.arcs)) ≡ None
