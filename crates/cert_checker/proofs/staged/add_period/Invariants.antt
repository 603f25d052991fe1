use Rattle.std.proofs.Common.{◌≡◌, ◌++◌, map}
use Rattle.cert_checker.specs.Steps.Arcs.{as_stage}
use Rattle.cert_checker.proofs.Arcs.{so_many}
use Rattle.cert_checker.proofs.staged.add_period.Given as goal

abbrev pub invariant-loop-i : goal.invariant-loop-i
invariant-loop-i l = map as_stage l.arcs.items ≡ map as_stage l.fn.arcs.items ++ so_many l.scheme l.period l.i
