use Rattle.std.proofs.Common.{◌≡◌, drop}
use Rattle.cert_checker.specs.Walk.{end_of}
use Rattle.cert_checker.proofs.segment.end_of.Given as goal

abbrev pub invariant-loop-i : goal.invariant-loop-i
invariant-loop-i l = end_of l.flow.upper l.flow.bands ≡ end_of l.end (drop l.i l.bands)
