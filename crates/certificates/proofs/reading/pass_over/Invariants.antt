use Rattle.std.proofs.Common.{◌≡◌, drop}
use Rattle.certificates.proofs.reading.pass_over.Given as goal

abbrev pub invariant-loop-place : goal.invariant-loop-place
invariant-loop-place l = l.records ≡ drop l._place l.fn.records
