use Rattle.std.proofs.Common.{length}
use Rattle.certificates.proofs.SoFar.{IsSoFar}
use Rattle.certificates.proofs.reading.read_text.Given as goal

abbrev pub invariant-rows : goal.invariant-rows
invariant-rows l = IsSoFar l.skip l.index l.verdict l.fn.records l.records l.place l.draft

abbrev pub decreases-rows : goal.decreases-rows
decreases-rows l = length l.records
