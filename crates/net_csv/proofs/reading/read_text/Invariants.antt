use Rattle.std.proofs.Common.{length}
use Rattle.net_csv.proofs.SoFar.{IsSoFar}
use Rattle.net_csv.proofs.reading.read_text.Given as goal

abbrev pub invariant-rows : goal.invariant-rows
invariant-rows l = IsSoFar l.fn.records l.records l.place l.draft

abbrev pub decreases-rows : goal.decreases-rows
decreases-rows l = length l.records
