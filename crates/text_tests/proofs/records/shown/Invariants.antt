use Rattle.std.proofs.Common.{length}
use Rattle.text_tests.proofs.records.shown.Given as goal

abbrev pub decreases-rows : goal.decreases-rows
decreases-rows l = length l.left
