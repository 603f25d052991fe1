use Rattle.std.proofs.Common.{◌+◌, ◌*◌}
use Rattle.pivot_workers.proofs.halves.+crew.Given as goal

abbrev pub decreases-crew : goal.decreases-crew
decreases-crew g l = 2 * l.count

abbrev pub decreases-join+arg2 : goal.decreases-join+arg2
decreases-join+arg2 g l = 2 * l.half + 1

abbrev pub decreases-join+arg3 : goal.decreases-join+arg3
decreases-join+arg3 g l = 2 * l.other_half + 1
