use Rattle.std.proofs.Common.{length}
use Rattle.netplan_top.proofs.words.+job_of.Given as goal

abbrev pub decreases-job_of : goal.decreases-job_of
decreases-job_of l = length l.words.now
