use Rattle.pivot_workers.proofs.Unique.{sweep_is_unique}
use Rattle.pivot_workers.proofs.sweeping.sweeps.Goals as goal

pub returns : goal.returns
returns c = record { unique = sweep_is_unique c.answers.ensures.exclude }
