use Rattle.pivot_workers.proofs.States.{turns_are_pivots, forest_is_kept}
use Rattle.pivot_workers.proofs.laws.forests.Goals as goal

pub returns-clause-pivots : goal.returns-clause-pivots
returns-clause-pivots c = turns_are_pivots

pub returns-clause-kept : goal.returns-clause-kept
returns-clause-kept c = forest_is_kept
