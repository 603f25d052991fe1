use Rattle.tree_table.proofs.Seen.{opening_seen, seen_kept, one_seen, next_seen}
use Rattle.tree_table.proofs.laws.seen.Goals as goal

pub returns-clause-opening : goal.returns-clause-opening
returns-clause-opening c = opening_seen

pub returns-clause-kept : goal.returns-clause-kept
returns-clause-kept c = seen_kept

pub returns-clause-one : goal.returns-clause-one
returns-clause-one c = one_seen

pub returns-clause-next : goal.returns-clause-next
returns-clause-next c = next_seen
