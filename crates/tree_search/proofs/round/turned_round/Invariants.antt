use Rattle.std.proofs.Common.{◌≡◌, ◌≤◌, ◌++◌, length, take, reverse}
use Rattle.tree_search.specs.Finding.{flips}
use Rattle.tree_search.proofs.round.turned_round.Given as goal

abbrev pub invariant-loop-left : goal.invariant-loop-left
invariant-loop-left l = (l.left ≤ length l.round) × (flips (reverse l.round) ≡ l.list.items ++ flips (reverse (take l.left l.round)))

abbrev pub decreases-loop-left : goal.decreases-loop-left
decreases-loop-left l = l.left
