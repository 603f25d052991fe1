use Rattle.std.proofs.Common.{◌≡◌, ◌≤◌, ◌++◌, length, take, reverse}
use Rattle.tree_search.specs.Finding.{back_from}
use Rattle.tree_search.proofs.round.way_back.Given as goal

abbrev pub invariant-loop-left : goal.invariant-loop-left
invariant-loop-left l = (l.left ≤ length l.steps) × (back_from (reverse l.steps) l.fn.node ≡ l.way.items ++ back_from (reverse (take l.left l.steps)) l.at)

abbrev pub decreases-loop-left : goal.decreases-loop-left
decreases-loop-left l = l.left
