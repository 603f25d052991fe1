use Rattle.std.proofs.Common.{◌≡◌, ◌-◌, ◌+◌, ◌++◌, take, drop}
use Rattle.tree_search.proofs.round.begun_at.Given as goal

abbrev pub invariant-loop-i : goal.invariant-loop-i
invariant-loop-i l = l.list.items ≡ take (l.i - (l.at + 1)) (drop (l.at + 1) l.round)

abbrev pub invariant-loop-i-2 : goal.invariant-loop-i-2
invariant-loop-i-2 l = l.list.items ≡ drop (l.at + 1) l.round ++ take l.i l.round
