use Rattle.std.proofs.Common.{◌≡◌, length}
use Rattle.tree_flows.proofs.pieces.no_marks.Given as goal

abbrev pub invariant-loop : goal.invariant-loop
invariant-loop l = length l.list.items ≡ l.counter
