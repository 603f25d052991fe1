use Rattle.std.proofs.Common.{length}
use Rattle.simplex_driver.specs.Opening.{HaveMarks}
use Rattle.simplex_driver.proofs.opening.marks_by_node.Given as goal

abbrev pub invariant-loop-arc : goal.invariant-loop-arc
invariant-loop-arc l = HaveMarks l.arcs (length l.net.supply) l.arc l.lists.items
