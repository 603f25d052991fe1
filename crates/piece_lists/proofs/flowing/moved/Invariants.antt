use Rattle.piece_lists.proofs.Walking.{Walked}
use Rattle.piece_lists.proofs.flowing.moved.Given as goal

abbrev pub invariant-loop-arc : goal.invariant-loop-arc
invariant-loop-arc l = Walked l.arcs l.steps l.step l.arc-index l.next l.list.items
