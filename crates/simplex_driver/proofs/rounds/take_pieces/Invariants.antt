use Rattle.simplex_driver.proofs.Emptied.{IsEmptiedTo}
use Rattle.simplex_driver.proofs.rounds.take_pieces.Given as goal

abbrev pub invariant-loop-node : goal.invariant-loop-node
invariant-loop-node l = IsEmptiedTo l.initial.slots l.node l.slots l.pieces.items
