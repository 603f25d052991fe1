use Rattle.piece_lists.proofs.Picking.{Picked}
use Rattle.piece_lists.proofs.numbered.picked.Given as goal

abbrev pub invariant-loop-x : goal.invariant-loop-x
invariant-loop-x g l = Picked g.T.Numbered.number_of l.xs l.like l.x-index l.picked.items
