use Rattle.std.proofs.Common.{map, take}
use Rattle.pivot_workers.specs.Steps.Given.{AreNamed}
use Rattle.pivot_workers.proofs.openings.opening_slots.Given as goal

abbrev pub invariant-loop-piece : goal.invariant-loop-piece
invariant-loop-piece g l = AreNamed l.nodes (map g.T.Piece.lists (take l.piece-index l.pieces)) l.items.items
