use Rattle.std.proofs.Common.{take}
use Rattle.np_model.specs.Basis.Pieces.{nodes_in}
use Rattle.pivot_workers.specs.Steps.Given.{AreGiven}
use Rattle.pivot_workers.proofs.openings.name_nodes.Given as goal

abbrev pub invariant-loop-place : goal.invariant-loop-place
invariant-loop-place g l = AreGiven (take l.place (nodes_in (g.T.Piece.lists l.piece))) l.least l.initial.openings l.openings
