use Rattle.std.proofs.Common.{rules, arith, subst, sym, List}
use Rattle.np_model.specs.Basis.Pieces.{PieceLists}
use Rattle.np_model.specs.declared.log.Entry.{Entry}
use Rattle.tree_table.specs.Replay.{Becomes}
use Rattle.tree_table.proofs.TicketSteps.{tickets}
use Rattle.tree_table.proofs.table.TreeTable.draw.Goals as goal

pub fetch_add-requires : goal.fetch_add-requires
fetch_add-requires g c = (
  search rules,
  let a = c.args.self.now.sized.0 in omega arith,
  tickets g.T.Piece.lists _ _ _ _ _ _ c.requires.live c.requires.room
      (subst (λ (z : Entry × List PieceLists). Becomes c.args.seat.now.me.0.opening c.args.seat.now.me.0.hands z.0 z.1) (λ i. (sym c.requires.given.0 i, sym c.requires.given.1 i)) c.requires.pivot),
)
