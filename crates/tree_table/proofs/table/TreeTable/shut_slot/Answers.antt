use Rattle.std.proofs.Common.{rules, arith, ap}
use Rattle.tree_table.proofs.SlotSteps.{shuts_it}
use Rattle.tree_table.proofs.table.TreeTable.shut_slot.Goals as goal

pub store-requires : goal.store-requires
store-requires g c =
    let t = ap (λ z. z.slots) c.requires.table in (
      search rules,
      let a = c.args.self.now.sized.0 in let b = c.requires.near in omega arith,
      shuts_it g.T.Piece.lists _ _ _ _ _ _ c.requires.carried (let b = c.requires.near in omega arith) c.requires.live c.requires.listed,
    )
