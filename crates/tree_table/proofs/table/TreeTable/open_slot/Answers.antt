use Rattle.std.proofs.Common.{rules, arith, refl, ap}
use Rattle.tree_table.proofs.SlotSteps.{opens_slot}
use Rattle.tree_table.proofs.table.TreeTable.open_slot.Goals as goal

pub compare_exchange-requires : goal.compare_exchange-requires
compare_exchange-requires g c =
    let t = ap (λ z. z.slots) c.requires.table in (
      search rules,
      let a = c.args.self.now.sized.0 in let b = c.requires.near in omega arith,
      opens_slot g.T.Piece.lists _ _ _ _ _ (let b = c.requires.near in omega arith) c.requires.live c.requires.held c.requires.unlisted,
    )

pub returns-clause-after : goal.returns-clause-after
returns-clause-after g c = (c.compare_exchange.ensures.2 c.args.slot refl).1
