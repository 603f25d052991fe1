use Rattle.std.proofs.Common.{rules, arith, refl, ap, ◌∙◌}
use Rattle.std.specs.Prelude.{None}
use Rattle.tree_table.specs.Kinds.{putting}
use Rattle.atomic_table.specs.Table.{rest}
use Rattle.tree_table.proofs.SlotSteps.{puts_it}
use Rattle.tree_table.proofs.table.TreeTable.put_slot.Goals as goal

pub exchange-requires : goal.exchange-requires
exchange-requires g c = (c.requires.table, (None, c.requires.carried))

pub store-requires : goal.store-requires
store-requires g c = (
  search rules,
  let a = c.args.self.now.sized.0 in let b = c.requires.near in let t = ap (λ z. z.slots) c.requires.table in omega arith,
  puts_it g.T.Piece.lists _ _ _ _ _ c.args.seat.now.me.0 c.args.piece _ c.exchange.ensures.3
      (let b = c.requires.near in let t = ap (λ z. z.slots) c.requires.table in omega arith) c.requires.live c.requires.lies c.requires.listed c.requires.held c.requires.others,
)

pub returns-clause-after : goal.returns-clause-after
returns-clause-after g c = c.store.ensures.2 c.args.slot refl ∙ ap (λ m. (putting m.0 c.args.slot, rest m.1)) c.exchange.ensures.3
