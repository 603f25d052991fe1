use Rattle.std.proofs.Common.{rules, arith, refl, sym, ap, ◌∙◌, ◌∷◌}
use Rattle.std.specs.Prelude.{Some}
use Rattle.atomic_table.specs.Table.{rest}
use Rattle.tree_table.proofs.TakeSteps.{tries}
use Rattle.tree_table.proofs.Carried.{is_there, taken_out}
use Rattle.tree_table.proofs.table.TreeTable.try_slot.Goals as goal

pub compare_exchange-found-requires : goal.compare_exchange-found-requires
compare_exchange-found-requires g c =
    let t = ap (λ z. z.slots) c.requires.table in (
      search rules,
      let a = c.args.self.now.sized.0 in let b = c.requires.near in omega arith,
      tries g.T.Piece.lists _ _ _ _ _ (let b = c.requires.near in omega arith) c.requires.live,
    )

pub returns-then-found-ne-HOME-clause-err : goal.returns-then-found-ne-HOME-clause-err
returns-then-found-ne-HOME-clause-err g c = (c.compare_exchange-found.ensures.2 c.args.slot refl).1 c.if-found-ne-HOME.true

pub exchange-requires : goal.exchange-requires
exchange-requires g c =
    let t = (c.compare_exchange-found.ensures.2 c.args.slot refl).0 c.if-found-ne-HOME.false in
    (search rules, (Some t.0, ap (λ m. m.1) t.3 ∙ ap (λ l. (c.args.slot, Some t.0) ∷ rest l) (sym (ap (λ m. m.1) t.3))))

pub unwrap-requires : goal.unwrap-requires
unwrap-requires g c = is_there g.T.Piece.lists _ _ c.args.slot _ ((c.compare_exchange-found.ensures.2 c.args.slot refl).0 c.if-found-ne-HOME.false) c.exchange.ensures.2

pub returns-clause-ok : goal.returns-clause-ok
returns-clause-ok g c =
    taken_out g.T.Piece.lists _ _ _ c.args.slot _ _ ((c.compare_exchange-found.ensures.2 c.args.slot refl).0 c.if-found-ne-HOME.false) c.exchange.ensures.2 c.exchange.ensures.3 c.unwrap.ensures
