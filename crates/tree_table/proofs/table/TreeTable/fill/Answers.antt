use Rattle.std.proofs.Common.{rules, arith, sym, ap, ◌∙◌, subst, ℕ, map}
use Rattle.tree_table.specs.Slots.{HaveSlots}
use Rattle.tree_table.proofs.Filling.{popped, gone_held, filled_me, held_here}
use Rattle.tree_table.proofs.table.TreeTable.fill.Goals as goal

pub least-slot-requires : goal.least-slot-requires
least-slot-requires g c = let i = c.loop-piece.invariant in (popped g.T.Piece.lists c.loop-piece.seat.table_id.slots c.loop-piece.pieces.items c.pop.new.self.items c.in-Some.piece c.in-Some.ensures.items i.2 i.3).lies

pub open_slot-requires-clause-near : goal.open_slot-requires-clause-near
open_slot-requires-clause-near g c κs within = let i = c.loop-piece.invariant in let p = popped g.T.Piece.lists c.loop-piece.seat.table_id.slots c.loop-piece.pieces.items c.pop.new.self.items c.in-Some.piece c.in-Some.ensures.items i.2 i.3 in
    let e = c.least-slot.ensures in let b = p.near in omega arith

pub open_slot-requires-clause-held : goal.open_slot-requires-clause-held
open_slot-requires-clause-held g c κs within = let i = c.loop-piece.invariant in let p = popped g.T.Piece.lists c.loop-piece.seat.table_id.slots c.loop-piece.pieces.items c.pop.new.self.items c.in-Some.piece c.in-Some.ensures.items i.2 i.3 in
    held_here _ _ _ _ p c.least-slot.result c.loop-piece.seat.me.0 c.least-slot.ensures (ap (λ m. m.0.hands) i.1)

pub put_slot-requires-clause-near : goal.put_slot-requires-clause-near
put_slot-requires-clause-near g c κs within = let i = c.loop-piece.invariant in let p = popped g.T.Piece.lists c.loop-piece.seat.table_id.slots c.loop-piece.pieces.items c.pop.new.self.items c.in-Some.piece c.in-Some.ensures.items i.2 i.3 in
    let e = c.least-slot.ensures in let b = p.near in let t = ap (λ z. z.slots) c.open_slot.ensures.same.0 in omega arith

pub put_slot-requires-clause-lies : goal.put_slot-requires-clause-lies
put_slot-requires-clause-lies g c κs within = let i = c.loop-piece.invariant in let p = popped g.T.Piece.lists c.loop-piece.seat.table_id.slots c.loop-piece.pieces.items c.pop.new.self.items c.in-Some.piece c.in-Some.ensures.items i.2 i.3 in
    (sym c.least-slot.ensures, p.lies)

pub put_slot-requires-clause-held : goal.put_slot-requires-clause-held
put_slot-requires-clause-held g c κs within = let i = c.loop-piece.invariant in let p = popped g.T.Piece.lists c.loop-piece.seat.table_id.slots c.loop-piece.pieces.items c.pop.new.self.items c.in-Some.piece c.in-Some.ensures.items i.2 i.3 in
    gone_held _ _ _ _ p c.least-slot.result c.open_slot.new.seat.me.0 c.least-slot.ensures (ap (λ m. m.0.hands) c.open_slot.ensures.after ∙ ap (λ m. m.0.hands) i.1)

pub loop-piece-preserved : goal.loop-piece-preserved
loop-piece-preserved g c = let i = c.loop-piece.invariant in let p = popped g.T.Piece.lists c.loop-piece.seat.table_id.slots c.loop-piece.pieces.items c.pop.new.self.items c.in-Some.piece c.in-Some.ensures.items i.2 i.3 in
    (search rules, filled_me _ _ _ _ p c.least-slot.result c.args.seat.now.me.0 c.loop-piece.seat.me c.open_slot.new.seat.me c.put_slot.new.seat.me c.least-slot.ensures c.requires.slots i.1 c.open_slot.ensures.after c.put_slot.ensures.after, subst (λ (n : ℕ). HaveSlots n (map g.T.Piece.lists c.pop.new.self.items)) (sym (ap (λ z. z.slots) (c.put_slot.ensures.same.0 ∙ c.open_slot.ensures.same.0))) p.all, p.apart)
