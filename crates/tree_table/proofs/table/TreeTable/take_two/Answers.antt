use Rattle.std.proofs.Common.{ap, ◌∙◌, subst}
use Rattle.tree_table.specs.Passes.{PassState}
use Rattle.tree_table.specs.Calls.{IsBusyTwo}
use Rattle.tree_table.proofs.InHand.{takes_one, busy_two}
use Rattle.tree_table.proofs.Kept.{slots_clear}
use Rattle.tree_table.proofs.table.TreeTable.take_two.Goals as goal

pub returns-in-Err-try_slot-clause-answer : goal.returns-in-Err-try_slot-clause-answer
returns-in-Err-try_slot-clause-answer g c =
    let p = c.pass.inside in
    let a = g.T.Piece.lists c.in-Ok.one in
    let bare = ap (λ k. k.view.hands) c.pass.view_is ∙ c.requires.bare in
    let clear = slots_clear p.seat p.shares p.hands p.slots p.spare p.made p.order c.pass.invariant bare in
    let got = c.in-Ok.ensures.ok in
    let missed = c.in-Err-try_slot.ensures.err in
    subst (λ (z : PassState). IsBusyTwo z.view c.args.first c.args.second c.args.second c.in-Err-try_slot.word c.put_slot.new.seat.me.0) c.pass.view_is
    (busy_two p.seat.me.0 bare clear c.args.first c.args.second a c.in-Err-try_slot.word c.try_slot.new.seat.me c.try_slot-in-Ok.new.seat.me c.put_slot.new.seat.me
    c.requires.near.0 got.0 (ap (λ m. m.0) got.1 ∙ takes_one p.seat.me.0 bare clear c.args.first a) missed (ap (λ m. m.0) c.put_slot.ensures.after))
