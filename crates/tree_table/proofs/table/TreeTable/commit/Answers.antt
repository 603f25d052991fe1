use Rattle.std.proofs.Common.{◌≡◌, ℕ, List, ap, sym, subst, ◌∙◌}
use Rattle.tree_table.specs.Passes.{PassState, slot_count}
use Rattle.tree_table.specs.Replay.{Becomes}
use Rattle.tree_table.specs.Calls.{lists_in}
use Rattle.tree_table.specs.Steps.Kept.{GoHome}
use Rattle.tree_table.proofs.GoingHome.{go_home_after}
use Rattle.tree_table.proofs.table.TreeTable.commit.Goals as goal

pub home_all-requires-clause-go_home : goal.home_all-requires-clause-go_home
home_all-requires-clause-go_home g c κs within =
    let p = c.pass.inside in
    let v = p.seat.me.0 in
    let after = lists_in g.T.Piece.lists c.args.hands in
    let pivot : Becomes v.opening v.hands c.args.entry after = subst (λ (z : PassState). Becomes z.view.opening z.view.hands c.args.entry after) (sym c.pass.view_is) c.requires.pivot in
    let home : GoHome (slot_count v) v.slots v.hands = subst (λ (n : ℕ). GoHome n v.slots v.hands) c.pass.invariant.counts c.pass.invariant.go_home in
    let count : slot_count v ≡ c.draw-ticket.new.seat.table_id.slots = sym c.pass.invariant.counts ∙ sym (ap (λ z. z.slots) c.draw-ticket.ensures.same.0) in
    subst (λ (z : ℕ × List ℕ). GoHome z.0 z.1 after) (λ i. (count i, c.pass.invariant.slots_are i)) (go_home_after _ _ _ v.slots v.hands after pivot home)
