use Rattle.std.specs.Prelude.{Option, slice_set, option_to_list}
use Rattle.std.proofs.lemmas.List.{append-nil}
use Rattle.std.proofs.Common.{ap, sym, ◌∙◌, ◌++◌, arith}
use Rattle.quasi_tree.specs.Store.{Store}
use Rattle.simplex_driver.proofs.Emptied.{one_more_taken}
use Rattle.simplex_driver.proofs.Turned.{taken_at}
use Rattle.simplex_driver.proofs.rounds.take_pieces.Goals.{in-Some+in_ok-push, in_default}
use Rattle.simplex_driver.proofs.rounds.take_pieces.Goals as goal

pub loop-node-preserved : goal.loop-node-preserved
loop-node-preserved c =
    one_more_taken c.args.slots.now c.loop-node.node c.loop-node.slots c.loop-node.pieces.items c.loop-node.invariant (omega (arith, c.loop-node-test.true, c.loop-node.invariant.long))
    c.take.result (taken_at c.loop-node.slots c.loop-node.node c.index-slots-node.result c.take.result c.index-slots-node.is c.take.ensures.value (omega (arith, c.loop-node-test.true, c.loop-node.invariant.long)))
    (slice_set c.loop-node.slots c.loop-node.node c.take.new.self) (ap (slice_set c.loop-node.slots c.loop-node.node) c.take.ensures.after)
    c.match-take.pieces.items
    (elim c.match-take.branch [
      | in-Some+in_ok-push w ↦ ap (λ v. v.items) w.pieces-is ∙ w.in_ok-push.ensures.items ∙ ap (λ (o : Option Store). c.loop-node.pieces.items ++ option_to_list o) (sym w.in-Some.is)
      | in_default w ↦ ap (λ v. v.items) w.pieces-is ∙ sym (append-nil c.loop-node.pieces.items) ∙ ap (λ (o : Option Store). c.loop-node.pieces.items ++ option_to_list o) (sym w.in_default.is)
    ])
