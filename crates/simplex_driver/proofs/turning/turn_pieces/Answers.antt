use Rattle.std.proofs.Common.{ap, sym, ◌∙◌, length, arith}
use Rattle.std.specs.Prelude.{Some, slice_index_or, slice_set}
use Rattle.np_model.specs.Basis.Phases.{phase_net}
use Rattle.np_model.specs.declared.phase.Phase.TheVariants.{Two}
use Rattle.simplex_driver.specs.Store.{potentials_of}
use Rattle.simplex_driver.proofs.Attempts.{place_in}
use Rattle.simplex_driver.proofs.Tables.{length_written}
use Rattle.simplex_driver.proofs.Turned as turned
use Rattle.simplex_driver.proofs.turning.turn_pieces.Goals as goal

pub potentials-requires : goal.potentials-requires
potentials-requires c = record {
  in_net = c.requires.can.each c.loop-node.node c.in-Some.piece
      (sym (c.loop-node.invariant.turned.rest c.loop-node.node (omega arith))
      ∙ turned.taken_at c.loop-node.slots c.loop-node.node c.index-slots-node.result c.take.result c.index-slots-node.is c.take.ensures.value (omega (arith, c.loop-node-test.true, c.loop-node.invariant.turned.long))
      ∙ c.in-Some.is);
}

pub write_potentials-requires : goal.write_potentials-requires
write_potentials-requires c k d l =
    let there = turned.taken_at c.loop-node.slots c.loop-node.node c.index-slots-node.result c.take.result c.index-slots-node.is c.take.ensures.value (omega (arith, c.loop-node-test.true, c.loop-node.invariant.turned.long)) ∙ c.in-Some.is in
    let n = slice_index_or c.potentials.new.piece.lists.nodes k d in
    let r = turned.own_node (phase_net Two c.args.full.now) c.args.slots.now c.requires.can c.loop-node.node c.in-Some.piece c.potentials.new.piece
    (sym (c.loop-node.invariant.turned.rest c.loop-node.node (omega arith)) ∙ there) c.potentials.ensures.nodes n (place_in c.potentials.new.piece.lists.nodes d k l) in
    omega (arith, r, c.requires.nodes, c.loop-node.invariant.long)

pub loop-node-preserved : goal.loop-node-preserved
loop-node-preserved c =
    let net = phase_net Two c.args.full.now in
    let there = turned.taken_at c.loop-node.slots c.loop-node.node c.index-slots-node.result c.take.result c.index-slots-node.is c.take.ensures.value (omega (arith, c.loop-node-test.true, c.loop-node.invariant.turned.long)) ∙ c.in-Some.is in
    let was = sym (c.loop-node.invariant.turned.rest c.loop-node.node (omega arith)) ∙ there in
    record {
      long = ap length c.write_potentials.ensures ∙ length_written (potentials_of c.potentials.new.piece.lists) c.loop-node.table ∙ c.loop-node.invariant.long;
      turned = turned.piece_more net c.args.slots.now c.requires.can c.loop-node.node c.loop-node.slots c.loop-node.table c.loop-node.invariant.turned c.loop-node-test.true
          c.in-Some.piece c.potentials.new.piece there c.potentials.ensures.nodes c.potentials.ensures.basics c.potentials.ensures.marks c.in_ok-potentials.ensures.answer
          (slice_set (slice_set c.loop-node.slots c.loop-node.node c.take.new.self) c.loop-node.node (Some c.potentials.new.piece))
          (ap (λ o. slice_set (slice_set c.loop-node.slots c.loop-node.node o) c.loop-node.node (Some c.potentials.new.piece)) c.take.ensures.after)
          c.write_potentials.new.potentials c.write_potentials.ensures
          (λ n i. let r = turned.own_node net c.args.slots.now c.requires.can c.loop-node.node c.in-Some.piece c.potentials.new.piece was c.potentials.ensures.nodes n i in omega (arith, r, c.requires.nodes, c.loop-node.invariant.long))
          (turned.own_entry net c.args.slots.now c.requires.can c.loop-node.node c.in-Some.piece c.potentials.new.piece was c.potentials.ensures.nodes);
    }
