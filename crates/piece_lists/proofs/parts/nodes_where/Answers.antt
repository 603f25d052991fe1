use Rattle.piece_lists.specs.Parts.{nodes_where}
use Rattle.piece_lists.proofs.Splitting.{goes_on}
use Rattle.piece_lists.proofs.parts.nodes_where.Goals as goal

pub loop-place-preserved-then-seen-place : goal.loop-place-preserved-then-seen-place
loop-place-preserved-then-seen-place c =
    goes_on c.args.said c.args.nodes.now c.loop-place.list.items (nodes_where c.args.said c.args.nodes.now c.args.seen.now) c.args.seen.now c.loop-place.place c.requires c.loop-place-test.true c.if-seen-place.true
    c.loop-place.invariant
