use Rattle.std.proofs.Common.{ℕ, ◌+◌, refl}
use Rattle.np_model.specs.declared.log.Mark.TheVariants.{Lower}
use Rattle.bench_all.proofs.Parts.{one_more}
use Rattle.bench_all.proofs.pieces.piece.marks_of.Goals as goal

pub loop-node-preserved : goal.loop-node-preserved
loop-node-preserved c =
    one_more (λ (a : ℕ). (a, Lower)) c.args.nodes c.loop-node.node (c.args.nodes + c.loop-node.node) (c.args.nodes + c.loop-node.node, Lower)
    c.loop-node.list.items c.push.new.self.items refl c.loop-node.invariant refl c.in_ok-push.ensures.items
