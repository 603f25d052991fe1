use Rattle.std.proofs.Common.{ℕ, ap, arith}
use Rattle.np_frac.specs.Ratio.{Ratio, zero_ratio}
use Rattle.bench_all.proofs.Parts.{one_more}
use Rattle.bench_all.proofs.pieces.piece.nodes_of.Goals as goal

pub loop-node-preserved : goal.loop-node-preserved
loop-node-preserved c =
    one_more (λ (v : ℕ). (v, zero_ratio)) 0 c.loop-node.node c.loop-node.node (c.loop-node.node, c.whole.result) c.loop-node.list.items c.push.new.self.items (omega arith)
    c.loop-node.invariant (ap (λ (r : Ratio). (c.loop-node.node, r)) c.whole.ensures) c.in_ok-push.ensures.items
