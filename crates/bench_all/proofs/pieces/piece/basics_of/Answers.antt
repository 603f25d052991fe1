use Rattle.std.proofs.Common.{ℕ, ap₂, arith}
use Rattle.np_frac.specs.Ratio.{Ratio, zero_ratio}
use Rattle.np_model.specs.declared.arc.Ends.{Ends}
use Rattle.bench_all.specs.Shapes.{arc_ends}
use Rattle.bench_all.proofs.Parts.{one_more}
use Rattle.bench_all.proofs.pieces.piece.basics_of.Goals as goal

pub loop-node-preserved : goal.loop-node-preserved
loop-node-preserved c =
    one_more (λ (v : ℕ). (v, arc_ends c.args.shape c.args.nodes v, zero_ratio)) 0 c.loop-node.node c.loop-node.node (c.loop-node.node, c.ends_of.result, c.whole.result)
    c.loop-node.list.items c.push.new.self.items (omega arith) c.loop-node.invariant
    (ap₂ (λ (e : Ends) (r : Ratio). (c.loop-node.node, e, r)) c.ends_of.ensures c.whole.ensures) c.in_ok-push.ensures.items
