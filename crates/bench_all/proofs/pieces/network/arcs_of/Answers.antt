use Rattle.std.proofs.Common.{refl, arith}
use Rattle.bench_all.specs.Shapes.{net_arc}
use Rattle.bench_all.proofs.Parts.{one_more}
use Rattle.bench_all.proofs.pieces.network.arcs_of.Goals as goal

pub loop-node-preserved : goal.loop-node-preserved
loop-node-preserved c =
    one_more (net_arc c.args.shape c.args.nodes) 0 c.loop-node.node c.loop-node.node _ c.loop-node.list.items c.push.new.self.items (omega arith) c.loop-node.invariant
    (rw (c.ends_of-ends.ensures, c.whole.ensures, c.whole-in-loop-node.ensures) refl) c.in_ok-push.ensures.items
