use Rattle.std.proofs.Common.{◌∙◌}
use Rattle.netplan_top.specs.Texts.Network.{arc_record}
use Rattle.netplan_top.proofs.NetFacts.{arc-more}
use Rattle.netplan_top.proofs.texts.network.push_segments.Goals as goal

pub loop-segment-preserved : goal.loop-segment-preserved
loop-segment-preserved c =
    let more = arc-more (arc_record c.args.scheme.now.flows) c.args.text.now.bytes c.args.first c.args.staged.now c.args.arcs.now c.loop-segment.segment c.index-arcs-segment.result c.loop-segment-test.true c.index-arcs-segment.is in
    record {
      closed = c.in_ok-push_arc.ensures.closed;
      text = (rw c.loop-segment.invariant.text at c.in_ok-push_arc.ensures.text) ∙ more;
    }
