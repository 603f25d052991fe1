use Rattle.quasi_tree.proofs.Starts.{one_more_mark}
use Rattle.quasi_tree.proofs.start.marks_at.Goals as goal

pub loop-arc-preserved : goal.loop-arc-preserved
loop-arc-preserved c =
    one_more_mark c.args.arcs.now c.args.node c.loop-arc.arc c.index-arcs-arc.result c.loop-arc.marks.items c.push_mark.new.marks.items c.loop-arc-test.true
    c.loop-arc.invariant c.in_ok-push_mark.ensures
