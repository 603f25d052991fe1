use Rattle.std.proofs.Common.{◌+◌, length, ap, ◌∙◌, subst, sym}
use Rattle.std.proofs.lemmas.List.{with_items_is}
use Rattle.simplex_driver.specs.Opening.{HaveMarks}
use Rattle.simplex_driver.proofs.Opened.{one_more_arc}
use Rattle.simplex_driver.proofs.opening.marks_by_node.Goals as goal

pub loop-arc-preserved : goal.loop-arc-preserved
loop-arc-preserved c =
    let at = c.loop-arc in
    let arcs = c.as_slice-arcs.result.now in
    let nodes = length c.args.net.now.supply in
    let is = c.deref_mut.ensures.value in
    subst (HaveMarks arcs nodes (at.arc + 1)) (sym (with_items_is at.lists c.push_ends.new.lists (c.push_ends.ensures.each ∙ ap length is ∙ sym at.lists.ok.0)))
    (one_more_arc arcs nodes at.arc c.index-arcs-arc.result c.deref_mut.result.now c.push_ends.new.lists c.loop-arc-test.true
    (subst (HaveMarks arcs nodes at.arc) (sym is) at.invariant) c.push_ends.ensures.each c.in_ok-push_ends.ensures.marks)
