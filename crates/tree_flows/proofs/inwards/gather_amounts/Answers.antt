use Rattle.std.proofs.Common.{◌<◌, ◌-◌, List, length, reverse, take, slice_index_or, slice_set, rules, ap, subst, sym, ◌∙◌, arith}
use Rattle.np_frac.specs.Exact.{◌▷◌}
use Rattle.tree_search.specs.declared.piece.Step.{Step}
use Rattle.tree_flows.specs.Along.{gather}
use Rattle.tree_flows.specs.Walks.{no_step}
use Rattle.tree_flows.proofs.Still.{still_after, last_first}
use Rattle.tree_flows.proofs.inwards.gather_amounts.Goals as goal

pub loop-left-preserved : goal.loop-left-preserved
loop-left-preserved c =
    let i = c.loop-left.invariant in
    let rows = c.args.rows.now in
    let k = c.loop-left.left - 1 in
    let step = slice_index_or c.args.steps.now k no_step in
    let l : k < length c.args.steps.now = omega arith in
    let inside : step.arc < length c.loop-left.amounts.items = subst (λ n. step.arc < n) (sym i.0) (c.requires.within k no_step l).0 in
    let back = last_first c.args.steps.now c.loop-left.left no_step (omega arith) i.3 in
    let is = rw c.as_slice.ensures.value at c.in_ok-amount.ensures in (
      search rules,
      search rules,
      still_after rows.joints.now c.loop-left.amounts.items c.loop-left.reached.items c.with_marks-reached.result.items step c.in_ok-amount.amount inside (c.requires.joined k no_step l) i.2 c.with_marks-reached.ensures.marks,
      omega arith,
      i.4
          ∙ ap (λ (b : List Step). gather rows.nodes.now rows.basics.now rows.joints.now rows.before rows.entering.now.ends rows.entering.now.amount b c.loop-left.amounts.items) back
          ∙ ap (λ r. r ▷ λ y. gather rows.nodes.now rows.basics.now rows.joints.now rows.before rows.entering.now.ends rows.entering.now.amount (reverse (take k c.args.steps.now)) (slice_set c.loop-left.amounts.items step.arc y))
          (sym is),
    )
