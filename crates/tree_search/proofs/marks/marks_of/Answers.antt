use Rattle.std.proofs.Common.{◌∙◌, true}
use Rattle.std.proofs.lemmas.List.{length-set}
use Rattle.tree_search.proofs.Marked.{marked_more}
use Rattle.tree_search.proofs.marks.marks_of.Goals as goal

pub loop-step-preserved : goal.loop-step-preserved
loop-step-preserved c = (
  length-set c.loop-step.marks.items _ true ∙ c.loop-step.invariant.0,
  marked_more c.args.steps.now c.loop-step.step-index _ c.loop-step.marks.items c.args.arcs c.loop-step-test.true c.loop-step.invariant.0 c.requires.placed c.loop-step.invariant.1,
)
