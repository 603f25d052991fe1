use Rattle.std.proofs.Common.{◌∙◌}
use Rattle.piece_lists.proofs.Joined.{marked_is, new_mark_same, rest_rises}
use Rattle.piece_lists.proofs.joining.marks_after.Goals as goal

pub merged-requires-clause-first_ascends : goal.merged-requires-clause-first_ascends
merged-requires-clause-first_ascends c = rest_rises c.args.marks.now c.as_slice.result.now c.args.enter c.requires.ascending (c.as_slice.ensures.value ∙ c.in_ok-rest.ensures)

pub merged-requires-clause-same : goal.merged-requires-clause-same
merged-requires-clause-same c = new_mark_same c.args.marks.now c.as_slice.result.now c.args.enter c.args.leave c.args.leave_at c.requires.leaves (c.as_slice.ensures.value ∙ c.in_ok-rest.ensures)

pub returns : goal.returns
returns c = marked_is c.args.marks.now c.as_slice.result.now c.in_ok-after.after.items c.args.enter c.args.leave c.args.leave_at c.requires.leaves (c.as_slice.ensures.value ∙ c.in_ok-rest.ensures) c.in_ok-after.ensures
