use Rattle.std.proofs.Common.{sym, ◌∙◌}
use Rattle.std.proofs.lemmas.Result.{IfOk-weaker}
use Rattle.simplex_driver.proofs.opening.single.Goals as goal

pub single_with_marks-requires-clause-flows : goal.single_with_marks-requires-clause-flows
single_with_marks-requires-clause-flows c = c.requires.flows ∙ sym (c.starts.ensures.flows c.args.start.now.full c.requires.artificial)

pub returns : goal.returns
returns c =
    IfOk-weaker c.single_with_marks.result _ _
    (λ piece is. is ∙ c.starts.ensures.pieces c.args.start.now.full c.args.node c.requires.artificial c.requires.is_node)
    c.single_with_marks.ensures
