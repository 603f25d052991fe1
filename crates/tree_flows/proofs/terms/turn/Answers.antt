use Rattle.std.proofs.Common.{◌∙◌, sym, ap, Ok}
use Rattle.np_model.specs.Rows.Directions.{turned}
use Rattle.tree_flows.proofs.Zeros.{turned_nothing}
use Rattle.tree_flows.proofs.terms.turn.Goals as goal

pub returns-then-is_same : goal.returns-then-is_same
returns-then-is_same c =
    let e = c.is_same.ensures.same.0 c.if-is_same.true ∙ c.whole.ensures in
    sym (ap (turned c.args.ends c.args.node) e ∙ turned_nothing c.args.ends c.args.node ∙ ap Ok (sym e))
