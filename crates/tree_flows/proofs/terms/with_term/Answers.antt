use Rattle.std.proofs.Common.{◌∙◌, sym, ap}
use Rattle.np_frac.specs.Exact.{plus_of, ◌▷◌}
use Rattle.np_model.specs.Rows.Directions.{term}
use Rattle.tree_flows.proofs.Zeros.{add_nothing}
use Rattle.tree_flows.proofs.terms.with_term.Goals as goal

pub returns-then-is_same : goal.returns-then-is_same
returns-then-is_same c =
    let e = c.is_same.ensures.same.0 c.if-is_same.true ∙ c.whole.ensures in
    sym (ap (λ y. term c.args.ends c.args.node y ▷ plus_of c.args.sum) e ∙ add_nothing c.args.ends c.args.node c.args.sum c.num-numerator.ensures.fits)
