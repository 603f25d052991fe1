use Rattle.std.proofs.Common.{◌∙◌, subst}
use Rattle.np_frac.specs.Steps.Found.{IsSumFound}
use Rattle.np_frac.proofs.Exactness.{minus_found}
use Rattle.np_frac.proofs.frac.Frac.minus.Goals as goal

pub returns : goal.returns
returns c =
    c.ok_or.ensures.value
    ∙ minus_found c.sum_of.result c.args.self c.args.other (subst (λ r. IsSumFound c.sum_of.result c.args.self r) c.negated.ensures c.sum_of.ensures)
