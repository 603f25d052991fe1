use Rattle.std.proofs.Common.{◌∙◌, subst}
use Rattle.np_frac.specs.Ratio.{inverse_by, ◌*ᵣ◌}
use Rattle.np_frac.specs.Steps.Found.{IsFound}
use Rattle.np_frac.proofs.Exactness.{over_found}
use Rattle.np_frac.proofs.frac.Frac.over.Goals as goal

pub returns : goal.returns
returns c =
    c.ok_or.ensures.value
    ∙ over_found c.product_of.result c.args.self c.args.other
    (subst (λ r. IsFound c.product_of.result (c.args.self *ᵣ r)) (inverse_by c.args.other c.inverted.result c.requires c.inverted.ensures) c.product_of.ensures)
