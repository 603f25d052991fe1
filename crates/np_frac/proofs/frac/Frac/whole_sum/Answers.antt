use Rattle.std.proofs.Common.{ap, rules, sym, ◌∙◌, FitsSigned}
use Rattle.std.specs.Int.{w128}
use Rattle.std.proofs.lemmas.Int.{to_z-of_z}
use Rattle.np_frac.specs.Ratio.{whole}
use Rattle.np_frac.proofs.Field.{whole-+ᵣ}
use Rattle.np_frac.proofs.Wholes.{whole_sum_fits, fits_whole_sum}
use Rattle.np_frac.proofs.frac.Frac.whole_sum.Goals as goal

pub returns-in-Some : goal.returns-in-Some
returns-in-Some c =
    let fl : FitsSigned w128 c.args.left = search rules in
    let fr : FitsSigned w128 c.args.right = search rules in
    let fn : FitsSigned w128 c.in-Some.num = search rules in
    let k = simp to_z-of_z at c.in-Some.ensures in
    let i = simp to_z-of_z at c.integer.ensures in
    (whole_sum_fits _ _ c.requires.left_fits c.requires.right_fits k.0, i ∙ ap whole k.1 ∙ sym (whole-+ᵣ _ _))

pub returns-in-None : goal.returns-in-None
returns-in-None c =
    let fl : FitsSigned w128 c.args.left = search rules in
    let fr : FitsSigned w128 c.args.right = search rules in
    let k = simp to_z-of_z at c.in-None.ensures in
    λ h. k (fits_whole_sum _ _ h)
