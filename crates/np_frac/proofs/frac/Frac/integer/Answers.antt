use Rattle.std.proofs.Common.{refl, FitsSigned}
use Rattle.std.specs.Int.{w128}
use Rattle.std.proofs.lemmas.Int.{to_z-of_z}
use Rattle.np_frac.specs.Ratio.{IsLowest-one, same_numbers, whole}
use Rattle.np_frac.proofs.frac.Frac.integer.Goals as goal

pub invariant_of-result : goal.invariant_of-result
invariant_of-result c = (IsLowest-one _, tt)

pub returns : goal.returns
unfolding whole
returns c =
    let f : FitsSigned w128 c.args.num = c.ranges.num in
    same_numbers _ (whole c.args.num) (to_z-of_z w128 c.args.num f) refl
