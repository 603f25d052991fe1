use Rattle.std.proofs.Common.{arith, refl}
use Rattle.std.proofs.lemmas.Int.{ints}
use Rattle.np_frac.specs.Ratio.{IsLowest-one, same_numbers, whole}
use Rattle.np_frac.proofs.frac.Frac.whole.Goals as goal

pub invariant_of-result : goal.invariant_of-result
invariant_of-result c = (IsLowest-one _, tt)

pub returns : goal.returns
unfolding whole
returns c = same_numbers _ (whole c.args.value) (omega (arith, ints)) refl
