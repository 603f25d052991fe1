use Rattle.std.proofs.Common.{◌≡◌, neg_ℤ, pos, ◌-ℤ◌, to_z, of_z, arith, ap, ◌∙◌}
use Rattle.std.specs.Int.{w128}
use Rattle.std.proofs.lemmas.Int.{ints}
use Rattle.np_frac.specs.Ratio.{Ratio, IsLowest-neg, same_numbers, negated}
use Rattle.np_frac.proofs.frac.Frac.negated.Goals as goal

pub invariant_of-result : goal.invariant_of-result
invariant_of-result c =
    let e : to_z w128 (of_z w128 (pos 0 -ℤ to_z w128 (of_z w128 c.self.inside.num))) ≡ neg_ℤ c.self.inside.num = omega (arith, ints) in
    rw e (IsLowest-neg c.self.inside.lowest, tt)

pub returns : goal.returns
unfolding negated
returns c =
    let e : to_z w128 (of_z w128 (pos 0 -ℤ to_z w128 (of_z w128 c.self.inside.num))) ≡ neg_ℤ c.self.inside.num = omega (arith, ints) in
    same_numbers _ (negated c.args.self) (e ∙ ap (λ (r : Ratio). neg_ℤ r.num) c.self.view_is) (ap (λ (r : Ratio). r.den) c.self.view_is)
