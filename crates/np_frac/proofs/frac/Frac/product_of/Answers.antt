use Rattle.std.proofs.Common.{◌≡◌, rules, FitsSigned}
use Rattle.np_frac.proofs.Exactness.{found_as}
use Rattle.std.specs.Int.{w128}
use Rattle.std.proofs.lemmas.Int.{to_z-of_z}
use Rattle.np_frac.specs.Ratio.{made, product_is}
use Rattle.np_frac.proofs.Wholes.{whole_by_den}
use Rattle.np_frac.proofs.Fractions.{product-is, IsLowest-product, product-fits}
use Rattle.np_frac.proofs.frac.Frac.product_of.Goals as goal

pub returns-in_err-num : goal.returns-in_err-num
returns-in_err-num c = rw (c.from_residual.ensures, ← c.self.view_is, ← c.other.view_is) (λ h.
    let fa : FitsSigned w128 c.self.inside.num = search rules in
    let fc : FitsSigned w128 c.other.inside.num = search rules in
    let fx : FitsSigned w128 c.reduced-left.result.0 = search rules in
    let fu : FitsSigned w128 c.reduced-right.result.0 = search rules in
    let r = simp to_z-of_z at c.reduced-left.ensures.parts in
    let s = simp to_z-of_z at c.reduced-right.ensures.parts in
    let k = simp to_z-of_z at c.in_err-num.ensures in
    k (product-fits _ _ _ _ _ _ r s h).num_fits)

pub returns-in_err-den : goal.returns-in_err-den
returns-in_err-den c = rw (c.from_residual-in_err-den.ensures, ← c.self.view_is, ← c.other.view_is) (λ h.
    let fa : FitsSigned w128 c.self.inside.num = search rules in
    let fc : FitsSigned w128 c.other.inside.num = search rules in
    let r = simp to_z-of_z at c.reduced-left.ensures.parts in
    let s = simp to_z-of_z at c.reduced-right.ensures.parts in
    let k = c.in_err-den.ensures in
    k (product-fits _ _ _ _ _ _ r s h).den_fits)

pub invariant_of-result : goal.invariant_of-result
invariant_of-result c =
    let fa : FitsSigned w128 c.self.inside.num = search rules in
    let fc : FitsSigned w128 c.other.inside.num = search rules in
    let fx : FitsSigned w128 c.reduced-left.result.0 = search rules in
    let fu : FitsSigned w128 c.reduced-right.result.0 = search rules in
    let fn : FitsSigned w128 c.in_ok-num.num = search rules in
    let r = simp to_z-of_z at c.reduced-left.ensures.parts in
    let s = simp to_z-of_z at c.reduced-right.ensures.parts in
    let k = simp to_z-of_z at c.in_ok-num.ensures in
    let l = c.in_ok-den.ensures in
    (simp to_z-of_z (rw (k.1, l.1) (IsLowest-product _ _ _ _ _ _ _ _ c.self.inside.lowest c.other.inside.lowest r s)), tt)

pub returns : goal.returns
returns c =
    let fa : FitsSigned w128 c.self.inside.num = search rules in
    let fc : FitsSigned w128 c.other.inside.num = search rules in
    let fx : FitsSigned w128 c.reduced-left.result.0 = search rules in
    let fu : FitsSigned w128 c.reduced-right.result.0 = search rules in
    let fn : FitsSigned w128 c.in_ok-num.num = search rules in
    let r = simp to_z-of_z at c.reduced-left.ensures.parts in
    let s = simp to_z-of_z at c.reduced-right.ensures.parts in
    let k = simp to_z-of_z at c.in_ok-num.ensures in
    let l = c.in_ok-den.ensures in
    rw (← c.self.view_is, ← c.other.view_is)
    (found_as _ _
    (product_is _ _ _ (simp to_z-of_z (rw (k.1, l.1) (product-is _ _ _ _ _ _ _ _ r s))))
    (record { num_fits = simp to_z-of_z (rw k.1 k.0); den_fits = rw l.1 l.0 }))

pub returns-then-other-eq1 : goal.returns-then-other-eq1
returns-then-other-eq1 c =
    let fa : FitsSigned w128 c.self.inside.num = search rules in
    let fb : FitsSigned w128 c.other.inside.num = search rules in
    let a = made c.self.inside.num c.self.inside.den c.self.inside.lowest in
    let b = made c.other.inside.num c.other.inside.den c.other.inside.lowest in
    let e : a ≡ c.args.self = c.self.view_is in
    let f : b ≡ c.args.other = c.other.view_is in
    let k = simp to_z-of_z at c.whole_product.ensures in
    rw (← e, ← f, whole_by_den a (search rules), whole_by_den b (search rules)) k
