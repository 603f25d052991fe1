use Rattle.std.proofs.Common.{◌≡◌, ◌<◌, rules, sym, ◌∙◌, FitsSigned}
use Rattle.std.specs.Int.{w128}
use Rattle.std.proofs.lemmas.Int.{to_z-of_z}
use Rattle.std.proofs.Math.Nat.{mul-pos}
use Rattle.np_frac.specs.Ratio.{made, sum_is}
use Rattle.np_frac.specs.Steps.Signs.{cross_trans}
use Rattle.np_frac.proofs.Fractions.{gcd-some, reduced-same, cast_quotient, quotient-some}
use Rattle.np_frac.proofs.Wholes.{whole_by_den}
use Rattle.np_frac.proofs.SumParts.{SumParts, sum-common, sum-left, sum-right, HasSum-parts, sum-parts-same}
use Rattle.np_frac.proofs.SumLowest.{sum_lowest, sum_shares}
use Rattle.np_frac.proofs.frac.Frac.sum_of.Goals as goal

pub returns-in_err-common : goal.returns-in_err-common
returns-in_err-common c = rw (c.from_residual.ensures, ← c.self.view_is, ← c.other.view_is) (λ h.
    let e = sum-common (made c.self.inside.num c.self.inside.den c.self.inside.lowest) (made c.other.inside.num c.other.inside.den c.other.inside.lowest) c.gcd-shared.result c.gcd-shared.ensures h in
    c.in_err-common.ensures (rw (c.quotient-left_by.ensures, ← e) h.common_fits))

pub returns-in_err-left : goal.returns-in_err-left
returns-in_err-left c = rw (c.from_residual-in_err-left.ensures, ← c.self.view_is, ← c.other.view_is) (λ h.
    let fa : FitsSigned w128 c.self.inside.num = search rules in
    let e = sum-left (made c.self.inside.num c.self.inside.den c.self.inside.lowest) (made c.other.inside.num c.other.inside.den c.other.inside.lowest) c.gcd-shared.result c.gcd-shared.ensures h in
    let t = cast_quotient c.other.inside.den c.gcd-shared.result c.other.invariant.den_fits in
    let k = rw (c.quotient-left_by.ensures, t) at (simp to_z-of_z at c.in_err-left.ensures) in
    k (rw (← e) h.left_fits))

pub returns-in_err-right : goal.returns-in_err-right
returns-in_err-right c = rw (c.from_residual-in_err-right.ensures, ← c.self.view_is, ← c.other.view_is) (λ h.
    let fb : FitsSigned w128 c.other.inside.num = search rules in
    let e = sum-right (made c.self.inside.num c.self.inside.den c.self.inside.lowest) (made c.other.inside.num c.other.inside.den c.other.inside.lowest) c.gcd-shared.result c.gcd-shared.ensures h in
    let t = cast_quotient c.self.inside.den c.gcd-shared.result c.self.invariant.den_fits in
    let k = rw (c.quotient-right_by.ensures, t) at (simp to_z-of_z at c.in_err-right.ensures) in
    k (rw (← e) h.right_fits))

pub returns-in_err-sum : goal.returns-in_err-sum
returns-in_err-sum c = rw (c.from_residual-in_err-sum.ensures, ← c.self.view_is, ← c.other.view_is) (λ h.
    let fa : FitsSigned w128 c.self.inside.num = search rules in
    let fb : FitsSigned w128 c.other.inside.num = search rules in
    let fl : FitsSigned w128 c.in_ok-left.left = search rules in
    let fr : FitsSigned w128 c.in_ok-right.right = search rules in
    let el = sum-left (made c.self.inside.num c.self.inside.den c.self.inside.lowest) (made c.other.inside.num c.other.inside.den c.other.inside.lowest) c.gcd-shared.result c.gcd-shared.ensures h in
    let er = sum-right (made c.self.inside.num c.self.inside.den c.self.inside.lowest) (made c.other.inside.num c.other.inside.den c.other.inside.lowest) c.gcd-shared.result c.gcd-shared.ensures h in
    let tl = cast_quotient c.other.inside.den c.gcd-shared.result c.other.invariant.den_fits in
    let tr = cast_quotient c.self.inside.den c.gcd-shared.result c.self.invariant.den_fits in
    let kl = rw (c.quotient-left_by.ensures, tl) at (simp to_z-of_z at c.in_ok-left.ensures.1) in
    let kr = rw (c.quotient-right_by.ensures, tr) at (simp to_z-of_z at c.in_ok-right.ensures.1) in
    let k = simp to_z-of_z at c.in_err-sum.ensures in
    let pl : h.left ≡ c.in_ok-left.left = el ∙ sym kl in
    let pr : h.right ≡ c.in_ok-right.right = er ∙ sym kr in
    k (rw (← pl, ← pr) h.sum_fits))

pub reduced_by_shared-num-requires-clause-some : goal.reduced_by_shared-num-requires-clause-some
reduced_by_shared-num-requires-clause-some c =
    rw (c.in_ok-common.ensures.1, c.quotient-left_by.ensures) (mul-pos c.self.inside.lowest.positive (quotient-some _ _ _ c.other.inside.lowest.positive c.gcd-shared.ensures))

pub reduced_by_shared-num-requires-clause-same : goal.reduced_by_shared-num-requires-clause-same
reduced_by_shared-num-requires-clause-same c =
    let fa : FitsSigned w128 c.self.inside.num = search rules in
    let fb : FitsSigned w128 c.other.inside.num = search rules in
    let fl : FitsSigned w128 c.in_ok-left.left = search rules in
    let fr : FitsSigned w128 c.in_ok-right.right = search rules in
    let fs : FitsSigned w128 c.in_ok-sum.sum = search rules in
    let tl = cast_quotient c.other.inside.den c.gcd-shared.result c.other.invariant.den_fits in
    let tr = cast_quotient c.self.inside.den c.gcd-shared.result c.self.invariant.den_fits in
    let kc = rw c.quotient-left_by.ensures at c.in_ok-common.ensures in
    let kl = rw (c.quotient-left_by.ensures, tl) at (simp to_z-of_z at c.in_ok-left.ensures) in
    let kr = rw (c.quotient-right_by.ensures, tr) at (simp to_z-of_z at c.in_ok-right.ensures) in
    let ks = simp to_z-of_z at c.in_ok-sum.ensures in
    let a = made c.self.inside.num c.self.inside.den c.self.inside.lowest in
    let b = made c.other.inside.num c.other.inside.den c.other.inside.lowest in
    let s : SumParts a b c.gcd-shared.result c.in_ok-common.common c.in_ok-left.left c.in_ok-right.right =
    record { is_gcd = c.gcd-shared.ensures; common_is = kc.1; left_is = kl.1; right_is = kr.1 } in
    simp to_z-of_z (rw ks.1 (λ factor h. sum_shares a b _ _ _ _ factor s h))

pub returns : goal.returns
returns c =
    let fa : FitsSigned w128 c.self.inside.num = search rules in
    let fb : FitsSigned w128 c.other.inside.num = search rules in
    let fl : FitsSigned w128 c.in_ok-left.left = search rules in
    let fr : FitsSigned w128 c.in_ok-right.right = search rules in
    let fs : FitsSigned w128 c.in_ok-sum.sum = search rules in
    let fn : FitsSigned w128 c.reduced_by_shared-num.result.0 = search rules in
    let tl = cast_quotient c.other.inside.den c.gcd-shared.result c.other.invariant.den_fits in
    let tr = cast_quotient c.self.inside.den c.gcd-shared.result c.self.invariant.den_fits in
    let kc = rw c.quotient-left_by.ensures at c.in_ok-common.ensures in
    let kl = rw (c.quotient-left_by.ensures, tl) at (simp to_z-of_z at c.in_ok-left.ensures) in
    let kr = rw (c.quotient-right_by.ensures, tr) at (simp to_z-of_z at c.in_ok-right.ensures) in
    let ks = simp to_z-of_z at c.in_ok-sum.ensures in
    let r = rw ks.1 at (simp to_z-of_z at c.reduced_by_shared-num.ensures.parts) in
    let a = made c.self.inside.num c.self.inside.den c.self.inside.lowest in
    let b = made c.other.inside.num c.other.inside.den c.other.inside.lowest in
    let s : SumParts a b c.gcd-shared.result c.in_ok-common.common c.in_ok-left.left c.in_ok-right.right =
    record { is_gcd = c.gcd-shared.ensures; common_is = kc.1; left_is = kl.1; right_is = kr.1 } in
    let some : 0 < c.in_ok-common.common = rw kc.1 (mul-pos c.self.inside.lowest.positive (quotient-some _ _ _ c.other.inside.lowest.positive c.gcd-shared.ensures)) in
    rw (← c.self.view_is, ← c.other.view_is) (
      HasSum-parts a b _ _ _ _ s (rw kc.1 kc.0) (rw kl.1 kl.0) (rw kr.1 kr.0) ks.0,
      sum_is a b _ (simp to_z-of_z (cross_trans _ _ _ _ _ _ some (reduced-same _ _ _ _ r) (sum-parts-same a b _ _ _ _ s))),
    )

pub invariant_of-result : goal.invariant_of-result
invariant_of-result c =
    let fa : FitsSigned w128 c.self.inside.num = search rules in
    let fb : FitsSigned w128 c.other.inside.num = search rules in
    let fl : FitsSigned w128 c.in_ok-left.left = search rules in
    let fr : FitsSigned w128 c.in_ok-right.right = search rules in
    let fs : FitsSigned w128 c.in_ok-sum.sum = search rules in
    let tl = cast_quotient c.other.inside.den c.gcd-shared.result c.other.invariant.den_fits in
    let tr = cast_quotient c.self.inside.den c.gcd-shared.result c.self.invariant.den_fits in
    let kc = rw c.quotient-left_by.ensures at c.in_ok-common.ensures in
    let kl = rw (c.quotient-left_by.ensures, tl) at (simp to_z-of_z at c.in_ok-left.ensures) in
    let kr = rw (c.quotient-right_by.ensures, tr) at (simp to_z-of_z at c.in_ok-right.ensures) in
    let ks = simp to_z-of_z at c.in_ok-sum.ensures in
    let a = made c.self.inside.num c.self.inside.den c.self.inside.lowest in
    let b = made c.other.inside.num c.other.inside.den c.other.inside.lowest in
    let s : SumParts a b c.gcd-shared.result c.in_ok-common.common c.in_ok-left.left c.in_ok-right.right =
    record { is_gcd = c.gcd-shared.ensures; common_is = kc.1; left_is = kl.1; right_is = kr.1 } in
    (simp to_z-of_z (rw ks.1 (sum_lowest a b _ _ _ _ s c.if-shared-eq1.true)), tt)

pub returns-then-shared-eq1 : goal.returns-then-shared-eq1
returns-then-shared-eq1 c =
    let fa : FitsSigned w128 c.self.inside.num = search rules in
    let fb : FitsSigned w128 c.other.inside.num = search rules in
    let fl : FitsSigned w128 c.in_ok-left.left = search rules in
    let fr : FitsSigned w128 c.in_ok-right.right = search rules in
    let fs : FitsSigned w128 c.in_ok-sum.sum = search rules in
    let tl = cast_quotient c.other.inside.den c.gcd-shared.result c.other.invariant.den_fits in
    let tr = cast_quotient c.self.inside.den c.gcd-shared.result c.self.invariant.den_fits in
    let kc = rw c.quotient-left_by.ensures at c.in_ok-common.ensures in
    let kl = rw (c.quotient-left_by.ensures, tl) at (simp to_z-of_z at c.in_ok-left.ensures) in
    let kr = rw (c.quotient-right_by.ensures, tr) at (simp to_z-of_z at c.in_ok-right.ensures) in
    let ks = simp to_z-of_z at c.in_ok-sum.ensures in
    let a = made c.self.inside.num c.self.inside.den c.self.inside.lowest in
    let b = made c.other.inside.num c.other.inside.den c.other.inside.lowest in
    let s : SumParts a b c.gcd-shared.result c.in_ok-common.common c.in_ok-left.left c.in_ok-right.right =
    record { is_gcd = c.gcd-shared.ensures; common_is = kc.1; left_is = kl.1; right_is = kr.1 } in
    rw (← c.self.view_is, ← c.other.view_is) (
      HasSum-parts a b _ _ _ _ s (rw kc.1 kc.0) (rw kl.1 kl.0) (rw kr.1 kr.0) ks.0,
      sum_is a b _ (simp to_z-of_z (rw ks.1 (sum-parts-same a b _ _ _ _ s))),
    )

pub quotient-left_by-requires : goal.quotient-left_by-requires
quotient-left_by-requires c = gcd-some _ _ _ c.other.inside.lowest.positive c.gcd-shared.ensures

pub quotient-right_by-requires : goal.quotient-right_by-requires
quotient-right_by-requires c = gcd-some _ _ _ c.other.inside.lowest.positive c.gcd-shared.ensures

pub returns-then-other-eq1 : goal.returns-then-other-eq1
returns-then-other-eq1 c =
    let fa : FitsSigned w128 c.self.inside.num = search rules in
    let fb : FitsSigned w128 c.other.inside.num = search rules in
    let a = made c.self.inside.num c.self.inside.den c.self.inside.lowest in
    let b = made c.other.inside.num c.other.inside.den c.other.inside.lowest in
    let e : a ≡ c.args.self = c.self.view_is in
    let f : b ≡ c.args.other = c.other.view_is in
    let k = simp to_z-of_z at c.whole_sum.ensures in
    rw (← e, ← f, whole_by_den a (search rules), whole_by_den b (search rules)) k
