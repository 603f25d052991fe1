use Rattle.std.proofs.Common.{◌≡◌, ◌≢◌, ap, sym, ◌∙◌, ◌<◌, pos, neg_ℤ, ◌-ℤ◌, unsigned_abs, arith, rules, FitsSigned, to_z, of_z}
use Rattle.std.specs.Int.{w128}
use Rattle.std.proofs.lemmas.Int.{ints, to_z-of_z, to_z_pos}
use Rattle.np_frac.specs.Ratio.{Ratio, IsLowest-neg}
use Rattle.np_frac.proofs.Fractions.{IsLowest-inverted}
use Rattle.np_frac.proofs.frac.Frac.inverted.Goals as goal

pub invariant_of-result : goal.invariant_of-result
invariant_of-result c =
    let fa : FitsSigned w128 c.self.inside.num = search rules in
    let v : c.unsigned_abs-den.result ≡ unsigned_abs c.self.inside.num = simp to_z-of_z at c.unsigned_abs-den.ensures.value in
    let some : 0 < c.unsigned_abs-den.result = omega (arith, ints) in
    let e : to_z w128 (of_z w128 (pos 0 -ℤ to_z w128 c.self.inside.den)) ≡ neg_ℤ (pos c.self.inside.den) = omega (arith, ints) in
    rw e (IsLowest-neg (IsLowest-inverted c.self.inside.num _ _ some v c.self.inside.lowest), tt)

pub invariant_of-result-2 : goal.invariant_of-result-2
invariant_of-result-2 c =
    let fa : FitsSigned w128 c.self.inside.num = search rules in
    let v : c.unsigned_abs-den.result ≡ unsigned_abs c.self.inside.num = simp to_z-of_z at c.unsigned_abs-den.ensures.value in
    let h : c.self.inside.num ≢ pos 0 = λ e. c.requires (sym (ap (λ (r : Ratio). r.num) c.self.view_is) ∙ e) in
    let some : 0 < c.unsigned_abs-den.result = omega (arith, ints) in
    let e = to_z_pos w128 c.self.inside.den c.self.invariant.den_fits in
    rw e (IsLowest-inverted c.self.inside.num _ _ some v c.self.inside.lowest, tt)
