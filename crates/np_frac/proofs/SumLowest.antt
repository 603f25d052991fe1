-- The terms of a sum have common divisors only with what the denominators share.
use Rattle.std.specs.Prelude.{◌≡◌, ℕ, ◌*◌, ◌/◌, ℤ, pos, neg_ℤ, ◌+ℤ◌, ◌*ℤ◌, unsigned_abs}
use Rattle.std.proofs.Common.{arith, ap, sym, subst, refl, ◌∙◌, ◌<◌}
use Rattle.std.specs.Int.{IsGcd, ◌∣◌}
use Rattle.std.specs.Int.RustNames.{int_div}
use Rattle.std.proofs.Math.Nat.{one-dvd, mul_comm, mul-pos, dvd-mul_left, dvd-mul_right, div-one, mul-div_cancel'}
use Rattle.std.proofs.lemmas.Int.{ints, unsigned_abs-mul}
use Rattle.std.proofs.lemmas.Nat.Gcd.{dvd_refl, dvd_trans, IsGcd-swap}
use Rattle.np_frac.specs.Ratio.{Ratio, IsLowest}
use Rattle.np_frac.specs.Steps.Coprime.{dvd_of_coprime, coprime-divisors, coprime-product, coprime-quotients, IsGcd-beside}
use Rattle.np_frac.specs.Steps.Signs.{quot-exact, *ℤ-+ℤ}
use Rattle.np_frac.proofs.SumParts.{SumParts}
use Rattle.np_frac.proofs.Fractions.{gcd-some, times_neg}

-- what divides a sum and one of its parts divides the other
dvd_rest : (k : ℕ) (u v : ℤ) → k ∣ unsigned_abs (u +ℤ v) → k ∣ unsigned_abs v → k ∣ unsigned_abs u
dvd_rest k u v d e =
    let p = int_div (u +ℤ v) (pos k) in
    let q = int_div v (pos k) in
    let a : u +ℤ v ≡ pos k *ℤ p = quot-exact (u +ℤ v) k d in
    let b : v ≡ pos k *ℤ q = quot-exact v k e in
    let w = p +ℤ neg_ℤ q in
    let s : pos k *ℤ w ≡ pos k *ℤ p +ℤ neg_ℤ (pos k *ℤ q) = *ℤ-+ℤ (pos k) p (neg_ℤ q) ∙ ap (λ (z : ℤ). pos k *ℤ p +ℤ z) (times_neg k q) in
    let f : u ≡ pos k *ℤ w = omega (arith, ints, a, b, s) in
    subst (λ (n : ℕ). k ∣ n) (sym (ap unsigned_abs f ∙ unsigned_abs-mul (pos k) w)) (dvd-mul_right k (unsigned_abs w))

coprime-sum : (x y : ℤ) (d e : ℕ) → IsGcd (unsigned_abs x) d 1 → IsGcd d e 1 → IsGcd (unsigned_abs (x *ℤ pos e +ℤ y *ℤ pos d)) d 1
coprime-sum x y d e h apart = (
  one-dvd _,
  one-dvd d,
  λ k m n.
      let right : k ∣ unsigned_abs (y *ℤ pos d) = subst (λ (t : ℕ). k ∣ t) (sym (unsigned_abs-mul y (pos d))) (dvd_trans k n (dvd-mul_left d (unsigned_abs y))) in
      let left : k ∣ unsigned_abs x * e = subst (λ (t : ℕ). k ∣ t) (unsigned_abs-mul x (pos e)) (dvd_rest k (x *ℤ pos e) (y *ℤ pos d) m right) in
      h.2 k (dvd_of_coprime k e (unsigned_abs x) (coprime-divisors d e k e apart n (dvd_refl e)) (subst (λ (t : ℕ). k ∣ t) (mul_comm (unsigned_abs x) e) left)) n,
)

swapped : (x y : ℤ) → x +ℤ y ≡ y +ℤ x
swapped x y = omega (arith, ints)

by_parts : (a b : Ratio) → IsGcd a.den b.den 1 → IsLowest (a.num *ℤ pos b.den +ℤ b.num *ℤ pos a.den) (a.den * b.den)
by_parts a b apart = record {
  positive = mul-pos a.lowest.positive b.lowest.positive;
  coprime = coprime-product _ a.den b.den (coprime-sum a.num b.num a.den b.den a.lowest.coprime apart)
      (subst (λ (z : ℤ). IsGcd (unsigned_abs z) b.den 1) (swapped (b.num *ℤ pos a.den) (a.num *ℤ pos b.den))
      (coprime-sum b.num a.num b.den a.den b.lowest.coprime (IsGcd-swap _ _ _ apart)));
}

pub sum_lowest : (a b : Ratio) (g c : ℕ) (l r : ℤ) → SumParts a b g c l r → g ≡ 1 → IsLowest (l +ℤ r) c
sum_lowest a b g c l r s e =
    let apart : IsGcd a.den b.den 1 = subst (λ (k : ℕ). IsGcd a.den b.den k) e s.is_gcd in
    let whole : (d : ℕ) → d / g ≡ d = λ d. ap (λ (k : ℕ). d / k) e ∙ div-one d in
    rw (s.common_is, s.left_is, s.right_is, whole a.den, whole b.den) (by_parts a b apart)

-- each common divisor of a sum and of its denominator is one of what the denominators share
pub sum_shares : (a b : Ratio) (g c : ℕ) (l r : ℤ) (h : ℕ) → SumParts a b g c l r → IsGcd (unsigned_abs (l +ℤ r)) g h → IsGcd (unsigned_abs (l +ℤ r)) c h
sum_shares a b g c l r h s is =
    let left = a.den / g in
    let right = b.den / g in
    let above : 0 < g = gcd-some a.den b.den g b.lowest.positive s.is_gcd in
    let p : g * left ≡ a.den = mul-div_cancel' g s.is_gcd.0 in
    let q : g * right ≡ b.den = mul-div_cancel' g s.is_gcd.1 in
    let apart : IsGcd left right 1 = coprime-quotients a.den b.den g left right above s.is_gcd p q in
    let n = a.num *ℤ pos right +ℤ b.num *ℤ pos left in
    let left_divides : left ∣ a.den = subst (λ (t : ℕ). left ∣ t) p (dvd-mul_left left g) in
    let right_divides : right ∣ b.den = subst (λ (t : ℕ). right ∣ t) q (dvd-mul_left right g) in
    let beside_left : IsGcd (unsigned_abs n) left 1 =
    coprime-sum a.num b.num left right (coprime-divisors _ _ _ _ a.lowest.coprime (dvd_refl _) left_divides) apart in
    let beside_right : IsGcd (unsigned_abs n) right 1 =
    subst (λ (z : ℤ). IsGcd (unsigned_abs z) right 1) (swapped (b.num *ℤ pos left) (a.num *ℤ pos right))
    (coprime-sum b.num a.num right left (coprime-divisors _ _ _ _ b.lowest.coprime (dvd_refl _) right_divides) (IsGcd-swap _ _ _ apart)) in
    let e : l +ℤ r ≡ n = rw (s.left_is, s.right_is) refl in
    let k : IsGcd (unsigned_abs n) g h = subst (λ (z : ℤ). IsGcd (unsigned_abs z) g h) e is in
    let w : IsGcd (unsigned_abs n) (left * right * g) h = IsGcd-beside _ (left * right) g h (coprime-product _ left right beside_left beside_right) k in
    let u : g * left * right ≡ a.den * right = ap (λ (m : ℕ). m * right) p in
    let v : c ≡ a.den * right = s.common_is in
    let t : left * right * g ≡ c = omega arith in
    subst (λ (z : ℤ). IsGcd (unsigned_abs z) c h) (sym e) (subst (λ (m : ℕ). IsGcd (unsigned_abs n) m h) t w)
