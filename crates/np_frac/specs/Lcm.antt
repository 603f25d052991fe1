-- The least common multiple.
use Rattle.std.proofs.Common.{◌≡◌, ℕ, ◌*◌, ◌/◌, ap, ◌<◌, arith, subst, sym}
use Rattle.std.specs.Int.{IsGcd, ◌∣◌}
use Rattle.std.proofs.Math.Nat.{dvd-mul_left, dvd-mul_right, dvd_of_mul-dvd-mul_left, mul-dvd-mul_left, mul-div_cancel'}
use Rattle.std.proofs.lemmas.Nat.Gcd.{dvd_antisymm, IsGcd-swap}
use Rattle.np_frac.specs.Steps.Coprime.{dvd_of_coprime, coprime-quotients, scales}

-- the least common multiple
pub record IsLcm (b d l : ℕ) : Type 0 where
  pub left : b ∣ l
  pub right : d ∣ l
  pub least : (m : ℕ) → b ∣ m → d ∣ m → l ∣ m

-- the product by what the greatest common divisor leaves of the other
pub IsLcm-quotient : (b d g : ℕ) → 0 < g → IsGcd b d g → IsLcm b d (b * (d / g))
IsLcm-quotient b d g some h =
    let eb : g * (b / g) ≡ b = mul-div_cancel' g h.0 in
    let ed : g * (d / g) ≡ d = mul-div_cancel' g h.1 in
    let apart = coprime-quotients b d g (b / g) (d / g) some h eb ed in
    let e : b * (d / g) ≡ (b / g) * d =
    let p = ap (λ (n : ℕ). n * (d / g)) eb in
    let q = ap (λ (n : ℕ). (b / g) * n) ed in
    omega arith in
    record {
      left = dvd-mul_right b (d / g);
      right = subst (λ (n : ℕ). d ∣ n) (sym e) (dvd-mul_left d (b / g));
      least = λ m p q.
          let em : b * (m / b) ≡ m = mul-div_cancel' b p in
          let k : g * ((b / g) * (m / b)) ≡ m = let r = ap (λ (n : ℕ). n * (m / b)) eb in omega arith in
          let s : g * (d / g) ∣ g * ((b / g) * (m / b)) = subst (λ (n : ℕ). g * (d / g) ∣ n) (sym k) (subst (λ (n : ℕ). n ∣ m) (sym ed) q) in
          let t = dvd_of_coprime (d / g) (b / g) (m / b) (IsGcd-swap _ _ _ apart) (dvd_of_mul-dvd-mul_left {k = g} (d / g) some s) in
          subst (λ (n : ℕ). b * (d / g) ∣ n) em (mul-dvd-mul_left (d / g) b t);
    }

pub same_from_IsLcm : (b d l m : ℕ) → IsLcm b d l → IsLcm b d m → l ≡ m
same_from_IsLcm b d l m p q = dvd_antisymm (p.least m q.left q.right) (q.least l p.left p.right)

-- the least common multiple of two numbers, as a number
unfoldable pub lcm : ℕ → ℕ → ℕ
lcm b d = b * (d / (scales b d).divisor)
