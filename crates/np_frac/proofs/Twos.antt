-- Factors of two, and what they leave of a greatest common divisor.
use Rattle.std.proofs.Common.{◌≡◌, ℕ, zero, suc, ◌*◌, ◌/◌, ◌%◌, ◌^◌, ◌<◌, ◌≤◌, min, Fits, arith, subst, sym, refl, ap, ◌∙◌, ◌-◌, ◌⊎◌, inl, inr}
use Rattle.std.specs.Int.{IsGcd, ◌∣◌, bit_at, abs_diff, trailing_zeros, Width}
use Rattle.std.proofs.lemmas.Nat.Bits.{bit_at-trailing_zeros}
use Rattle.std.proofs.Math.Nat.{pow-suc, pow-succ', mul_assoc, mul_comm, div-div-eq-div-mul, one-dvd, mod-eq_of_lt, lt_of_le_of_lt}
use Rattle.std.proofs.lemmas.Nat.Gcd.{le_of_dvd, same_from_IsGcd, IsGcd-swap, IsGcd-from_sub, IsGcd-from_mod, IsGcd-from_zero}
use Rattle.np_frac.specs.Steps.Coprime.{scales, IsGcd-beside}
use Rattle.np_frac.specs.Steps.Odd.{IsOddPart}

-- a number whose k lowest bits are 0 is a multiple of 2 to the k
pub multiple : (n k : ℕ) → ((i : ℕ) → i < k → bit_at n i ≡ 0) → n ≡ 2 ^ k * (n / 2 ^ k)
multiple n zero h = omega arith
multiple n (suc k) h =
    let below : n ≡ 2 ^ k * (n / 2 ^ k) = multiple n k (λ i l. h i (omega arith)) in
    let even : (n / 2 ^ k) % 2 ≡ 0 = h k (omega arith) in
    let next : (n / 2 ^ k) / 2 ≡ n / 2 ^ suc k = div-div-eq-div-mul n (2 ^ k) 2 ∙ ap (λ m. n / m) (sym (pow-suc 2 k)) in
    let halves : n / 2 ^ k ≡ 2 * ((n / 2 ^ k) / 2) = omega arith in
    let e : 2 ^ k * (n / 2 ^ k) ≡ 2 ^ k * (2 * (n / 2 ^ suc k)) = ap (λ m. 2 ^ k * m) (halves ∙ ap (λ m. 2 * m) next) in
    below ∙ e ∙ sym (mul_assoc (2 ^ k) 2 (n / 2 ^ suc k)) ∙ ap (λ m. m * (n / 2 ^ suc k)) (sym (pow-suc 2 k))

-- what is left behind its zeros is the odd part
pub odd_part-is : (w : Width) (n : ℕ) → 0 < n → Fits w n → IsOddPart n (n / 2 ^ trailing_zeros w n)
odd_part-is w n above fits =
    let b = bit_at-trailing_zeros w n above fits.fits in
    record { odd = b.1; twos = trailing_zeros w n; product = multiple n (trailing_zeros w n) b.2 }

coprime-two : (x : ℕ) → x % 2 ≡ 1 → IsGcd x 2 1
coprime-two x odd = IsGcd-from_mod x 2 1 (subst (λ n. IsGcd 2 n 1) (sym odd) (IsGcd-from_mod 2 1 1 (IsGcd-from_zero 1 _ refl)))

-- what is shifted out of a number is no divisor of an odd one
IsGcd-twos : (x z g k : ℕ) → x % 2 ≡ 1 → IsGcd x z g → IsGcd x (2 ^ k * z) g
IsGcd-twos x z g zero odd h = subst (λ n. IsGcd x n g) (omega arith) h
IsGcd-twos x z g (suc k) odd h =
    let e : 2 * (2 ^ k * z) ≡ 2 ^ suc k * z = sym (mul_assoc 2 (2 ^ k) z) ∙ ap (λ m. m * z) (sym (pow-succ' 2 k)) in
    subst (λ n. IsGcd x n g) e (IsGcd-beside x 2 (2 ^ k * z) g (coprime-two x odd) (IsGcd-twos x z g k odd h))

pub IsGcd-odd_part : (x y m g : ℕ) → x % 2 ≡ 1 → IsOddPart y m → IsGcd x m g → IsGcd x y g
IsGcd-odd_part x y m g odd p h = subst (λ n. IsGcd x n g) (sym p.product) (IsGcd-twos x m g p.twos odd h)

-- 1 has no divisor but itself
pub IsGcd-one : (a b : ℕ) → (a ≡ 1) ⊎ ((a ≡ 1 → ⊥) × (b ≡ 1)) → IsGcd a b 1
IsGcd-one a b (inl e) = (one-dvd a, one-dvd b, λ d m n. subst (λ k. d ∣ k) e m)
IsGcd-one a b (inr e) = (one-dvd a, one-dvd b, λ d m n. subst (λ k. d ∣ k) e.1 n)

-- the greatest common divisor grows with the numbers
pub IsGcd-grown : (a b g c : ℕ) → IsGcd a b g → IsGcd (c * a) (c * b) (c * g)
IsGcd-grown a b g c h =
    let s = scales a b in
    subst (λ n. IsGcd (c * a) (c * b) (c * n)) (same_from_IsGcd a b s.divisor g s.is_gcd h) (s.scaled c)

by_order : (m x : ℕ) → (m ≤ x) ⊎ (x ≤ m)
by_order m x = grind arith

-- the lesser of two numbers, and how far they are apart, have the common divisors of the two
pub IsGcd-apart : (x m g : ℕ) → IsGcd (min m x) (abs_diff m x) g → IsGcd x m g
IsGcd-apart x m g h =
    elim (by_order m x) [
      | inl le ↦
          let e : min m x ≡ m = omega arith in
          let f : abs_diff m x ≡ x - m = omega arith in
          let k : IsGcd m (x - m) g = subst (λ n. IsGcd n (x - m) g) e (subst (λ n. IsGcd (min m x) n g) f h) in
          IsGcd-from_sub x m g le (IsGcd-swap m (x - m) g k)
      | inr le ↦
          let e : min m x ≡ x = omega arith in
          let f : abs_diff m x ≡ m - x = omega arith in
          let k : IsGcd x (m - x) g = subst (λ n. IsGcd n (m - x) g) e (subst (λ n. IsGcd (min m x) n g) f h) in
          IsGcd-swap m x g (IsGcd-from_sub m x g le (IsGcd-swap x (m - x) g k))
    ]

pub odd-min : (m x : ℕ) → m % 2 ≡ 1 → x % 2 ≡ 1 → min m x % 2 ≡ 1
odd-min m x p q =
    elim (by_order m x) [
      | inl le ↦ let e : min m x ≡ m = omega arith in subst (λ n. n % 2 ≡ 1) (sym e) p
      | inr le ↦ let e : min m x ≡ x = omega arith in subst (λ n. n % 2 ≡ 1) (sym e) q
    ]

-- one step of the binary algorithm
pub IsGcd-step : (x y m g : ℕ) → x % 2 ≡ 1 → IsOddPart y m → IsGcd (min m x) (abs_diff m x) g → IsGcd x y g
IsGcd-step x y m g odd p h = IsGcd-odd_part x y m g odd p (IsGcd-apart x m g h)

-- numbers that were shifted, and their greatest common divisor shifted back
pub IsGcd-shifted_back : (a b k g m : ℕ) → 0 < a → a < m → a ≡ 2 ^ k * (a / 2 ^ k) → b ≡ 2 ^ k * (b / 2 ^ k) → IsGcd (a / 2 ^ k) (b / 2 ^ k) g → IsGcd a b (g * 2 ^ k % m)
IsGcd-shifted_back a b k g m above small p q h =
    let grown : IsGcd (2 ^ k * (a / 2 ^ k)) (2 ^ k * (b / 2 ^ k)) (2 ^ k * g) = IsGcd-grown (a / 2 ^ k) (b / 2 ^ k) g (2 ^ k) h in
    let shifted : IsGcd a b (2 ^ k * g) = subst (λ n. IsGcd a n (2 ^ k * g)) (sym q) (subst (λ n. IsGcd n (2 ^ k * (b / 2 ^ k)) (2 ^ k * g)) (sym p) grown) in
    let le : 2 ^ k * g ≤ a = le_of_dvd above shifted.0 in
    let less : g * 2 ^ k < m = subst (λ n. n < m) (mul_comm (2 ^ k) g) (lt_of_le_of_lt le small) in
    let e : 2 ^ k * g ≡ g * 2 ^ k % m = mul_comm (2 ^ k) g ∙ sym (mod-eq_of_lt less) in
    subst (λ n. IsGcd a b n) e shifted

-- what is a multiple of 2 to the zeros of a number above 0
pub multiple-zeros : (w : Width) (n k : ℕ) → 0 < n → Fits w n → k ≤ trailing_zeros w n → n ≡ 2 ^ k * (n / 2 ^ k)
multiple-zeros w n k above fits le =
    let b = bit_at-trailing_zeros w n above fits.fits in
    multiple n k (λ i l. b.2 i (omega arith))
