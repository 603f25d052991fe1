-- The laws of ratios.
use Rattle.std.specs.Prelude.{◌≡◌, ℕ, ◌+◌, ◌*◌, ◌-◌, ◌≤◌, ◌<◌, ◌⊎◌, Bool, true, false, not, T, if◌then◌else◌}
use lib.Signed.{lt_z_no}
use Rattle.std.proofs.Common.{arith, refl, sym, subst, inl, inr}
use Rattle.std.proofs.Math.Nat.{mul-pos, mul-le-mul_left, mul-lt-mul_of_pos_left, le_of_mul-le-mul_left, lt_of_mul-lt-mul_left}
use Rattle.std.proofs.lemmas.Bool.{cases_lt}
use Rattle.np_frac.specs.Ratio.{Ratio, is_below, negated, zero_ratio, one_ratio, ◌≤ᵣ◌, ◌<ᵣ◌, ◌+ᵣ◌, ◌-ᵣ◌, ◌*ᵣ◌}
use Rattle.np_frac.proofs.Parts.{Parts, ratio, nothing, nothing_is, by1, by2, by3, by4, by6, natural, unit_is, operations, same, same_is, at_most, at_most_is, below, below_is}

-- ---- sums and products

pub +ᵣ_comm : (a b : Ratio) → a +ᵣ b ≡ b +ᵣ a
+ᵣ_comm = by2 (λ a b. a +ᵣ b ≡ b +ᵣ a) (λ x y. simp operations (same _ _ (omega arith)))

pub +ᵣ_assoc : (a b c : Ratio) → (a +ᵣ b) +ᵣ c ≡ a +ᵣ (b +ᵣ c)
+ᵣ_assoc = by3 (λ a b c. (a +ᵣ b) +ᵣ c ≡ a +ᵣ (b +ᵣ c)) (λ x y z. simp operations (same _ _ (omega arith)))

pub +ᵣ_middle : (a b c d : Ratio) → (a +ᵣ b) +ᵣ (c +ᵣ d) ≡ (a +ᵣ c) +ᵣ (b +ᵣ d)
+ᵣ_middle = by4 (λ a b c d. (a +ᵣ b) +ᵣ (c +ᵣ d) ≡ (a +ᵣ c) +ᵣ (b +ᵣ d)) (λ x y z w. simp operations (same _ _ (omega arith)))

pub +ᵣ-zero : (a : Ratio) → a +ᵣ zero_ratio ≡ a
+ᵣ-zero = by1 (λ a. a +ᵣ zero_ratio ≡ a) (λ x. simp operations (same _ _ (omega arith)))

pub zero-+ᵣ : (a : Ratio) → zero_ratio +ᵣ a ≡ a
zero-+ᵣ = by1 (λ a. zero_ratio +ᵣ a ≡ a) (λ x. simp operations (same _ _ (omega arith)))

pub *ᵣ_comm : (a b : Ratio) → a *ᵣ b ≡ b *ᵣ a
*ᵣ_comm = by2 (λ a b. a *ᵣ b ≡ b *ᵣ a) (λ x y. simp operations (same _ _ (omega arith)))

pub *ᵣ_assoc : (a b c : Ratio) → (a *ᵣ b) *ᵣ c ≡ a *ᵣ (b *ᵣ c)
*ᵣ_assoc = by3 (λ a b c. (a *ᵣ b) *ᵣ c ≡ a *ᵣ (b *ᵣ c)) (λ x y z. simp operations (same _ _ (omega arith)))

pub *ᵣ-+ᵣ : (a b c : Ratio) → a *ᵣ (b +ᵣ c) ≡ a *ᵣ b +ᵣ a *ᵣ c
*ᵣ-+ᵣ = by3 (λ a b c. a *ᵣ (b +ᵣ c) ≡ a *ᵣ b +ᵣ a *ᵣ c) (λ x y z. simp operations (same _ _ (omega arith)))

pub +ᵣ-*ᵣ : (a b c : Ratio) → (a +ᵣ b) *ᵣ c ≡ a *ᵣ c +ᵣ b *ᵣ c
+ᵣ-*ᵣ = by3 (λ a b c. (a +ᵣ b) *ᵣ c ≡ a *ᵣ c +ᵣ b *ᵣ c) (λ x y z. simp operations (same _ _ (omega arith)))

pub *ᵣ-zero : (a : Ratio) → a *ᵣ zero_ratio ≡ zero_ratio
*ᵣ-zero = by1 (λ a. a *ᵣ zero_ratio ≡ zero_ratio) (λ x. simp operations (same _ _ (omega arith)))

pub zero-*ᵣ : (a : Ratio) → zero_ratio *ᵣ a ≡ zero_ratio
zero-*ᵣ = by1 (λ a. zero_ratio *ᵣ a ≡ zero_ratio) (λ x. simp operations (same _ _ (omega arith)))

-- c x is (c - q) x and q x
pub split_by : (c q x : Ratio) → c *ᵣ x ≡ (c -ᵣ q) *ᵣ x +ᵣ q *ᵣ x
split_by = by3 (λ c q x. c *ᵣ x ≡ (c -ᵣ q) *ᵣ x +ᵣ q *ᵣ x) (λ x y z. simp operations (same _ _ (omega arith)))

-- ---- order

pub ≤ᵣ_same : {a b : Ratio} → a ≡ b → a ≤ᵣ b
≤ᵣ_same {a} {b} = by2 (λ a b. a ≡ b → a ≤ᵣ b) (λ x y e. at_most x y (omega (arith, same_is x y e))) a b

pub ≤ᵣ_refl : (a : Ratio) → a ≤ᵣ a
≤ᵣ_refl a = ≤ᵣ_same refl

pub ≤ᵣ_trans : {a b c : Ratio} → a ≤ᵣ b → b ≤ᵣ c → a ≤ᵣ c
≤ᵣ_trans {a} {b} {c} = by3 (λ a b c. a ≤ᵣ b → b ≤ᵣ c → a ≤ᵣ c)
    (λ x y z d e. at_most x z (le_of_mul-le-mul_left
    (omega (arith, mul-le-mul_left z.den (at_most_is x y d), mul-le-mul_left x.den (at_most_is y z e))) y.den_positive))
    a b c

pub ≤ᵣ_antisym : {a b : Ratio} → a ≤ᵣ b → b ≤ᵣ a → a ≡ b
≤ᵣ_antisym {a} {b} = by2 (λ a b. a ≤ᵣ b → b ≤ᵣ a → a ≡ b)
    (λ x y d e. same x y (omega (arith, at_most_is x y d, at_most_is y x e))) a b

-- either way round
pub below_or : (a b : Ratio) → (a <ᵣ b) ⊎ (b ≤ᵣ a)
below_or = by2 (λ a b. (a <ᵣ b) ⊎ (b ≤ᵣ a))
    (λ x y. elim (cases_lt (x.plus * y.den + y.minus * x.den) (y.plus * x.den + x.minus * y.den)) [ inl h ↦ inl (below x y h) | inr h ↦ inr (at_most y x h) ])

pub <ᵣ_is_≤ᵣ : {a b : Ratio} → a <ᵣ b → a ≤ᵣ b
<ᵣ_is_≤ᵣ {a} {b} = by2 (λ a b. a <ᵣ b → a ≤ᵣ b) (λ x y h. at_most x y (omega (arith, below_is x y h))) a b

-- no ratio is below another and not
pub clash : {a b : Ratio} → a <ᵣ b → b ≤ᵣ a → ⊥
clash {a} {b} = by2 (λ a b. a <ᵣ b → b ≤ᵣ a → ⊥) (λ x y h k. omega (arith, below_is x y h, at_most_is y x k)) a b

pub +ᵣ_at_most_left : {a b : Ratio} (c : Ratio) → a ≤ᵣ b → a +ᵣ c ≤ᵣ b +ᵣ c
+ᵣ_at_most_left {a} {b} c = by3 (λ a b c. a ≤ᵣ b → a +ᵣ c ≤ᵣ b +ᵣ c)
    (λ x y z e. simp operations (at_most _ _ (omega (arith, mul-le-mul_left (z.den * z.den) (at_most_is x y e)))))
    a b c

pub +ᵣ_at_most : {a b c d : Ratio} → a ≤ᵣ b → c ≤ᵣ d → a +ᵣ c ≤ᵣ b +ᵣ d
+ᵣ_at_most {a} {b} {c} {d} e f =
    ≤ᵣ_trans (+ᵣ_at_most_left c e) (rw (+ᵣ_comm b c, +ᵣ_comm b d) (+ᵣ_at_most_left b f))

crossed : (p m s t : ℕ) → m ≤ p → s ≤ t → p * s + m * t ≤ p * t + m * s
crossed p m s t h k = let e : p ≡ m + (p - m) = omega arith in rw e (omega (arith, mul-le-mul_left (p - m) k))

-- a factor that is not negative keeps the order
pub *ᵣ_at_most : {a b c : Ratio} → zero_ratio ≤ᵣ c → a ≤ᵣ b → c *ᵣ a ≤ᵣ c *ᵣ b
*ᵣ_at_most {a} {b} {c} = by3 (λ a b c. zero_ratio ≤ᵣ c → a ≤ᵣ b → c *ᵣ a ≤ᵣ c *ᵣ b)
    (λ x y z h e. simp operations (at_most _ _ (omega (
      arith,
      mul-le-mul_left z.den
          (crossed z.plus z.minus _ _ (omega (arith, at_most_is nothing z (subst (λ n. n ≤ᵣ ratio z) nothing_is h))) (at_most_is x y e)),
    ))))
    a b c

-- a factor that is not positive turns it round
pub *ᵣ_at_least : {a b c : Ratio} → c ≤ᵣ zero_ratio → a ≤ᵣ b → c *ᵣ b ≤ᵣ c *ᵣ a
*ᵣ_at_least {a} {b} {c} = by3 (λ a b c. c ≤ᵣ zero_ratio → a ≤ᵣ b → c *ᵣ b ≤ᵣ c *ᵣ a)
    (λ x y z h e. simp operations (at_most _ _ (omega (
      arith,
      mul-le-mul_left z.den
          (crossed z.minus z.plus _ _ (omega (arith, at_most_is z nothing (subst (λ n. ratio z ≤ᵣ n) nothing_is h))) (at_most_is x y e)),
    ))))
    a b c

-- the test of the order says what it tests
pub is_below_true : (a b : Ratio) → is_below a b ≡ true → a <ᵣ b
is_below_true a b e = record { cross = record { lt = subst T (sym e) tt } }

pub is_below_false : (a b : Ratio) → is_below a b ≡ false → b ≤ᵣ a
is_below_false a b e = record { cross = lt_z_no (subst (λ (t : Bool). T (not t)) (sym e) tt) }

-- one more arc, t along a direction
pub along_step : (k x t d u v : Ratio) → k *ᵣ (x +ᵣ t *ᵣ d) +ᵣ (u +ᵣ t *ᵣ v) ≡ (k *ᵣ x +ᵣ u) +ᵣ t *ᵣ (k *ᵣ d +ᵣ v)
along_step = by6 (λ k x t d u v. k *ᵣ (x +ᵣ t *ᵣ d) +ᵣ (u +ᵣ t *ᵣ v) ≡ (k *ᵣ x +ᵣ u) +ᵣ t *ᵣ (k *ᵣ d +ᵣ v))
    (λ k x t d u v. simp operations (same _ _ (omega arith)))

-- far enough along what falls, any cost is undercut
far : (x y z : Parts) → y.plus < y.minus → ratio x +ᵣ ratio (natural (y.den * (x.plus + z.minus + 1))) *ᵣ ratio y <ᵣ ratio z
far x y z h = simp operations (below _ _ (omega (
  arith,
  mul-le-mul_left (y.den * (x.plus + z.minus + 1) * (x.den * z.den)) h,
  mul-le-mul_left (y.den * z.den * x.plus) x.den_positive,
  mul-le-mul_left (y.den * x.den * z.minus) z.den_positive,
  mul-pos (mul-pos x.den_positive y.den_positive) z.den_positive,
)))

pub enough : (a d c : Ratio) → d <ᵣ zero_ratio → (t : Ratio) × (zero_ratio ≤ᵣ t) × (a +ᵣ t *ᵣ d <ᵣ c)
enough = by3 (λ a d c. d <ᵣ zero_ratio → (t : Ratio) × (zero_ratio ≤ᵣ t) × (a +ᵣ t *ᵣ d <ᵣ c))
    (λ x y z h. (ratio (natural (y.den * (x.plus + z.minus + 1))), simp operations (at_most _ _ (omega arith)), far x y z (omega (arith, below_is y nothing (subst (λ n. ratio y <ᵣ n) nothing_is h)))))

pub ≤ᵣ-<ᵣ_trans : {a b c : Ratio} → a ≤ᵣ b → b <ᵣ c → a <ᵣ c
≤ᵣ-<ᵣ_trans {a} {b} {c} = by3 (λ a b c. a ≤ᵣ b → b <ᵣ c → a <ᵣ c)
    (λ x y z d e. below x z (lt_of_mul-lt-mul_left y.den
    (omega (arith, mul-le-mul_left z.den (at_most_is x y d), mul-lt-mul_of_pos_left (below_is y z e) x.den_positive))))
    a b c

pub <ᵣ-≤ᵣ_trans : {a b c : Ratio} → a <ᵣ b → b ≤ᵣ c → a <ᵣ c
<ᵣ-≤ᵣ_trans {a} {b} {c} = by3 (λ a b c. a <ᵣ b → b ≤ᵣ c → a <ᵣ c)
    (λ x y z d e. below x z (lt_of_mul-lt-mul_left y.den
    (omega (arith, mul-lt-mul_of_pos_left (below_is x y d) z.den_positive, mul-le-mul_left x.den (at_most_is y z e)))))
    a b c

pub add_back : (a b : Ratio) → a +ᵣ (b -ᵣ a) ≡ b
add_back = by2 (λ a b. a +ᵣ (b -ᵣ a) ≡ b) (λ x y. simp operations (same _ _ (omega arith)))

pub minus_at_most : {a b : Ratio} (c : Ratio) → a ≤ᵣ b → a -ᵣ c ≤ᵣ b -ᵣ c
minus_at_most c h = +ᵣ_at_most_left (negated c) h

pub minus_not_negative : {a c : Ratio} → c ≤ᵣ a → zero_ratio ≤ᵣ a -ᵣ c
minus_not_negative {a} {c} = by2 (λ a c. c ≤ᵣ a → zero_ratio ≤ᵣ a -ᵣ c)
    (λ x y h. simp operations (at_most _ _ (omega (arith, mul-le-mul_left 1 (at_most_is y x h))))) a c

pub grows : (a w : Ratio) → zero_ratio <ᵣ w → a <ᵣ a +ᵣ w
grows = by2 (λ a w. zero_ratio <ᵣ w → a <ᵣ a +ᵣ w)
    (λ x y h. simp operations (below _ _ (omega (arith, mul-lt-mul_of_pos_left (below_is nothing y (subst (λ n. n <ᵣ ratio y) nothing_is h)) (mul-pos x.den_positive x.den_positive)))))

-- the cases of a test of the order
pub if_below : (P : Ratio → Type 0) (a b x y : Ratio) → (a <ᵣ b → P x) → (b ≤ᵣ a → P y) → P (if is_below a b then x else y)
if_below P a b x y f g = by_test (is_below a b) refl
  where
    by_test : (t : Bool) → is_below a b ≡ t → P (if t then x else y)
    by_test true e = f (is_below_true a b e)
    by_test false e = g (is_below_false a b e)

-- by a factor of 0 all products are alike
pub zero_times : {r : Ratio} (a b : Ratio) → r ≤ᵣ zero_ratio → zero_ratio ≤ᵣ r → r *ᵣ a ≤ᵣ r *ᵣ b
zero_times a b h k =
    ≤ᵣ_same (rw (≤ᵣ_antisym h k, zero-*ᵣ a, zero-*ᵣ b) refl)

pub one-*ᵣ : (a : Ratio) → one_ratio *ᵣ a ≡ a
one-*ᵣ = by1 (λ a. one_ratio *ᵣ a ≡ a) (λ x. simp (operations, unit_is) (same _ _ (omega arith)))

pub negated-*ᵣ : (a b : Ratio) → negated a *ᵣ b ≡ negated (a *ᵣ b)
negated-*ᵣ = by2 (λ a b. negated a *ᵣ b ≡ negated (a *ᵣ b)) (λ x y. simp operations (same _ _ (omega arith)))

-- neither is below the other
pub same_by_tests : (a b : Ratio) → is_below a b ≡ false → is_below b a ≡ false → a ≡ b
same_by_tests a b e f = ≤ᵣ_antisym (is_below_false b a f) (is_below_false a b e)

pub minus_link : (c a b : Ratio) → c -ᵣ (a +ᵣ negated b) ≡ (c -ᵣ a) +ᵣ b
minus_link = by3 (λ c a b. c -ᵣ (a +ᵣ negated b) ≡ (c -ᵣ a) +ᵣ b) (λ x y z. simp operations (same _ _ (omega arith)))

pub minus_negated : (c a : Ratio) → c -ᵣ negated a ≡ c +ᵣ a
minus_negated = by2 (λ c a. c -ᵣ negated a ≡ c +ᵣ a) (λ x y. simp operations (same _ _ (omega arith)))

pub minus_sum : (a b c : Ratio) → (a -ᵣ b) -ᵣ c ≡ a -ᵣ (b +ᵣ c)
minus_sum = by3 (λ a b c. (a -ᵣ b) -ᵣ c ≡ a -ᵣ (b +ᵣ c)) (λ x y z. simp operations (same _ _ (omega arith)))

pub minus-zero : (a : Ratio) → a -ᵣ zero_ratio ≡ a
minus-zero = by1 (λ a. a -ᵣ zero_ratio ≡ a) (λ x. simp (operations, nothing_is) (same _ _ (omega arith)))
