-- Ratios are an ordered field with a decidable equality.
use Rattle.std.specs.Prelude.{◌≡◌, ◌≢◌, ℕ, zero, suc, max, ◌+◌, ◌-◌, ◌*◌, ◌<◌, Bool, true, false, ℤ, pos, negsuc, neg_ℤ, ◌+ℤ◌, ◌*ℤ◌, ◌<ℤ◌, ◌≤ℤ◌}
use Rattle.std.proofs.Common.{inl, inr, arith, ap, refl, sym, subst, ◌∙◌}
use Rattle.std.proofs.lemmas.Int.{ints}
use Rattle.std.proofs.Math.Nat.{le-max_left, mul-lt-mul_of_pos_left}
use borrow.Author.Differences.{product_is, neg_is, same_in}
use Rattle.np_frac.specs.Ratio.{◌≤ᵣ◌, sum_is, Ratio, IsLowest, made, over, over_num, inverse, whole, is_below, negated, zero_ratio, one_ratio, ◌<ᵣ◌, ◌+ᵣ◌, ◌*ᵣ◌}
use Rattle.np_frac.proofs.Differences.{diff_is, diff_zero}
use Rattle.np_frac.proofs.Parts.{by3, Parts, ratio, ratio-parts, nothing, nothing_is, unit, product, same_parts, Same, by1, by2, unit_is, operations, product_of, same, same_is, below, below_is}
use Rattle.np_frac.proofs.RatioLaws.{below_or, *ᵣ-zero, *ᵣ_at_most, <ᵣ_is_≤ᵣ, *ᵣ_comm, is_below_true, same_by_tests, clash, ≤ᵣ_same}

pub +ᵣ-negated : (a : Ratio) → a +ᵣ negated a ≡ zero_ratio
+ᵣ-negated = by1 (λ a. a +ᵣ negated a ≡ zero_ratio) (λ x. simp operations (same _ _ (omega arith)))

pub *ᵣ-one : (a : Ratio) → a *ᵣ one_ratio ≡ a
*ᵣ-one = by1 (λ a. a *ᵣ one_ratio ≡ a) (λ x. simp (operations, unit_is) (same _ _ (omega arith)))

pub one-zero : one_ratio ≢ zero_ratio
one-zero e = absurd (omega (arith, same_is unit nothing (sym unit_is ∙ e ∙ nothing_is)))

over_plus : (n d : ℕ) (h : 0 < d) → over (pos n) d h ≡ ratio (record { plus = n; minus = 0; den = d; den_positive = h })
unfolding ratio
over_plus n d h = ap (λ z. over z d h) (sym (diff_zero n))

over_minus : (n d : ℕ) (h : 0 < d) → over (neg_ℤ (pos n)) d h ≡ ratio (record { plus = 0; minus = n; den = d; den_positive = h })
unfolding ratio
over_minus n d h = ap (λ z. over z d h) (same_in _ _ (omega (arith, neg_is (pos n), diff_is 0 n)))

zero_is : (d : ℕ) (l : IsLowest (pos zero) d) → made (pos zero) d l ≡ zero_ratio
unfolding whole
zero_is d l = same_parts (made (pos zero) d l) zero_ratio (omega arith)

-- a product whose factors are these parts
one_by : (a b : Ratio) (x y : Parts) → a ≡ ratio x → b ≡ ratio y → Same (product x y) unit → a *ᵣ b ≡ one_ratio
one_by a b x y d e h = rw (d, e, unit_is, product_of x y) (same (product x y) unit h)

by_sign : (n : ℤ) (d : ℕ) (l : IsLowest n d) → made n d l ≢ zero_ratio → made n d l *ᵣ over_num n d ≡ one_ratio
unfolding over_num
by_sign (pos zero) d l h = absurd (h (zero_is d l))
by_sign (pos (suc n)) d l h =
    one_by _ _ (record { plus = suc n; minus = 0; den = d; den_positive = l.positive }) _ (sym (ratio-parts (made (pos (suc n)) d l))) (over_plus d (max 1 (suc n)) (le-max_left 1 (suc n)))
    (let e : max 1 (suc n) ≡ suc n = omega arith in omega (arith, ap (λ (t : ℕ). d * t) e))
by_sign (negsuc n) d l h =
    one_by _ _ (record { plus = 0; minus = suc n; den = d; den_positive = l.positive }) _ (sym (ratio-parts (made (negsuc n) d l))) (over_minus d (suc n) _) (omega arith)

pub *ᵣ-inverse : (a : Ratio) → a ≢ zero_ratio → a *ᵣ inverse a ≡ one_ratio
unfolding inverse
*ᵣ-inverse a h = by_sign a.num a.den a.lowest h

pub same_or : (a b : Ratio) → Dec (a ≡ b)
same_or a b = by_tests (is_below a b) (is_below b a) refl refl
  where
    by_tests : (s t : Bool) → is_below a b ≡ s → is_below b a ≡ t → Dec (a ≡ b)
    by_tests true t d e = no (λ p. clash (is_below_true a b d) (≤ᵣ_same (sym p)))
    by_tests false true d e = no (λ p. clash (is_below_true b a e) (≤ᵣ_same p))
    by_tests false false d e = yes (same_by_tests a b d e)

is_above : (x : Parts) → zero_ratio <ᵣ ratio x → x.minus < x.plus
is_above x h = omega (arith, below_is nothing x (subst (λ n. n <ᵣ ratio x) nothing_is h))

crossed_below : (p m s t : ℕ) → m < p → s < t → p * s + m * t < p * t + m * s
crossed_below p m s t h k =
    let e : p ≡ m + (p - m) = omega arith in
    rw e (omega (arith, mul-lt-mul_of_pos_left k (let d : 0 < p - m = omega arith in d)))

-- a product of two above 0 is above 0
pub *ᵣ_above : {a b : Ratio} → zero_ratio <ᵣ a → zero_ratio <ᵣ b → zero_ratio <ᵣ a *ᵣ b
*ᵣ_above {a} {b} = by2 (λ a b. zero_ratio <ᵣ a → zero_ratio <ᵣ b → zero_ratio <ᵣ a *ᵣ b) (λ x y h k.
    simp operations (below _ _ (omega (arith, crossed_below _ _ _ _ (is_above x h) (is_above y k))))) a b

-- ---- quotients and the order

pub above-apart : {a : Ratio} → zero_ratio <ᵣ a → a ≢ zero_ratio
above-apart h e = clash h (≤ᵣ_same e)

-- a whole number above 0, and one not below it
pub whole_above : (x : ℤ) → pos 0 <ℤ x → zero_ratio <ᵣ whole x
unfolding whole
whole_above x h = record { cross = omega (arith, ints) }

pub whole_at_least : (x : ℤ) → pos 0 ≤ℤ x → zero_ratio ≤ᵣ whole x
unfolding whole
whole_at_least x h = record { cross = omega (arith, ints) }

pub one_above : zero_ratio <ᵣ one_ratio
one_above = whole_above (pos 1) (omega (arith, ints))

pub negated_one_below : negated one_ratio <ᵣ zero_ratio
unfolding whole negated
negated_one_below = is_below_true (negated one_ratio) zero_ratio refl

pub inverse_above : {a : Ratio} → zero_ratio <ᵣ a → zero_ratio <ᵣ inverse a
inverse_above {a} h =
    elim (below_or zero_ratio (inverse a)) [
      | inl k ↦ k
      | inr k ↦ absurd (clash one_above (rw (*ᵣ-inverse a (above-apart h), *ᵣ-zero a) at (*ᵣ_at_most (<ᵣ_is_≤ᵣ h) k)))
    ]

turned : (i t d : Ratio) → i *ᵣ (t *ᵣ d) ≡ t *ᵣ (d *ᵣ i)
turned = by3 (λ i t d. i *ᵣ (t *ᵣ d) ≡ t *ᵣ (d *ᵣ i)) (λ x y z. simp operations (same _ _ (omega arith)))

-- a bound on a product is one on the factor
pub quotient_at_most : (t d r : Ratio) → zero_ratio <ᵣ d → t *ᵣ d ≤ᵣ r → t ≤ᵣ r *ᵣ inverse d
quotient_at_most t d r h k =
    rw (turned (inverse d) t d, *ᵣ-inverse d (above-apart h), *ᵣ-one t, *ᵣ_comm (inverse d) r) at (*ᵣ_at_most (<ᵣ_is_≤ᵣ (inverse_above h)) k)

pub times_one : (z : ℤ) → z *ℤ pos 1 ≡ z
times_one z = same_in _ _ (omega (arith, product_is z (pos 1)))

pub whole-+ᵣ : (y z : ℤ) → whole y +ᵣ whole z ≡ whole (y +ℤ z)
unfolding whole
whole-+ᵣ y z = sym (sum_is (whole y) (whole z) (whole (y +ℤ z)) (sym (rw (times_one y, times_one z) refl)))
