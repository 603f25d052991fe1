-- Sums and products of whole numbers.
use Rattle.std.specs.Prelude.{◌≡◌, ◌<◌, ◌^◌, ℤ, ◌+ℤ◌, ◌*ℤ◌, unsigned_abs}
use Rattle.std.proofs.Common.{refl, sym, subst, ap, ◌∙◌, arith}
use Rattle.std.specs.Int.{IsGcd}
use Rattle.std.proofs.Math.Nat.{one-dvd}
use Rattle.np_frac.specs.Ratio.{Ratio, whole, same_numbers, product_is, ◌*ᵣ◌}
use Rattle.np_frac.specs.Fits.{Fits}
use Rattle.np_frac.specs.Steps.Found.{HasSum}
use Rattle.np_frac.proofs.Field.{times_one}
use Rattle.np_frac.proofs.SumParts.{HasSum-parts, sum-left, sum-right}

pub whole-*ᵣ : (y z : ℤ) → whole y *ᵣ whole z ≡ whole (y *ℤ z)
unfolding whole
whole-*ᵣ y z = sym (product_is (whole y) (whole z) (whole (y *ℤ z)) refl)

-- a ratio with the denominator 1 is a whole number
pub whole_by_den : (r : Ratio) → r.den ≡ 1 → r ≡ whole r.num
unfolding whole
whole_by_den r e = same_numbers r (whole r.num) refl e

pub whole_fits : (z : ℤ) → unsigned_abs z < 2 ^ 127 → Fits (whole z)
unfolding whole
whole_fits z h = record { num_fits = h; den_fits = omega arith }

pub fits_whole : (z : ℤ) → Fits (whole z) → unsigned_abs z < 2 ^ 127
unfolding whole
fits_whole z h = h.num_fits

pub whole_product_fits : (y z : ℤ) → unsigned_abs (y *ℤ z) < 2 ^ 127 → Fits (whole y *ᵣ whole z)
whole_product_fits y z h = subst Fits (sym (whole-*ᵣ y z)) (whole_fits (y *ℤ z) h)

pub fits_whole_product : (y z : ℤ) → Fits (whole y *ᵣ whole z) → unsigned_abs (y *ℤ z) < 2 ^ 127
fits_whole_product y z h = fits_whole (y *ℤ z) (subst Fits (whole-*ᵣ y z) h)

ones : IsGcd 1 1 1
ones = (one-dvd 1, one-dvd 1, λ d m n. m)

pub whole_sum_fits : (y z : ℤ) → unsigned_abs y < 2 ^ 127 → unsigned_abs z < 2 ^ 127 → unsigned_abs (y +ℤ z) < 2 ^ 127 → HasSum (whole y) (whole z)
unfolding whole
whole_sum_fits y z h k s =
    HasSum-parts (whole y) (whole z) 1 1 y z
    (record { is_gcd = ones; common_is = refl; left_is = sym (times_one y); right_is = sym (times_one z) })
    (omega arith) h k s

pub fits_whole_sum : (y z : ℤ) → HasSum (whole y) (whole z) → unsigned_abs (y +ℤ z) < 2 ^ 127
unfolding whole
fits_whole_sum y z h =
    let l : h.left ≡ y = sum-left (whole y) (whole z) 1 ones h ∙ times_one y in
    let r : h.right ≡ z = sum-right (whole y) (whole z) 1 ones h ∙ times_one z in
    let e : h.left +ℤ h.right ≡ y +ℤ z = ap (λ (x : ℤ). x +ℤ h.right) l ∙ ap (λ (x : ℤ). y +ℤ x) r in
    subst (λ (x : ℤ). unsigned_abs x < 2 ^ 127) e h.sum_fits
