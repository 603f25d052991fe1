-- What an exact operation answers fits a fraction.
use Rattle.std.specs.Prelude.{◌≡◌, ℕ, ◌*◌, ◌<◌, ◌≤◌, ◌^◌, Bool, true, false, Ok, Err, ℤ, pos, ◌+ℤ◌, ◌*ℤ◌, unsigned_abs, if◌then◌else◌}
use Rattle.std.proofs.Common.{arith, sym, subst, refl}
use Rattle.std.proofs.Math.Nat.{mul-pos, mul-le-mul_left, le_of_mul-le-mul_right}
use Rattle.np_frac.specs.Ratio.{Ratio, negated, inverse, ◌+ᵣ◌, ◌*ᵣ◌, sum_cross}
use Rattle.np_frac.specs.Fits.{Fits, fits}
use Rattle.np_frac.specs.Exact.{fits_sum, plus_of, minus_of, times_of, over_of}
use Rattle.np_frac.specs.Steps.Coprime.{lowest_is_least, scales}
use Rattle.np_frac.specs.Steps.Signs.{abs-cross, cross_trans}
use Rattle.np_frac.specs.Steps.Found.{HasSum}
use Rattle.np_frac.proofs.SumParts.{SumParts, sum-common, sum-left, sum-right, sum-parts-same}
use Rattle.np_frac.proofs.Exactness.{fits_so, fits_sum_so}
use Rattle.np_frac.proofs.Fractions.{quotient-some}
use Rattle.np_frac.specs.declared.frac.Past.{Past}

-- lowest terms have no greater parts than any others of that value
pub lowest-fits : (r : Ratio) (n : ℤ) (d : ℕ) → 0 < d → r.num *ℤ pos d ≡ n *ℤ pos r.den → unsigned_abs n < 2 ^ 127 → d < 2 ^ 127 → Fits r
lowest-fits r n d some e n_fits d_fits =
    let cross : unsigned_abs r.num * d ≡ unsigned_abs n * r.den = abs-cross r.num n d r.den e in
    let low : r.den ≤ d = lowest_is_least (unsigned_abs r.num) r.den (unsigned_abs n) d some r.lowest.coprime cross in
    let grown : unsigned_abs n * r.den ≤ unsigned_abs n * d = mul-le-mul_left (unsigned_abs n) low in
    let less : unsigned_abs r.num ≤ unsigned_abs n = le_of_mul-le-mul_right {k = d} (subst (λ (k : ℕ). k ≤ unsigned_abs n * d) (sym cross) grown) some in
    record { num_fits = omega arith; den_fits = omega arith }

pub sum-fits : (a b : Ratio) → HasSum a b → Fits (a +ᵣ b)
sum-fits a b h =
    let s = scales a.den b.den in
    let parts : SumParts a b s.divisor h.common h.left h.right = record {
      is_gcd = s.is_gcd;
      common_is = sum-common a b s.divisor s.is_gcd h;
      left_is = sum-left a b s.divisor s.is_gcd h;
      right_is = sum-right a b s.divisor s.is_gcd h;
    } in
    let same = sum-parts-same a b s.divisor h.common h.left h.right parts in
    let some : 0 < h.common = subst (λ (k : ℕ). 0 < k) (sym (sum-common a b s.divisor s.is_gcd h)) (mul-pos a.lowest.positive (quotient-some a.den b.den s.divisor b.lowest.positive s.is_gcd)) in
    lowest-fits (a +ᵣ b) (h.left +ℤ h.right) h.common some
    (cross_trans (a +ᵣ b).num (a.num *ℤ pos b.den +ℤ b.num *ℤ pos a.den) (h.left +ℤ h.right) (a +ᵣ b).den (a.den * b.den) h.common
    (mul-pos a.lowest.positive b.lowest.positive) (sum_cross a b) (sym same))
    h.sum_fits h.common_fits

-- an answer is one that fits
fitting : (t : Bool) (x y : Ratio) (p : Past) → (t ≡ true → Fits x) → (if t then Ok x else Err p) ≡ Ok y → Fits y
fitting true x y p f e = let same : x ≡ y = cc e in subst Fits same (f refl)
fitting false x y p f e = absurd (cc e)

pub plus_fits : (a b r : Ratio) → plus_of a b ≡ Ok r → Fits r
unfolding plus_of
plus_fits a b r e = fitting (fits_sum a b) (a +ᵣ b) r _ (λ t. sum-fits a b (fits_sum_so a b t)) e

pub minus_fits : (a b r : Ratio) → minus_of a b ≡ Ok r → Fits r
unfolding minus_of
minus_fits a b r e = fitting (fits_sum a (negated b)) (a +ᵣ negated b) r _ (λ t. sum-fits a (negated b) (fits_sum_so a (negated b) t)) e

pub times_fits : (a b r : Ratio) → times_of a b ≡ Ok r → Fits r
unfolding times_of
times_fits a b r e = fitting (fits (a *ᵣ b)) (a *ᵣ b) r _ (fits_so (a *ᵣ b)) e

pub over_fits : (a b r : Ratio) → over_of a b ≡ Ok r → Fits r
unfolding over_of
over_fits a b r e = fitting (fits (a *ᵣ inverse b)) (a *ᵣ inverse b) r _ (fits_so (a *ᵣ inverse b)) e
