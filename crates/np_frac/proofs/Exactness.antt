-- What the code finds is the exact answer.
use Rattle.std.proofs.Common.{◌≡◌, ℕ, ◌/◌, ◌<◌, ◌^◌, ◌&&◌, Bool, true, false, Option, Some, None, Result, Ok, Err, refl, sym, ap, ◌∙◌, ltb-true, lt-ltb, if◌then◌else◌, ℤ, pos, ◌*ℤ◌, ◌+ℤ◌, unsigned_abs, subst}
use Rattle.std.specs.Option.{ok_or}
use Rattle.std.specs.Cmp.Derive.{both_true}
use Rattle.std.proofs.Math.Nat.{mul-div_cancel_left}
use Rattle.np_frac.specs.Ratio.{Ratio, negated, inverse, ◌+ᵣ◌, ◌-ᵣ◌, ◌*ᵣ◌}
use Rattle.np_frac.specs.Steps.Coprime.{scales}
use Rattle.np_frac.specs.Lcm.{lcm}
use Rattle.np_frac.specs.Fits.{Fits, is_part, fits}
use Rattle.np_frac.specs.Steps.Found.{HasSum, IsFound, IsSumFound}
use Rattle.np_frac.specs.Exact.{◌▷◌, fits_sum, plus_of, minus_of, times_of, over_of}
use Rattle.np_frac.proofs.SumParts.{common_symm, sum-common, sum-left, sum-right, HasSum-parts}
use Rattle.np_frac.specs.declared.frac.Past.{Past}
use Rattle.np_frac.specs.declared.frac.Op.TheVariants.{Plus, Minus, Times, Over}

pub left_true : (s t : Bool) → (s && t) ≡ true → s ≡ true
left_true true t e = refl
left_true false t e = e

pub right_true : (s t : Bool) → (s && t) ≡ true → t ≡ true
right_true true t e = e
right_true false t e = absurd (cc e)

part_is : (n : ℕ) → n < 2 ^ 127 → is_part n ≡ true
part_is n h = lt-ltb n (2 ^ 127) h

is_a_part : (n : ℕ) → is_part n ≡ true → n < 2 ^ 127
is_a_part n e = ltb-true n (2 ^ 127) e

pub fits_is : (r : Ratio) → Fits r → fits r ≡ true
fits_is r h = both_true (part_is (unsigned_abs r.num) h.num_fits) (part_is r.den h.den_fits)

pub fits_so : (r : Ratio) → fits r ≡ true → Fits r
fits_so r e = record {
  num_fits = is_a_part (unsigned_abs r.num) (left_true (is_part (unsigned_abs r.num)) (is_part r.den) e);
  den_fits = is_a_part r.den (right_true (is_part (unsigned_abs r.num)) (is_part r.den) e);
}

-- the greatest common divisor that `lcm` divides by
abbrev shared : Ratio → Ratio → ℕ
shared a b = (scales a.den b.den).divisor

left_factor : (a b : Ratio) → lcm a.den b.den / a.den ≡ b.den / shared a b
unfolding lcm
left_factor a b = mul-div_cancel_left (b.den / shared a b) a.lowest.positive

right_factor : (a b : Ratio) → lcm a.den b.den / b.den ≡ a.den / shared a b
unfolding lcm
right_factor a b =
    ap (λ (n : ℕ). n / b.den) (common_symm a.den b.den (shared a b) (scales a.den b.den).is_gcd)
    ∙ mul-div_cancel_left (a.den / shared a b) b.lowest.positive

abbrev left_num : Ratio → Ratio → ℤ
left_num a b = a.num *ℤ pos (lcm a.den b.den / a.den)

abbrev right_num : Ratio → Ratio → ℤ
right_num a b = b.num *ℤ pos (lcm a.den b.den / b.den)

common_of : (a b : Ratio) (h : HasSum a b) → h.common ≡ lcm a.den b.den
unfolding lcm
common_of a b h = sum-common a b (shared a b) (scales a.den b.den).is_gcd h

left_of : (a b : Ratio) (h : HasSum a b) → h.left ≡ left_num a b
left_of a b h = sum-left a b (shared a b) (scales a.den b.den).is_gcd h ∙ ap (λ (n : ℕ). a.num *ℤ pos n) (sym (left_factor a b))

right_of : (a b : Ratio) (h : HasSum a b) → h.right ≡ right_num a b
right_of a b h = sum-right a b (shared a b) (scales a.den b.den).is_gcd h ∙ ap (λ (n : ℕ). b.num *ℤ pos n) (sym (right_factor a b))

pub fits_sum_is : (a b : Ratio) → HasSum a b → fits_sum a b ≡ true
fits_sum_is a b h =
    let c : is_part (lcm a.den b.den) ≡ true = part_is _ (subst (λ (n : ℕ). n < 2 ^ 127) (common_of a b h) h.common_fits) in
    let l : is_part (unsigned_abs (left_num a b)) ≡ true = part_is _ (subst (λ (z : ℤ). unsigned_abs z < 2 ^ 127) (left_of a b h) h.left_fits) in
    let r : is_part (unsigned_abs (right_num a b)) ≡ true = part_is _ (subst (λ (z : ℤ). unsigned_abs z < 2 ^ 127) (right_of a b h) h.right_fits) in
    let e : h.left +ℤ h.right ≡ left_num a b +ℤ right_num a b = ap (λ (z : ℤ). z +ℤ h.right) (left_of a b h) ∙ ap (λ (z : ℤ). left_num a b +ℤ z) (right_of a b h) in
    let s : is_part (unsigned_abs (left_num a b +ℤ right_num a b)) ≡ true = part_is _ (subst (λ (z : ℤ). unsigned_abs z < 2 ^ 127) e h.sum_fits) in
    both_true (both_true (both_true c l) r) s

pub fits_sum_so : (a b : Ratio) → fits_sum a b ≡ true → HasSum a b
unfolding lcm
fits_sum_so a b e =
    let c = is_part (lcm a.den b.den) in
    let l = is_part (unsigned_abs (left_num a b)) in
    let r = is_part (unsigned_abs (right_num a b)) in
    let s = is_part (unsigned_abs (left_num a b +ℤ right_num a b)) in
    let three = left_true (c && l && r) s e in
    let two = left_true (c && l) r three in
    HasSum-parts a b (shared a b) (lcm a.den b.den) (left_num a b) (right_num a b)
    (record {
      is_gcd = (scales a.den b.den).is_gcd;
      common_is = refl;
      left_is = ap (λ (n : ℕ). a.num *ℤ pos n) (left_factor a b);
      right_is = ap (λ (n : ℕ). b.num *ℤ pos n) (right_factor a b);
    })
    (is_a_part _ (left_true c l two)) (is_a_part _ (right_true c l two)) (is_a_part _ (right_true (c && l) r three)) (is_a_part _ (right_true (c && l && r) s e))

pub not_true : (b : Bool) → (b ≡ true → ⊥) → b ≡ false
not_true true h = absurd (h refl)
not_true false h = refl

pub found : (o : Option Ratio) (r : Ratio) (e : Past) → IsFound o r → ok_or o e ≡ (if fits r then Ok r else Err e)
found (Some f) r e h = rw (fits_is r h.0, h.1) refl
found None r e h = rw (not_true (fits r) (λ t. h (fits_so r t))) refl

pub sum_found : (o : Option Ratio) (a b : Ratio) (e : Past) → IsSumFound o a b → ok_or o e ≡ (if fits_sum a b then Ok (a +ᵣ b) else Err e)
sum_found (Some f) a b e h = rw (fits_sum_is a b h.0, h.1) refl
sum_found None a b e h = rw (not_true (fits_sum a b) (λ t. h (fits_sum_so a b t))) refl

-- a ratio that is another, whose parts fit
pub found_as : (f r : Ratio) → f ≡ r → Fits f → Fits r × (f ≡ r)
found_as f r e h = (subst Fits e h, e)

pub times_found : (o : Option Ratio) (a b : Ratio) → IsFound o (a *ᵣ b) → ok_or o (record { op = Times; left = a; right = b }) ≡ times_of a b
unfolding times_of
times_found o a b h = found o (a *ᵣ b) _ h

pub plus_found : (o : Option Ratio) (a b : Ratio) → IsSumFound o a b → ok_or o (record { op = Plus; left = a; right = b }) ≡ plus_of a b
unfolding plus_of
plus_found o a b h = sum_found o a b _ h

pub minus_found : (o : Option Ratio) (a b : Ratio) → IsSumFound o a (negated b) → ok_or o (record { op = Minus; left = a; right = b }) ≡ minus_of a b
unfolding minus_of
minus_found o a b h = sum_found o a (negated b) _ h

pub over_found : (o : Option Ratio) (a b : Ratio) → IsFound o (a *ᵣ inverse b) → ok_or o (record { op = Over; left = a; right = b }) ≡ over_of a b
unfolding over_of
over_found o a b h = found o (a *ᵣ inverse b) _ h

-- ---- what an exact answer is

chosen : {A E : Type 0} (b : Bool) (x y : A) (e : E) → (if b then Ok x else Err e) ≡ Ok y → x ≡ y
chosen true x y e h = cc
chosen false x y e h = absurd (cc h)

pub plus_exact : (a b r : Ratio) → plus_of a b ≡ Ok r → r ≡ a +ᵣ b
unfolding plus_of
plus_exact a b r h = sym (chosen (fits_sum a b) (a +ᵣ b) r _ h)

pub minus_exact : (a b r : Ratio) → minus_of a b ≡ Ok r → r ≡ a -ᵣ b
unfolding minus_of
minus_exact a b r h = sym (chosen (fits_sum a (negated b)) (a -ᵣ b) r _ h)

pub times_exact : (a b r : Ratio) → times_of a b ≡ Ok r → r ≡ a *ᵣ b
unfolding times_of
times_exact a b r h = sym (chosen (fits (a *ᵣ b)) (a *ᵣ b) r _ h)

pub over_exact : (a b r : Ratio) → over_of a b ≡ Ok r → r ≡ a *ᵣ inverse b
unfolding over_of
over_exact a b r h = sym (chosen (fits (a *ᵣ inverse b)) (a *ᵣ inverse b) r _ h)

-- ---- one operation after the other

-- what was found in two steps
pub found_by : {A B : Type 0} (r : Result A Past) (f : A → Result B Past) (y : B) → r ▷ f ≡ Ok y → (x : A) × (r ≡ Ok x) × (f x ≡ Ok y)
found_by (Ok x) f y e = (x, refl, e)
found_by (Err p) f y e = absurd (cc e)
