-- Ratios: whole numbers n over d, d above 0, in lowest terms. Equality, order, sum and product go by cross products.
use Rattle.std.specs.Prelude.{◌≡◌, ◌≢◌, ℕ, ◌*◌, ◌/◌, ◌<◌, Bool, int_lt, ℤ, pos, negsuc, zero, suc, max, ◌+ℤ◌, ◌*ℤ◌, neg_ℤ, ◌≤ℤ◌, ◌<ℤ◌, unsigned_abs, List, fold}
use Rattle.std.specs.Int.{IsGcd}
use Rattle.std.proofs.Props.{props}
use Rattle.std.specs.Coded.{Coded, code_by, coded×, coded_ℕ, coded_ℤ}
use Rattle.std.proofs.Math.Nat.{mul_comm, mul-pos, le_refl, le-max_left, one-dvd, mul-div_cancel', pos_of_dvd_of_pos, eq_of_mul-eq-mul_right}
use Rattle.std.proofs.lemmas.Int.{unsigned_abs-mul}
use Rattle.std.proofs.Common.{refl, arith, subst, sym, ap, ◌∙◌}
use borrow.Author.Differences as integers
use borrow.Author.Differences.{up, down, same_in}
use Rattle.np_frac.specs.Steps.Coprime.{scales, coprime-quotients, lowest-lower}
use Rattle.np_frac.specs.Steps.Signs.{quot-exact, cross_trans, unsigned_abs-neg, abs-cross, up-cross, down-cross, up-*, down-*, from_cross}

-- no common divisor above 1, and den above 0
pub record IsLowest (num : ℤ) (den : ℕ) : Type 0 where
  pub positive : 0 < den
  pub coprime : IsGcd (unsigned_abs num) den 1

pub record Ratio : Type 0 where
  pub num : ℤ
  pub den : ℕ
  pub lowest : IsLowest num den

-- ---- two ratios with the same numbers are the same

pub IsLowest-prop : (n : ℤ) (d : ℕ) → IsProp (IsLowest n d)
IsLowest-prop n d = hlevel props

abbrev pub made : (n : ℤ) (d : ℕ) → IsLowest n d → Ratio
made n d l = record { num = n; den = d; lowest = l }

same_den : (n : ℤ) (d e : ℕ) → d ≡ e → (l : IsLowest n d) (k : IsLowest n e) → made n d l ≡ made n e k
same_den n d e q =
    subst (λ (x : ℕ). (l : IsLowest n d) (k : IsLowest n x) → made n d l ≡ made n x k) q (λ l k. ap (made n d) (IsLowest-prop n d l k))

pub same_made : (n m : ℤ) (d e : ℕ) → n ≡ m → d ≡ e → (l : IsLowest n d) (k : IsLowest m e) → made n d l ≡ made m e k
same_made n m d e p q =
    subst (λ (x : ℤ). (l : IsLowest n d) (k : IsLowest x e) → made n d l ≡ made x e k) p (same_den n d e q)

pub same_numbers : (a b : Ratio) → a.num ≡ b.num → a.den ≡ b.den → a ≡ b
same_numbers a b p q = same_made a.num b.num a.den b.den p q a.lowest b.lowest

-- equality goes by cross products
pub same_ratio : (a b : Ratio) → a.num *ℤ pos b.den ≡ b.num *ℤ pos a.den → a ≡ b
same_ratio a b e =
    let q : a.den ≡ b.den = lowest-lower (unsigned_abs a.num) a.den (unsigned_abs b.num) b.den a.lowest.coprime b.lowest.coprime (abs-cross a.num b.num b.den a.den e) in
    let u = up-cross a.num b.num b.den a.den e in
    let d = down-cross a.num b.num b.den a.den e in
    let u' : up a.num * a.den ≡ up b.num * a.den = subst (λ (k : ℕ). up a.num * k ≡ up b.num * a.den) (sym q) u in
    let d' : down a.num * a.den ≡ down b.num * a.den = subst (λ (k : ℕ). down a.num * k ≡ down b.num * a.den) (sym q) d in
    let up_same = eq_of_mul-eq-mul_right a.den a.lowest.positive (up a.num) (up b.num) u' in
    let down_same = eq_of_mul-eq-mul_right a.den a.lowest.positive (down a.num) (down b.num) d' in
    same_numbers a b (same_in a.num b.num (omega arith)) q

-- ---- n over d

-- the one ratio that is n over d
pub record Over (n : ℤ) (d : ℕ) : Type 0 where
  pub value : Ratio
  pub cross : value.num *ℤ pos d ≡ n *ℤ pos value.den

divided : (n : ℤ) (d g : ℕ) → 0 < d → IsGcd (unsigned_abs n) d g → (x : ℤ) → n ≡ pos g *ℤ x → Over n d
divided n d g some h x e =
    let y : g * (d / g) ≡ d = mul-div_cancel' g h.1 in
    let above : 0 < g = pos_of_dvd_of_pos h.1 some in
    let e' : g * unsigned_abs x ≡ unsigned_abs n = sym (ap unsigned_abs e ∙ unsigned_abs-mul (pos g) x) in
    let value : Ratio = record {
      num = x;
      den = d / g;
      lowest = record { positive = grind arith; coprime = coprime-quotients _ _ g _ _ above h e' y };
    } in
    let p : up n ≡ g * up x = ap up e ∙ up-* (pos g) x ∙ omega arith in
    let q : down n ≡ g * down x = ap down e ∙ down-* (pos g) x ∙ omega arith in
    let p' = ap (λ (k : ℕ). k * (d / g)) p in
    let q' = ap (λ (k : ℕ). k * (d / g)) q in
    let s = ap (λ (k : ℕ). up x * k) y in
    let t = ap (λ (k : ℕ). down x * k) y in
    record { value = value; cross = from_cross x n d (d / g) (omega arith) (omega arith) }

pub lowest_terms : (n : ℤ) (d : ℕ) → 0 < d → Over n d
lowest_terms n d some =
    let s = scales (unsigned_abs n) d in
    divided n d s.divisor some s.is_gcd _ (quot-exact n s.divisor s.is_gcd.0)

-- n over d
pub over : ℤ → (d : ℕ) → 0 < d → Ratio
over n d some = (lowest_terms n d some).value

pub over_is : (n : ℤ) (d : ℕ) (some : 0 < d) → (over n d some).num *ℤ pos d ≡ n *ℤ pos (over n d some).den
unfolding over
over_is n d some = (lowest_terms n d some).cross

infix 5 ◌≤ᵣ◌ ◌<ᵣ◌
pub record ◌≤ᵣ◌ (a b : Ratio) : Type 0 where
  pub cross : (a.num *ℤ pos b.den) ≤ℤ (b.num *ℤ pos a.den)

pub record ◌<ᵣ◌ (a b : Ratio) : Type 0 where
  pub cross : (a.num *ℤ pos b.den) <ℤ (b.num *ℤ pos a.den)

pub IsLowest-one : (z : ℤ) → IsLowest z 1
IsLowest-one z = record { positive = le_refl 1; coprime = (one-dvd _, one-dvd _, λ d m n. n) }

unfoldable pub whole : ℤ → Ratio
whole z = record { num = z; den = 1; lowest = IsLowest-one z }

abbrev pub zero_ratio : Ratio
zero_ratio = whole (pos 0)

abbrev pub one_ratio : Ratio
one_ratio = whole (pos 1)

infixl 6 ◌+ᵣ◌ ◌-ᵣ◌
infixl 7 ◌*ᵣ◌
unfoldable pub ◌+ᵣ◌ : Ratio → Ratio → Ratio
a +ᵣ b = over (a.num *ℤ pos b.den +ℤ b.num *ℤ pos a.den) (a.den * b.den) (mul-pos a.lowest.positive b.lowest.positive)

unfoldable pub ◌*ᵣ◌ : Ratio → Ratio → Ratio
a *ᵣ b = over (a.num *ℤ b.num) (a.den * b.den) (mul-pos a.lowest.positive b.lowest.positive)

pub IsLowest-neg : {z : ℤ} {d : ℕ} → IsLowest z d → IsLowest (neg_ℤ z) d
IsLowest-neg {z} {d} h = record { positive = h.positive; coprime = subst (λ n. IsGcd n d 1) (sym (unsigned_abs-neg z)) h.coprime }

unfoldable pub negated : Ratio → Ratio
negated a = record { num = neg_ℤ a.num; den = a.den; lowest = IsLowest-neg a.lowest }

-- one over n, times d
unfoldable pub over_num : ℤ → ℕ → Ratio
over_num (pos n) d = over (pos d) (max 1 n) (le-max_left 1 n)
over_num (negsuc n) d = over (neg_ℤ (pos d)) (suc n) (omega arith)

-- one over a, where a is not 0
unfoldable pub inverse : Ratio → Ratio
inverse a = over_num a.num a.den

abbrev pub ◌-ᵣ◌ : Ratio → Ratio → Ratio
a -ᵣ b = a +ᵣ negated b

-- the sum of what f makes of each element, from the left, and 0 for the empty list
abbrev pub total : {A : Type 0} → (A → Ratio) → List A → Ratio
total f xs = fold (λ sum x. sum +ᵣ f x) zero_ratio xs

-- the product of what f makes of each element, from the left, and 1 for the empty list
abbrev pub product : {A : Type 0} → (A → Ratio) → List A → Ratio
product f xs = fold (λ r x. r *ᵣ f x) one_ratio xs

-- the test of `<ᵣ`
abbrev pub is_below : Ratio → Ratio → Bool
is_below a b = int_lt (a.num *ℤ pos b.den) (b.num *ℤ pos a.den)

-- n over d, or over 1 for 0
abbrev pub over_some : ℤ → ℕ → Ratio
over_some n d = over n (max 1 d) (le-max_left 1 d)

pub over-numbers : (r : Ratio) → over_some r.num r.den ≡ r
over-numbers r =
    let e : max 1 r.den ≡ r.den = omega (arith, r.lowest.positive) in
    same_ratio (over_some r.num r.den) r (ap (λ (k : ℕ). (over_some r.num r.den).num *ℤ pos k) (sym e) ∙ over_is r.num (max 1 r.den) (le-max_left 1 r.den))

abbrev pub ratio_code : Coded Ratio
ratio_code = code_by (ℤ × ℕ) (coded× coded_ℤ coded_ℕ) (λ r. (r.num, r.den)) (λ p. over_some p.0 p.1) over-numbers

-- ---- sums and products go by cross products

pub over_same : (r : Ratio) (n : ℤ) (d : ℕ) (some : 0 < d) → r.num *ℤ pos d ≡ n *ℤ pos r.den → r ≡ over n d some
over_same r n d some e =
    let s = over n d some in
    same_ratio r s (cross_trans r.num n s.num r.den d s.den some e (sym (over_is n d some)))

pub sum_is : (a b r : Ratio) → r.num *ℤ pos (a.den * b.den) ≡ (a.num *ℤ pos b.den +ℤ b.num *ℤ pos a.den) *ℤ pos r.den → r ≡ a +ᵣ b
unfolding ◌+ᵣ◌
sum_is a b r e = over_same r _ _ _ e

pub sum_cross : (a b : Ratio) → (a +ᵣ b).num *ℤ pos (a.den * b.den) ≡ (a.num *ℤ pos b.den +ℤ b.num *ℤ pos a.den) *ℤ pos (a +ᵣ b).den
unfolding ◌+ᵣ◌
sum_cross a b = over_is _ _ _

pub product_is : (a b r : Ratio) → r.num *ℤ pos (a.den * b.den) ≡ (a.num *ℤ b.num) *ℤ pos r.den → r ≡ a *ᵣ b
unfolding ◌*ᵣ◌
product_is a b r e = over_same r _ _ _ e

pub product_cross : (a b : Ratio) → (a *ᵣ b).num *ℤ pos (a.den * b.den) ≡ (a.num *ℤ b.num) *ℤ pos (a *ᵣ b).den
unfolding ◌*ᵣ◌
product_cross a b = over_is _ _ _

-- an inverse goes by cross products

by_sign : (n : ℤ) (d : ℕ) (r : Ratio) → n ≢ pos 0 → r.num *ℤ n ≡ pos (r.den * d) → r ≡ over_num n d
unfolding over_num
by_sign (pos zero) d r h e = absurd (h refl)
by_sign (pos (suc n)) d r h e =
    let one_more : max 1 (suc n) ≡ suc n = omega arith in
    over_same r _ _ _ (ap (λ (k : ℕ). r.num *ℤ pos k) one_more ∙ e ∙ ap pos (mul_comm r.den d))
by_sign (negsuc n) d r h e =
    let p = integers.product_is r.num (negsuc n) in
    let q = integers.product_is r.num (pos (suc n)) in
    let s = integers.product_is (neg_ℤ (pos d)) (pos r.den) in
    let m = integers.neg_is (pos d) in
    over_same r _ _ _ (same_in _ _ (omega (arith, p, q, s, ap (λ (t : ℕ). t * r.den) m.0, ap (λ (t : ℕ). t * r.den) m.1, ap up e, ap down e)))

pub inverse_by : (a r : Ratio) → a.num ≢ pos 0 → r.num *ℤ a.num ≡ pos (r.den * a.den) → r ≡ inverse a
unfolding inverse
inverse_by a r h e = by_sign a.num a.den r h e

-- ---- ratios are a set, and their order is a proposition

pub Ratio-set : IsSet Ratio
Ratio-set = hlevel (props, IsLowest-prop)

pub ≤ᵣ-prop : (a b : Ratio) → IsProp (a ≤ᵣ b)
≤ᵣ-prop a b = hlevel props

pub <ᵣ-prop : (a b : Ratio) → IsProp (a <ᵣ b)
<ᵣ-prop a b = hlevel props
