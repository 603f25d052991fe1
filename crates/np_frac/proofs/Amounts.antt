-- The ratios that are amounts.
use Rattle.std.specs.Prelude.{◌≡◌, ℕ, ◌+◌, ◌-◌, ◌*◌, ◌%◌, ◌^◌, ◌<◌, ◌≤◌, ◌==◌, ◌||◌, Bool, true, false, ℤ, pos, neg_ℤ, ◌*ℤ◌, unsigned_abs, List, [], ◌∷◌, length, if◌then◌else◌, MatchBool, IsTrue}
use Rattle.std.proofs.Common.{refl, arith, subst, sym, ap, ◌∙◌, lt-ltb, eq-eqb}
use Rattle.std.specs.Int.{◌∣◌}
use Rattle.std.specs.Cmp.Derive.{both_true}
use Rattle.std.specs.Str.Parse.{starts_with_minus}
use Rattle.std.proofs.Math.Nat.{le_refl, dvd-mul_left, dvd-mul_right, mul-le-mul, mul-le-mul_left, mul-lt-mul_of_pos_right, le_of_mul-le-mul_right, lt_of_mul-lt-mul_right, one-le-pow}
use Rattle.std.proofs.lemmas.Nat.{pow-add}
use Rattle.std.proofs.lemmas.Nat.Gcd.{dvd_trans, IsGcd-swap, mod-eq-zero_of_dvd}
use Rattle.np_frac.specs.Ratio.{Ratio, whole, over_some}
use Rattle.np_frac.specs.Steps.Coprime.{dvd_of_coprime, lowest_is_least}
use Rattle.np_frac.specs.Steps.Signs.{abs-cross, unsigned_abs-neg}
use Rattle.np_frac.specs.Text.{point, signed, unsigned_part, before_mark, from_mark, IsNumber, number}
use Rattle.np_frac.specs.Amount.{IsAmount, IsAmountEnd, amount_of, amount_upper, amount_lower, is_short, is_decimal, is_amount}
use Rattle.np_frac.proofs.Texts.{number_below}
use Rattle.np_frac.proofs.Fractions.{over_some_cross}

left_or : (s t : Bool) → IsTrue s → IsTrue (s || t)
left_or true t e = refl
left_or false t e = absurd (cc e)

right_or : (s t : Bool) → IsTrue t → IsTrue (s || t)
right_or true t e = refl
right_or false t e = e

-- at most 18 digits over at most 19
pub short_amount : (r : Ratio) → unsigned_abs r.num < 10 ^ 18 → r.den < 10 ^ 19 → IsTrue (is_amount r)
unfolding is_amount
short_amount r h k =
    left_or (is_short r) (is_decimal r) (both_true (lt-ltb (unsigned_abs r.num) (10 ^ 18) h) (lt-ltb r.den (10 ^ 19) k))

-- billionths
pub decimal_amount : (r : Ratio) → r.den ∣ 10 ^ 9 → unsigned_abs r.num < 10 ^ 18 * r.den → IsTrue (is_amount r)
unfolding is_amount
decimal_amount r d h =
    right_or (is_short r) (is_decimal r)
    (both_true (eq-eqb (10 ^ 9 % r.den) 0 (mod-eq-zero_of_dvd r.den d)) (lt-ltb (unsigned_abs r.num) (10 ^ 18 * r.den) h))

-- a whole number of at most 18 digits is an amount
pub whole_amount : (z : ℤ) → unsigned_abs z < 10 ^ 18 → IsTrue (is_amount (whole z))
unfolding whole
whole_amount z h = short_amount (whole z) h (omega arith)

-- ---- the value of an amount's text

-- lowest terms are no greater
lower_at_most : (r : Ratio) (n : ℤ) (d : ℕ) → 0 < d → r.num *ℤ pos d ≡ n *ℤ pos r.den → r.den ≤ d
lower_at_most r n d some e =
    lowest_is_least (unsigned_abs r.num) r.den (unsigned_abs n) d some r.lowest.coprime (abs-cross r.num n d r.den e)

upper_at_most : (r : Ratio) (n : ℤ) (d : ℕ) → 0 < d → r.num *ℤ pos d ≡ n *ℤ pos r.den → unsigned_abs r.num ≤ unsigned_abs n
upper_at_most r n d some e =
    let a = abs-cross r.num n d r.den e in
    let b = mul-le-mul_left (unsigned_abs n) (lower_at_most r n d some e) in
    let c : unsigned_abs r.num * d ≤ unsigned_abs n * d = omega arith in
    le_of_mul-le-mul_right c some

short_value : (r : Ratio) (n : ℤ) (d : ℕ) → 0 < d → r.num *ℤ pos d ≡ n *ℤ pos r.den → unsigned_abs n < 10 ^ 18 → d < 10 ^ 19 → IsTrue (is_amount r)
short_value r n d some e h k =
    let a = upper_at_most r n d some e in
    let b = lower_at_most r n d some e in
    short_amount r (omega arith) (omega arith)

-- the lower part of what is n over d divides d
lower_divides : (r : Ratio) (n : ℤ) (d : ℕ) → r.num *ℤ pos d ≡ n *ℤ pos r.den → r.den ∣ d
lower_divides r n d e =
    dvd_of_coprime r.den (unsigned_abs r.num) d (IsGcd-swap _ _ _ r.lowest.coprime)
    (subst (λ (k : ℕ). r.den ∣ k) (sym (abs-cross r.num n d r.den e)) (dvd-mul_left r.den (unsigned_abs n)))

decimal_value : (r : Ratio) (n : ℤ) (k : ℕ) → k ≤ 9 → r.num *ℤ pos (10 ^ k) ≡ n *ℤ pos r.den → unsigned_abs n < 10 ^ 18 * 10 ^ k → IsTrue (is_amount r)
decimal_value r n k few e h =
    let a = abs-cross r.num n (10 ^ k) r.den e in
    let b : unsigned_abs n * r.den < 10 ^ 18 * 10 ^ k * r.den = mul-lt-mul_of_pos_right h r.lowest.positive in
    let c : unsigned_abs r.num * 10 ^ k < (10 ^ 18 * r.den) * 10 ^ k = omega arith in
    let rest : k + (9 - k) ≡ 9 = omega arith in
    let f : 10 ^ 9 ≡ 10 ^ k * 10 ^ (9 - k) = ap (λ (m : ℕ). 10 ^ m) (sym rest) ∙ pow-add 10 k (9 - k) in
    let g : 10 ^ k ∣ 10 ^ 9 = subst (λ (m : ℕ). 10 ^ k ∣ m) (sym f) (dvd-mul_right (10 ^ k) (10 ^ (9 - k))) in
    decimal_amount r (dvd_trans r.den (lower_divides r n (10 ^ k) e) g) (lt_of_mul-lt-mul_right (10 ^ k) c)

signed_size : (bs : List ℕ) (n : ℕ) → unsigned_abs (signed bs n) ≡ n
signed_size bs n = by_sign (starts_with_minus bs)
  where
    by_sign : (b : Bool) → unsigned_abs (if b then neg_ℤ (pos n) else pos n) ≡ n
    by_sign true = unsigned_abs-neg (pos n)
    by_sign false = refl

-- by the mark
marked : (r : Ratio) (bs : List ℕ) (w : ℕ) (ds : List ℕ) (b : Bool) → w < 10 ^ 18 →
    MatchBool b (IsNumber 9 ds) (IsNumber 19 ds × (0 < number ds)) →
    r ≡ over_some (signed bs (if b then w * 10 ^ length ds + number ds else w)) (if b then 10 ^ length ds else number ds) → IsTrue (is_amount r)
marked r bs w ds true h end e =
    let n = w * 10 ^ length ds + number ds in
    let z = signed bs n in
    let few = number_below (length ds) ds (record { numeral = end.numeral; short = omega arith }) in
    let some = one-le-pow (length ds) 10 (omega arith) in
    let w' : w + 1 ≤ 10 ^ 18 = omega arith in
    let m : (w + 1) * 10 ^ length ds ≤ 10 ^ 18 * 10 ^ length ds = mul-le-mul w' (le_refl (10 ^ length ds)) in
    let small : unsigned_abs z < 10 ^ 18 * 10 ^ length ds = rw (signed_size bs n) (omega arith) in
    decimal_value r z (length ds) end.short (subst (λ (s : Ratio). s.num *ℤ pos (10 ^ length ds) ≡ z *ℤ pos s.den) (sym e) (over_some_cross z (10 ^ length ds) some)) small
marked r bs w ds false h end e =
    let z = signed bs w in
    let d = number ds in
    short_value r z d end.1 (subst (λ (s : Ratio). s.num *ℤ pos d ≡ z *ℤ pos s.den) (sym e) (over_some_cross z d end.1)) (rw (signed_size bs w) h) (number_below 19 ds end.0)

ended : (r : Ratio) (bs : List ℕ) (w : ℕ) (end : List ℕ) → w < 10 ^ 18 → IsAmountEnd end → r ≡ over_some (signed bs (amount_upper w end)) (amount_lower end) → IsTrue (is_amount r)
ended r bs w [] h k e =
    let z = signed bs w in
    let one : 0 < 1 = omega arith in
    short_value r z 1 one (subst (λ (s : Ratio). s.num *ℤ pos 1 ≡ z *ℤ pos s.den) (sym e) (over_some_cross z 1 one)) (rw (signed_size bs w) h) (omega arith)
ended r bs w (mark ∷ ds) h k e = marked r bs w ds (mark == point) h k e

-- what an amount's text writes is an amount
pub value_is_amount : (r : Ratio) (bs : List ℕ) → IsAmount bs → r ≡ amount_of bs → IsTrue (is_amount r)
value_is_amount r bs h e =
    let us = unsigned_part bs in
    ended r bs (number (before_mark us)) (from_mark us) (number_below 18 (before_mark us) h.whole) h.end e
