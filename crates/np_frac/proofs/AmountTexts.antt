-- Each ratio that is an amount is the value of an amount's text: its printed form, or its decimals.
use Rattle.std.specs.Prelude.{◌≡◌, ℕ, suc, ◌+◌, ◌*◌, ◌/◌, ◌%◌, ◌^◌, ◌<◌, ◌≤◌, ◌==◌, nat_le, Bool, true, false, ℤ, pos, negsuc, neg_ℤ, ◌*ℤ◌, unsigned_abs, List, [], ◌∷◌, ◌++◌, length, drop, IsTrue, if◌then◌else◌}
use Rattle.std.proofs.Common.{refl, arith, sym, ap, ◌∙◌, ltb-true, eqb-true, inl, inr}
use Rattle.std.specs.List.{position_or_len}
use Rattle.std.specs.Char.{digit_value}
use Rattle.std.specs.Str.Parse.{IsNumeral, AllDigits, digits_value, digits_value_after}
use Rattle.std.specs.Fmt.{decimal, signed_decimal}
use Rattle.std.proofs.Math.Nat.{mul-div_cancel', mul-lt-mul_of_pos_right, pow-le-pow_right, pow-succ'}
use Rattle.std.proofs.lemmas.Bool.{cases_Bool}
use Rattle.std.proofs.lemmas.Bool.Decides.{nat_tests}
use Rattle.std.proofs.lemmas.Fmt.{decimal_is_IsNumeral_wide, length-decimal-le_wide}
use Rattle.std.proofs.lemmas.Int.Digits.{digits_value-lt}
use Rattle.std.proofs.lemmas.Nat.Gcd.{dvd_of_mod-eq-zero}
use borrow.Author.Differences.{neg_is}
use Rattle.np_frac.specs.Ratio.{Ratio}
use Rattle.np_frac.specs.Steps.Signs.{from_cross}
use Rattle.np_frac.specs.Text.{point, stroke, is_mark, printed, unsigned_part, signed, IsNumber, number}
use Rattle.np_frac.specs.Amount.{IsAmount, IsAmountEnd, amount_of, amount_upper, amount_lower, HasAmountText, is_short, is_decimal, is_amount}
use Rattle.np_frac.proofs.Exactness.{left_true, right_true}
use Rattle.np_frac.proofs.Fractions.{over_some_is}
use Rattle.np_frac.proofs.ReadsBack.{before_mark-digits, from_mark-digits, no_minus}

-- ---- a sign before digits

abbrev pub signed_text : ℤ → List ℕ → List ℕ
signed_text (pos n) us = us
signed_text (negsuc n) us = 45 ∷ us

-- the number of this size, with the sign of z
abbrev sized : ℤ → ℕ → ℤ
sized (pos n) size = pos size
sized (negsuc n) size = neg_ℤ (pos size)

sized_same : (z : ℤ) → sized z (unsigned_abs z) ≡ z
sized_same (pos n) = refl
sized_same (negsuc n) = refl

unsigned_text : (z : ℤ) (ds t : List ℕ) → IsNumeral 10 ds → unsigned_part (signed_text z (ds ++ t)) ≡ ds ++ t
unsigned_text (pos n) ds t h = rw (no_minus ds t h) refl
unsigned_text (negsuc n) ds t h = refl

sign_text : (z : ℤ) (ds t : List ℕ) (size : ℕ) → IsNumeral 10 ds → signed (signed_text z (ds ++ t)) size ≡ sized z size
sign_text (pos n) ds t size h = rw (no_minus ds t h) refl
sign_text (negsuc n) ds t size h = refl

-- ---- decimals

decimal_wide : (n k : ℕ) → n < 10 ^ k → k ≤ 19 → n < 10 ^ 64
decimal_wide n k h few = let b : 10 ^ k ≤ 10 ^ 19 = pow-le-pow_right (omega arith) few in omega arith

decimal_number : (n k : ℕ) → n < 10 ^ k → 0 < k → k ≤ 19 → IsNumber k (decimal n)
decimal_number n k h some few =
    let wide = decimal_wide n k h few in
    record { numeral = (decimal_is_IsNumeral_wide n wide).0; short = length-decimal-le_wide k n some h wide }

decimal_value : (n k : ℕ) → n < 10 ^ k → k ≤ 19 → number (decimal n) ≡ n
decimal_value n k h few = (decimal_is_IsNumeral_wide n (decimal_wide n k h few)).1

-- ---- nine digits, with zeros in front: the last nine of a number of ten

spread : (n d m : ℕ) → (n * 10 + d) * m ≡ n * (10 * m) + (0 * 10 + d) * m
spread n d m = omega arith

value-after : (n : ℕ) (cs : List ℕ) → digits_value_after 10 n cs ≡ n * 10 ^ length cs + digits_value 10 cs
value-after n [] = omega arith
value-after n (c ∷ cs) =
    let p = value-after (n * 10 + digit_value c) cs in
    let q = value-after (0 * 10 + digit_value c) cs in
    rw (pow-succ' 10 (length cs)) (omega (arith, spread n (digit_value c) (10 ^ length cs), p, q))

-- of ten digits that write a billion and n, the last nine write n
last_nine : (ds : List ℕ) (n : ℕ) → AllDigits 10 ds → length ds ≡ 10 → digits_value 10 ds ≡ 10 ^ 9 + n → n < 10 ^ 9 →
    AllDigits 10 (drop 1 ds) × (length (drop 1 ds) ≡ 9) × (digits_value 10 (drop 1 ds) ≡ n)
last_nine [] n h l e few = absurd (omega arith)
last_nine (c ∷ cs) n h l e few =
    let nine : length cs ≡ 9 = omega (arith, l) in
    let scale : 10 ^ length cs ≡ 10 ^ 9 = ap (λ (k : ℕ). 10 ^ k) nine in
    let v = value-after (0 * 10 + digit_value c) cs in
    let w : digits_value 10 (c ∷ cs) ≡ (0 * 10 + digit_value c) * 10 ^ 9 + digits_value 10 cs = rw scale at v in
    let b : digits_value 10 cs < 10 ^ 9 = rw scale at (digits_value-lt 10 cs h.1) in
    (h.1, nine, omega (arith, w, e, b, few))

abbrev pub nine_digits : ℕ → List ℕ
nine_digits n = drop 1 (decimal (10 ^ 9 + n))

record IsNine (n : ℕ) (ds : List ℕ) : Type 0 where
  nine : length ds ≡ 9
  is : IsNumber 9 ds
  value : number ds ≡ n

ten_long : (n l : ℕ) → 10 ^ 9 ≤ n → n < 10 ^ l → 10 ≤ l
ten_long n l h k = elim (cases_Bool (nat_le 10 l)) [
  | inl t ↦ grind (arith, nat_tests)
  | inr f ↦
      let few : l ≤ 9 = grind (arith, nat_tests) in
      let p : 10 ^ l ≤ 10 ^ 9 = pow-le-pow_right (omega arith) few in
      absurd (omega arith)
]

nine : (n : ℕ) → n < 10 ^ 9 → IsNine n (nine_digits n)
nine n few =
    let wide : 10 ^ 9 + n < 10 ^ 64 = omega arith in
    let d = decimal_is_IsNumeral_wide (10 ^ 9 + n) wide in
    let short = length-decimal-le_wide 10 (10 ^ 9 + n) (omega arith) (omega arith) wide in
    let below = digits_value-lt 10 (decimal (10 ^ 9 + n)) d.0.1 in
    let long = ten_long (10 ^ 9 + n) (length (decimal (10 ^ 9 + n))) (omega arith) (rw d.1 at below) in
    let t = last_nine (decimal (10 ^ 9 + n)) n d.0.1 (omega arith) d.1 few in
    record { nine = t.1; is = record { numeral = (omega arith, t.0); short = omega arith }; value = t.2 }

-- ---- what a text writes

pub record Writes (bs : List ℕ) (r : Ratio) : Type 0 where
  pub is : IsAmount bs
  pub value : r ≡ amount_of bs

-- by a whole number and what stands behind it
written : (r : Ratio) (w : ℕ) (end : List ℕ) → w < 10 ^ 18 → IsAmountEnd end → position_or_len is_mark end ≡ 0 → 0 < amount_lower end →
    r.num *ℤ pos (amount_lower end) ≡ sized r.num (amount_upper w end) *ℤ pos r.den → Writes (signed_text r.num (decimal w ++ end)) r
written r w end h is start some e =
    let d = decimal_number w 18 h (omega arith) (omega arith) in
    let u = unsigned_text r.num (decimal w) end d.numeral in
    let s = sign_text r.num (decimal w) end (amount_upper w end) d.numeral in
    let a = before_mark-digits (decimal w) end d.numeral.1 start in
    let b = from_mark-digits (decimal w) end d.numeral.1 start in
    record {
      is = record { whole = rw (u, a) d; end = rw (u, b) is };
      value = over_some_is r (sized r.num (amount_upper w end)) (amount_lower end) some e ∙ sym (rw (u, a, b, decimal_value w 18 h (omega arith), s) refl);
    }

-- ---- the printed form

signed_decimal_is : (z : ℤ) (t : List ℕ) → signed_decimal z ++ t ≡ signed_text z (decimal (unsigned_abs z) ++ t)
signed_decimal_is (pos n) t = refl
signed_decimal_is (negsuc n) t = refl

-- by whether the ratio is a whole number
short_by : (r : Ratio) (whole : Bool) → (r.den == 1) ≡ whole → unsigned_abs r.num < 10 ^ 18 → r.den < 10 ^ 19 →
    Writes (signed_text r.num (decimal (unsigned_abs r.num) ++ (if whole then [] else stroke ∷ decimal r.den))) r
short_by r true one h k =
    let e : r.den ≡ 1 = eqb-true r.den 1 one in
    written r (unsigned_abs r.num) [] h tt refl (omega arith) (rw (e, sized_same r.num) refl)
short_by r false many h k =
    let d = decimal_number r.den 19 k (omega arith) (omega arith) in
    let e = decimal_value r.den 19 k (omega arith) in
    let some : 0 < number (decimal r.den) = rw e r.lowest.positive in
    written r (unsigned_abs r.num) (stroke ∷ decimal r.den) h (d, some) refl some (rw (e, sized_same r.num) refl)

pub short_writes : (r : Ratio) → IsTrue (is_short r) → Writes (printed r) r
short_writes r h =
    rw (signed_decimal_is r.num (if r.den == 1 then [] else stroke ∷ decimal r.den))
    (short_by r (r.den == 1) refl (ltb-true _ _ (left_true _ _ h)) (ltb-true _ _ (right_true _ _ h)))

-- ---- decimals of a ratio

scaled_by : (z : ℤ) (d q k : ℕ) → q * d ≡ 10 ^ 9 → k ≡ unsigned_abs z * q → z *ℤ pos (10 ^ 9) ≡ sized z k *ℤ pos d
scaled_by (pos n) d q k e f =
    let g = ap (λ (t : ℕ). n * t) e in
    let l = ap (λ (t : ℕ). t * d) f in
    ap pos (omega (arith, g, l))
scaled_by (negsuc n) d q k e f =
    let g = ap (λ (t : ℕ). suc n * t) e in
    let l = ap (λ (t : ℕ). t * d) f in
    let m = neg_is (pos k) in
    from_cross (negsuc n) (neg_ℤ (pos k)) (10 ^ 9) d (omega (arith, ap (λ (t : ℕ). t * d) m.0)) (omega (arith, g, l, ap (λ (t : ℕ). t * d) m.1))

-- a ratio of billionths is so many of them
pub record HasBillionths (r : Ratio) : Type 0 where
  pub each : r.den * (10 ^ 9 / r.den) ≡ 10 ^ 9
  pub few : unsigned_abs r.num * (10 ^ 9 / r.den) < 10 ^ 27

pub has_billionths : (r : Ratio) → IsTrue (is_decimal r) → HasBillionths r
has_billionths r h =
    let d = dvd_of_mod-eq-zero r.den (eqb-true (10 ^ 9 % r.den) 0 (left_true (10 ^ 9 % r.den == 0) _ h)) in
    let b : unsigned_abs r.num < 10 ^ 18 * r.den = ltb-true _ _ (right_true (10 ^ 9 % r.den == 0) _ h) in
    let e : r.den * (10 ^ 9 / r.den) ≡ 10 ^ 9 = mul-div_cancel' r.den d in
    let some : 0 < 10 ^ 9 / r.den = grind arith in
    let m : unsigned_abs r.num * (10 ^ 9 / r.den) < 10 ^ 18 * r.den * (10 ^ 9 / r.den) = mul-lt-mul_of_pos_right b some in
    record { each = e; few = omega (arith, m, ap (λ (t : ℕ). 10 ^ 18 * t) e) }

-- the whole part, a point, and the billionths beyond it
abbrev pub decimals : ℕ → List ℕ
decimals k = decimal (k / 10 ^ 9) ++ (point ∷ nine_digits (k % 10 ^ 9))

pub decimal_writes : (r : Ratio) → IsTrue (is_decimal r) → Writes (signed_text r.num (decimals (unsigned_abs r.num * (10 ^ 9 / r.den)))) r
decimal_writes r h =
    let has = has_billionths r h in
    let k = unsigned_abs r.num * (10 ^ 9 / r.den) in
    let small = has.few in
    let f : k % 10 ^ 9 < 10 ^ 9 = omega arith in
    let w : k / 10 ^ 9 < 10 ^ 18 = omega arith in
    let n = nine (k % 10 ^ 9) f in
    let again : k / 10 ^ 9 * 10 ^ 9 + k % 10 ^ 9 ≡ k = omega arith in
    let l = n.nine in
    let one : 0 < 10 ^ 9 = omega arith in
    written r (k / 10 ^ 9) (point ∷ nine_digits (k % 10 ^ 9)) w n.is refl (rw l one)
    (rw (l, n.value, again) (scaled_by r.num r.den (10 ^ 9 / r.den) k (omega (arith, has.each)) refl))

-- an amount that is not printed as a fraction is a decimal
pub decimal_if_not_short : (r : Ratio) → IsTrue (is_amount r) → is_short r ≡ false → IsTrue (is_decimal r)
unfolding is_amount
decimal_if_not_short r h f = rw f at h

pub amount_text : (r : Ratio) → IsTrue (is_amount r) → HasAmountText r
amount_text r h = elim (cases_Bool (is_short r)) [
  | inl t ↦ let w = short_writes r t in (printed r, (w.is, w.value))
  | inr f ↦ let w = decimal_writes r (decimal_if_not_short r h f) in (_, (w.is, w.value))
]
