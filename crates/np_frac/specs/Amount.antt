-- The amounts of network texts.
use Rattle.std.specs.Prelude.{◌≡◌, ℕ, ◌==◌, ◌%◌, ◌+◌, ◌*◌, ◌^◌, ◌<◌, nat_lt, ◌&&◌, ◌||◌, unsigned_abs, Bool, true, List, [], ◌∷◌, length, if◌then◌else◌, MatchBool}
use Rattle.np_frac.specs.Ratio.{Ratio, over_some}
use Rattle.np_frac.specs.Text.{point, unsigned_part, signed, before_mark, from_mark, IsNumber, is_number, number}

-- what may stand behind the whole number of an amount: nothing, a point and 1 to 9 digits, or a stroke and 1 to 19
-- digits that are not all zero
abbrev pub IsAmountEnd : List ℕ → Type 0
IsAmountEnd [] = Unit
IsAmountEnd (mark ∷ ds) = MatchBool (mark == point) (IsNumber 9 ds) (IsNumber 19 ds × (0 < number ds))

-- the text is an amount: an optional `-`, 1 to 18 digits, and such an end
pub record IsAmount (bs : List ℕ) : Type 0 where
  pub whole : IsNumber 18 (before_mark (unsigned_part bs))
  pub end : IsAmountEnd (from_mark (unsigned_part bs))

-- the upper and the lower number of an amount, by its whole number and its end
abbrev pub amount_upper : ℕ → List ℕ → ℕ
amount_upper whole [] = whole
amount_upper whole (mark ∷ ds) = if mark == point then whole * 10 ^ length ds + number ds else whole

abbrev pub amount_lower : List ℕ → ℕ
amount_lower [] = 1
amount_lower (mark ∷ ds) = if mark == point then 10 ^ length ds else number ds

-- the ratio that it writes
abbrev pub amount_of : List ℕ → Ratio
amount_of bs =
    let us = unsigned_part bs in
    over_some (signed bs (amount_upper (number (before_mark us)) (from_mark us))) (amount_lower (from_mark us))

-- some amount's text writes the ratio
abbrev pub HasAmountText : Ratio → Type 0
HasAmountText r = (bs : List ℕ) × (IsAmount bs × (r ≡ amount_of bs))

-- ---- the test of these texts

abbrev pub is_amount_end : List ℕ → Bool
is_amount_end [] = true
is_amount_end (mark ∷ ds) = if mark == point then is_number 9 ds else is_number 19 ds && nat_lt 0 (number ds)

-- the test of `IsAmount`
unfoldable pub is_amount_text : List ℕ → Bool
is_amount_text bs = is_number 18 (before_mark (unsigned_part bs)) && is_amount_end (from_mark (unsigned_part bs))

-- ---- which ratios are amounts

-- in lowest terms the numerator has at most 18 digits and the denominator at most 19
abbrev pub is_short : Ratio → Bool
is_short r = nat_lt (unsigned_abs r.num) (10 ^ 18) && nat_lt r.den (10 ^ 19)

-- a whole number of billionths, below 10 ^ 18 in size
abbrev pub is_decimal : Ratio → Bool
is_decimal r = (10 ^ 9 % r.den == 0) && nat_lt (unsigned_abs r.num) (10 ^ 18 * r.den)

-- the ratio is the value of some amount
unfoldable pub is_amount : Ratio → Bool
is_amount r = is_short r || is_decimal r
