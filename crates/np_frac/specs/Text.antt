-- The texts of ratios.
use Rattle.std.specs.Prelude.{◌≡◌, ℕ, ◌==◌, ◌&&◌, ◌||◌, ◌^◌, ◌<◌, ◌≤◌, nat_lt, nat_le, Bool, true, ℤ, pos, negsuc, neg_ℤ, List, [], ◌∷◌, ◌++◌, length, drop, codes, if◌then◌else◌}
use Rattle.std.specs.List.{before_first, list_all, position_or_len}
use Rattle.std.specs.Char.{is_ascii_digit}
use Rattle.std.specs.Str.Parse.{IsNumeral, digits_value, starts_with_minus}
use Rattle.std.specs.Fmt.{decimal, signed_decimal}
use Rattle.np_frac.specs.Ratio.{Ratio, over_some}

-- the two marks that may end a whole number: `.` and `/`
abbrev pub point : ℕ
point = 46

abbrev pub stroke : ℕ
stroke = 47

abbrev pub is_mark : ℕ → Bool
is_mark c = (c == point) || (c == stroke)

-- ---- the printed form

-- a `-` for a number below 0
abbrev pub minus_sign : ℤ → List ℕ
minus_sign (pos n) = []
minus_sign (negsuc n) = codes "-"

-- the numerator, and behind a stroke the denominator where that is not 1
abbrev pub printed : Ratio → List ℕ
printed r = signed_decimal r.num ++ (if r.den == 1 then [] else stroke ∷ decimal r.den)

-- ---- the parts of a text

-- the text without a leading `-`
abbrev pub unsigned_part : List ℕ → List ℕ
unsigned_part bs = if starts_with_minus bs then drop 1 bs else bs

-- the number of this size, below 0 where the text has a leading `-`
abbrev pub signed : List ℕ → ℕ → ℤ
signed bs size = if starts_with_minus bs then neg_ℤ (pos size) else pos size

-- what stands before the first mark, and all from that mark on
abbrev pub before_mark : List ℕ → List ℕ
before_mark us = before_first is_mark us

abbrev pub from_mark : List ℕ → List ℕ
from_mark us = drop (position_or_len is_mark us) us

-- 1 to `most` decimal digits
pub record IsNumber (most : ℕ) (ds : List ℕ) : Type 0 where
  pub numeral : IsNumeral 10 ds
  pub short : length ds ≤ most

-- its test
abbrev pub is_number : ℕ → List ℕ → Bool
is_number most ds = nat_lt 0 (length ds) && nat_le (length ds) most && list_all is_ascii_digit ds

-- the number that they write
abbrev pub number : List ℕ → ℕ
number ds = digits_value 10 ds

-- ---- the fractions of plan texts

-- 1 to 39 digits, which write a number of at most 2 ^ 127 - 1
pub record IsPart (ds : List ℕ) : Type 0 where
  pub digits : IsNumber 39 ds
  pub fits : number ds < 2 ^ 127

-- what may stand behind the upper part: nothing, or a stroke and a lower part that is not 0
abbrev pub IsFractionEnd : List ℕ → Type 0
IsFractionEnd [] = Unit
IsFractionEnd (mark ∷ ds) = (mark ≡ stroke) × IsPart ds × (0 < number ds)

abbrev pub fraction_lower : List ℕ → ℕ
fraction_lower [] = 1
fraction_lower (mark ∷ ds) = number ds

-- the text is a fraction: an optional `-`, an upper part, and nothing or a stroke and a lower part
pub record IsFraction (bs : List ℕ) : Type 0 where
  pub upper : IsPart (before_mark (unsigned_part bs))
  pub lower : IsFractionEnd (from_mark (unsigned_part bs))

-- the ratio that it writes
abbrev pub fraction_of : List ℕ → Ratio
fraction_of bs =
    let us = unsigned_part bs in
    over_some (signed bs (number (before_mark us))) (fraction_lower (from_mark us))

-- ---- the tests of these texts

abbrev pub is_part_text : List ℕ → Bool
is_part_text ds = is_number 39 ds && nat_lt (number ds) (2 ^ 127)

abbrev pub is_fraction_end : List ℕ → Bool
is_fraction_end [] = true
is_fraction_end (mark ∷ ds) = (mark == stroke) && is_part_text ds && nat_lt 0 (number ds)

-- the test of `IsFraction`
unfoldable pub is_fraction_text : List ℕ → Bool
is_fraction_text bs = is_part_text (before_mark (unsigned_part bs)) && is_fraction_end (from_mark (unsigned_part bs))
