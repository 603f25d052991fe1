-- The texts of amounts, as network texts are printed. (This project's own.)
use Rattle.std.specs.Prelude.{ℕ, ◌+◌, ◌*◌, ◌/◌, ◌%◌, ◌^◌, unsigned_abs, List, [], ◌∷◌, ◌++◌, drop, if◌then◌else◌}
use Rattle.std.specs.Fmt.{decimal}
use Rattle.np_frac.specs.Ratio.{Ratio}
use Rattle.np_frac.specs.Text.{point, minus_sign, printed}
use Rattle.np_frac.specs.Amount.{is_short}

-- the size of a ratio in billionths
abbrev pub billionths : Ratio → ℕ
billionths r = unsigned_abs r.num * (10 ^ 9 / r.den)

-- nine digits, with leading zeros: the last nine of a number of ten
abbrev pub nine_digits : ℕ → List ℕ
nine_digits n = drop 1 (decimal (10 ^ 9 + n))

-- the sign, the whole part, a point, and the billionths beyond it
abbrev pub decimal_form : Ratio → List ℕ
decimal_form r = minus_sign r.num ++ decimal (billionths r / 10 ^ 9) ++ (point ∷ nine_digits (billionths r % 10 ^ 9))

-- the text of an amount: as fractions are printed where that is an amount's text, and its decimals else
abbrev pub amount_text : Ratio → List ℕ
amount_text r = if is_short r then printed r else decimal_form r
