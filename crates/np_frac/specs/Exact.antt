-- Exact operations: the ratio that is meant, or the operation that overflows, with its operands.
-- An operation overflows where its exact result, or for sums a part of the way to it, does not fit a fraction.
use Rattle.std.specs.Prelude.{◌/◌, ◌&&◌, Bool, pos, ◌*ℤ◌, ◌+ℤ◌, unsigned_abs, Result, Ok, Err, if◌then◌else◌}
use Rattle.np_frac.specs.Ratio.{Ratio, negated, inverse, ◌+ᵣ◌, ◌-ᵣ◌, ◌*ᵣ◌}
use Rattle.np_frac.specs.Lcm.{lcm}
use Rattle.np_frac.specs.Fits.{is_part, fits}
use Rattle.np_frac.specs.declared.frac.Past.{Past}
use Rattle.np_frac.specs.declared.frac.Op.TheVariants.{Plus, Minus, Times, Over}

-- the least common denominator, either numerator over it, and their sum fit
abbrev pub fits_sum : Ratio → Ratio → Bool
fits_sum a b =
    let common = lcm a.den b.den in
    let left = a.num *ℤ pos (common / a.den) in
    let right = b.num *ℤ pos (common / b.den) in
    is_part common && is_part (unsigned_abs left) && is_part (unsigned_abs right) && is_part (unsigned_abs (left +ℤ right))

unfoldable pub plus_of : Ratio → Ratio → Result Ratio Past
plus_of a b = if fits_sum a b then Ok (a +ᵣ b) else Err (record { op = Plus; left = a; right = b })

unfoldable pub minus_of : Ratio → Ratio → Result Ratio Past
minus_of a b = if fits_sum a (negated b) then Ok (a -ᵣ b) else Err (record { op = Minus; left = a; right = b })

unfoldable pub times_of : Ratio → Ratio → Result Ratio Past
times_of a b = if fits (a *ᵣ b) then Ok (a *ᵣ b) else Err (record { op = Times; left = a; right = b })

-- the quotient by a ratio that is not 0
unfoldable pub over_of : Ratio → Ratio → Result Ratio Past
over_of a b = if fits (a *ᵣ inverse b) then Ok (a *ᵣ inverse b) else Err (record { op = Over; left = a; right = b })

-- ---- one operation after the other

-- go on with what was found, or stop at the first operation that overflows
infixl 10 ◌▷◌
abbrev pub ◌▷◌ : {A B : Type 0} → Result A Past → (A → Result B Past) → Result B Past
(Ok x) ▷ f = f x
(Err past) ▷ f = Err past
