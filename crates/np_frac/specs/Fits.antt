-- Which ratios fit a fraction.
use Rattle.std.specs.Prelude.{ℕ, ◌^◌, ◌<◌, nat_lt, ◌&&◌, Bool, ℤ, unsigned_abs}
use Rattle.np_frac.specs.Ratio.{Ratio}

-- each part is at most 2 ^ 127 - 1 in size
pub record Fit (num : ℤ) (den : ℕ) : Type 0 where
  pub num_fits : unsigned_abs num < 2 ^ 127
  pub den_fits : den < 2 ^ 127

-- the ratio fits a fraction
abbrev pub Fits : Ratio → Type 0
Fits r = Fit r.num r.den

-- a part of a fraction has at most 127 bits
abbrev pub is_part : ℕ → Bool
is_part n = nat_lt n (2 ^ 127)

-- the test of `Fits`
abbrev pub fits : Ratio → Bool
fits r = is_part (unsigned_abs r.num) && is_part r.den
