-- What the steps of an operation find.
use Rattle.std.specs.Prelude.{◌≡◌, ℕ, ◌*◌, ◌^◌, ◌<◌, ℤ, pos, ◌*ℤ◌, ◌+ℤ◌, unsigned_abs, Option, Some, None}
use Rattle.np_frac.specs.Ratio.{Ratio, IsLowest, ◌+ᵣ◌}
use Rattle.np_frac.specs.Lcm.{IsLcm}
use Rattle.np_frac.specs.Fits.{Fits}

-- the parts of x over y are those of num over den, divided by their greatest common divisor
pub record IsReduced (num : ℤ) (den : ℕ) (x : ℤ) (y : ℕ) : Type 0 where
  pub factor : ℕ
  pub some : 0 < factor
  pub num_is : num ≡ pos factor *ℤ x
  pub den_is : den ≡ factor * y
  pub lowest : IsLowest x y

-- the answer is this ratio where it fits, and None where it does not
abbrev pub IsFound : Option Ratio → Ratio → Type 0
IsFound (Some f) r = Fits r × (f ≡ r)
IsFound None r = ¬ (Fits r)

-- the least common denominator, both numerators over it and their sum fit
pub record HasSum (p q : Ratio) : Type 0 where
  pub common : ℕ
  pub left : ℤ
  pub right : ℤ
  pub least : IsLcm p.den q.den common
  pub left_is : left *ℤ pos p.den ≡ p.num *ℤ pos common
  pub right_is : right *ℤ pos q.den ≡ q.num *ℤ pos common
  pub common_fits : common < 2 ^ 127
  pub left_fits : unsigned_abs left < 2 ^ 127
  pub right_fits : unsigned_abs right < 2 ^ 127
  pub sum_fits : unsigned_abs (left +ℤ right) < 2 ^ 127

-- the answer is the sum, and None exactly where it overflows
abbrev pub IsSumFound : Option Ratio → Ratio → Ratio → Type 0
IsSumFound (Some f) p q = HasSum p q × (f ≡ p +ᵣ q)
IsSumFound None p q = ¬ (HasSum p q)
