-- The factors of two of a number.
use Rattle.std.specs.Prelude.{◌≡◌, ℕ, ◌*◌, ◌^◌, ◌%◌}

-- m is odd, and n is m times a power of two
pub record IsOddPart (n m : ℕ) : Type 0 where
  pub odd : m % 2 ≡ 1
  pub twos : ℕ
  pub product : n ≡ 2 ^ twos * m
