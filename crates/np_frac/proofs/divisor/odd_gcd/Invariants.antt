use Rattle.std.proofs.Common.{◌≡◌, ◌%◌, ◌+◌, ℕ}
use Rattle.std.specs.Int.{IsGcd}
use Rattle.np_frac.proofs.divisor.odd_gcd.Given as goal

pub record Kept (odd other x y : ℕ) : Type 0 where
  pub is_odd : x % 2 ≡ 1
  pub common : (g : ℕ) → IsGcd x y g → IsGcd odd other g

abbrev pub invariant-loop-y : goal.invariant-loop-y
invariant-loop-y l = Kept l.odd l.other l.x l.y

abbrev pub decreases-loop-y : goal.decreases-loop-y
decreases-loop-y l = l.x + l.y
