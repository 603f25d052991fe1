use Rattle.std.proofs.Common.{◌<◌, arith}
use Rattle.std.proofs.Math.Nat.{one-le-pow}
use Rattle.np_frac.proofs.amount.amount_parts.Goals as goal

-- a power of ten is not 0
pub returns-then-mark-eq46-clause-some : goal.returns-then-mark-eq46-clause-some
returns-then-mark-eq46-clause-some c =
    let some : 0 < c.pow-scale.result = rw c.pow-scale.ensures (one-le-pow _ 10 (omega arith)) in
    rw c.from-then-mark-eq46-4.ensures some
