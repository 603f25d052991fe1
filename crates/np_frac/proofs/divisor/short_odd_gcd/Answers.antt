use Rattle.std.proofs.Common.{arith}
use Rattle.std.proofs.lemmas.Nat.Gcd.{IsGcd-from_zero}
use Rattle.np_frac.proofs.Twos.{odd-min, IsGcd-step}
use Rattle.np_frac.proofs.divisor.short_odd_gcd.Goals as goal

pub loop-y-preserved : goal.loop-y-preserved
loop-y-preserved c =
    let i = c.loop-y.invariant in
    let p = c.short_odd_part-part.ensures in
    rw (c.min-x.ensures, c.abs_diff-y.ensures)
    (record {
      is_odd = odd-min _ _ p.odd i.is_odd;
      common = λ g h. i.common g (IsGcd-step _ _ _ g i.is_odd p h);
    })

pub returns : goal.returns
returns c = c.loop-y.invariant.common _ (IsGcd-from_zero _ _ (omega arith))
