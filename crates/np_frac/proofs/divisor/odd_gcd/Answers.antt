use Rattle.std.proofs.Common.{arith}
use Rattle.std.proofs.lemmas.Nat.Gcd.{IsGcd-from_zero, IsGcd-from_mod}
use Rattle.np_frac.proofs.Twos.{odd-min, IsGcd-step, IsGcd-odd_part}
use Rattle.np_frac.proofs.divisor.odd_gcd.Goals as goal

pub loop-y-preserved : goal.loop-y-preserved
loop-y-preserved c =
    let i = c.loop-y.invariant in
    let p = c.odd_part-part.ensures in
    rw (c.min-x.ensures, c.abs_diff-y.ensures)
    (record {
      is_odd = odd-min _ _ p.odd i.is_odd;
      common = λ g h. i.common g (IsGcd-step _ _ _ g i.is_odd p h);
    })

pub returns-then-y-eq0 : goal.returns-then-y-eq0
returns-then-y-eq0 c = c.loop-y.invariant.common _ (IsGcd-from_zero _ _ (omega arith))

pub returns : goal.returns
returns c =
    let i = c.loop-y.invariant in
    i.common _ (IsGcd-odd_part _ _ _ _ i.is_odd c.odd_part-part-2.ensures (IsGcd-from_mod _ _ _ (rw c.from-2.ensures c.short_odd_gcd.ensures)))
