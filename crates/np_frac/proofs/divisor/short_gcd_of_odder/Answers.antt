use Rattle.std.proofs.Common.{◌^◌, arith}
use Rattle.std.specs.Int.{w64, trailing_zeros}
use Rattle.np_frac.proofs.Twos.{odd_part-is, multiple-zeros, IsGcd-shifted_back}
use Rattle.np_frac.proofs.divisor.short_gcd_of_odder.Goals as goal

pub short_odd_gcd-requires : goal.short_odd_gcd-requires
short_odd_gcd-requires c = (odd_part-is w64 c.args.a c.requires.a_above c.ranges.a).odd

pub returns : goal.returns
returns c =
    let k = trailing_zeros w64 c.args.a in
    let a = multiple-zeros w64 c.args.a k c.requires.a_above c.ranges.a (omega arith) in
    let b = multiple-zeros w64 c.args.b k c.requires.b_above c.ranges.b c.requires.odder in
    IsGcd-shifted_back c.args.a c.args.b k _ (2 ^ 64) c.requires.a_above c.ranges.a.fits a b c.short_odd_gcd.ensures
