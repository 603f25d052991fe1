use Rattle.std.proofs.Common.{◌^◌, arith}
use Rattle.std.specs.Int.{w128, trailing_zeros}
use Rattle.np_frac.proofs.Twos.{odd_part-is, multiple-zeros, IsGcd-shifted_back}
use Rattle.np_frac.proofs.divisor.gcd_of_odder.Goals as goal

pub odd_gcd-requires : goal.odd_gcd-requires
odd_gcd-requires c = (odd_part-is w128 c.args.a c.requires.a_above c.ranges.a).odd

pub returns : goal.returns
returns c =
    let k = trailing_zeros w128 c.args.a in
    let a = multiple-zeros w128 c.args.a k c.requires.a_above c.ranges.a (omega arith) in
    let b = multiple-zeros w128 c.args.b k c.requires.b_above c.ranges.b c.requires.odder in
    IsGcd-shifted_back c.args.a c.args.b k _ (2 ^ 128) c.requires.a_above c.ranges.a.fits a b c.odd_gcd.ensures
