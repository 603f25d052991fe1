use Rattle.std.specs.Int.{w128}
use Rattle.np_frac.proofs.Twos.{odd_part-is}
use Rattle.np_frac.proofs.divisor.odd_part.Goals as goal

pub returns : goal.returns
returns c = odd_part-is w128 c.args.n c.requires c.ranges.n
