use Rattle.std.specs.Prelude.{pos}
use Rattle.std.proofs.Math.Nat.{le-max_left}
use Rattle.np_frac.specs.Ratio.{over_same}
use Rattle.demo_network.proofs.parts.one_half.Goals as goal

pub returns : goal.returns
returns c = over_same c.in-Some.half (pos 1) 2 (le-max_left 1 2) c.in-Some.ensures.value
