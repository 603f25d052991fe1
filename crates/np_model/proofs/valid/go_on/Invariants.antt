use Rattle.std.proofs.Common.{◌≡◌, drop}
use Rattle.np_frac.specs.Ratio.{zero_ratio}
use Rattle.np_model.specs.Steps.Tests.{go_on}
use Rattle.np_model.proofs.valid.go_on.Given as goal

abbrev pub invariant-loop-i : goal.invariant-loop-i
invariant-loop-i l = (go_on l.fn.end l.fn.slope l.fn.bands ≡ go_on l.end l.slope (drop l.i l.bands)) × (l.zero ≡ zero_ratio)
