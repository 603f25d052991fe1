use Rattle.std.proofs.Common.{◌≡◌, drop}
use Rattle.np_frac.specs.Ratio.{zero_ratio}
use Rattle.convex_arcs.specs.Gathered.{sum_from}
use Rattle.convex_arcs.proofs.amounts.sum.Given as goal

abbrev pub invariant-loop-flow : goal.invariant-loop-flow
invariant-loop-flow l = sum_from zero_ratio l.fn.flows ≡ sum_from l.running (drop l.flow-index l.flows)
