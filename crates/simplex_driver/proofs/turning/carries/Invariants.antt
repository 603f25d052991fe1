use Rattle.std.proofs.Common.{◌≡◌, ◌<◌, ◌≤◌, ℕ}
use Rattle.np_frac.specs.Ratio.{zero_ratio}
use Rattle.np_model.specs.Network.Flows.{at}
use Rattle.simplex_driver.proofs.turning.carries.Given as goal

abbrev pub invariant-loop-arc : goal.invariant-loop-arc
invariant-loop-arc l = (a : ℕ) → a < l.arc → l.from ≤ a → at l.flows a ≡ zero_ratio
