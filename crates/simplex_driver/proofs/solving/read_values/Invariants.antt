use Rattle.std.proofs.Common.{◌<◌, ℕ}
use Rattle.np_frac.specs.Fits.{Fits}
use Rattle.np_model.specs.Network.Flows.{at}
use Rattle.simplex_driver.proofs.solving.read_values.Given as goal

abbrev pub invariant-loop-value : goal.invariant-loop-value
invariant-loop-value l = (i : ℕ) → i < l.value-index → Fits (at l.values i)
