use Rattle.std.proofs.Common.{◌≡◌, ◌<◌, ℕ, length}
use Rattle.np_frac.specs.Ratio.{zero_ratio}
use Rattle.np_model.specs.Network.Flows.{at}
use Rattle.np_model.proofs.lists.zeros.Given as goal

abbrev pub invariant-loop : goal.invariant-loop
invariant-loop l = (length l.list.items ≡ l.counter) × ((i : ℕ) → i < l.counter → at l.list.items i ≡ zero_ratio)
