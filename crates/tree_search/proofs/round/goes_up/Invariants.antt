use Rattle.std.proofs.Common.{◌≡◌, drop}
use Rattle.tree_search.specs.Finding.{last_step}
use Rattle.tree_search.proofs.round.goes_up.Given as goal

abbrev pub invariant-loop-step : goal.invariant-loop-step
invariant-loop-step l = last_step 0 l.round ≡ last_step l.last (drop l.step-index l.round)
