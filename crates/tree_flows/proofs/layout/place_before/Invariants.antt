use Rattle.std.proofs.Common.{◌≤◌, ◌<◌, ◌-◌, ℕ, length}
use Rattle.tree_search.specs.Places.{number_by_place}
use Rattle.tree_flows.proofs.layout.place_before.Given as goal

abbrev pub invariant-loop-place : goal.invariant-loop-place
invariant-loop-place l = (l.place ≤ length l.basics) × ((a : ℕ) → a < l.place → number_by_place l.basics a < l.enter)

abbrev pub decreases-loop-place : goal.decreases-loop-place
decreases-loop-place l = length l.basics - l.place
