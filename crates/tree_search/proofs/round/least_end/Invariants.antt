use Rattle.std.proofs.Common.{◌<◌, ◌≤◌, ◌-◌, ℕ, length, slice_index_or}
use Rattle.tree_search.specs.declared.piece.Step.{Step}
use Rattle.tree_search.proofs.round.least_end.Given as goal

abbrev pub invariant-loop-i : goal.invariant-loop-i
invariant-loop-i l = (l.least < length l.round) × (l.i ≤ length l.round) × ((j : ℕ) (s : Step) → j < l.i → (slice_index_or l.round l.least s).far ≤ (slice_index_or l.round j s).far)

abbrev pub decreases-loop-i : goal.decreases-loop-i
decreases-loop-i l = length l.round - l.i
