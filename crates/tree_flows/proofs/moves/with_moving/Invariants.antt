use Rattle.std.proofs.Common.{◌≡◌, ◌++◌, ◌<◌, ℕ, drop, slice_index_or}
use Rattle.np_frac.specs.Ratio.{Ratio}
use Rattle.np_frac.specs.Fits.{Fits}
use Rattle.tree_flows.specs.Answers.{moving}
use Rattle.tree_flows.proofs.moves.with_moving.Given as goal

abbrev pub invariant-loop-place : goal.invariant-loop-place
invariant-loop-place l =
    (l.fn.steps.items ++ moving l.basics l.amounts ≡ l.steps.items ++ moving (drop l.place l.basics) (drop l.place l.amounts))
    × ((i : ℕ) (d : Ratio) → i < l.place → Fits (slice_index_or l.amounts i d))
