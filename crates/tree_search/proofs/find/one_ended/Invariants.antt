use Rattle.std.proofs.Common.{◌<◌, ◌≤◌, ◌-◌, ℕ, length}
use Rattle.gain_graphs.specs.Arcs.{HasOneEnd}
use Rattle.np_model.specs.Basis.Graphs.{graph_ends}
use Rattle.tree_search.specs.Places.{ends_by_place}
use Rattle.tree_search.proofs.find.one_ended.Given as goal

abbrev pub invariant-loop-i : goal.invariant-loop-i
invariant-loop-i l = (l.i ≤ length l.basics) × ((k : ℕ) → k < l.i → ¬ HasOneEnd (graph_ends (ends_by_place l.basics k)))

abbrev pub decreases-loop-i : goal.decreases-loop-i
decreases-loop-i l = length l.basics - l.i
