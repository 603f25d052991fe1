use Rattle.std.proofs.Common.{◌≡◌, ◌<◌, ℕ, length, slice_index_or}
use Rattle.tree_search.specs.Places.{numbers_of_nodes, ends_by_place, loose, IsJoint}
use Rattle.tree_search.proofs.joints.joints_of.Given as goal

abbrev pub invariant-loop-arc : goal.invariant-loop-arc
invariant-loop-arc l = (length l.joints.items ≡ l.arc-index) × ((a : ℕ) → a < l.arc-index → IsJoint (numbers_of_nodes l.nodes) (ends_by_place l.basics a) (slice_index_or l.joints.items a loose))
