use Rattle.std.proofs.Common.{◌≡◌, ◌<◌, ◌≤◌, ℕ, suc, length, slice_index, slice_index_or}
use Rattle.tree_search.specs.Search.{IsFirstFrom}
use Rattle.tree_search.specs.Places.{loose}
use Rattle.tree_search.proofs.search.arcs_at_nodes.Given as goal

abbrev pub invariant-loop-left : goal.invariant-loop-left
invariant-loop-left l =
    (length l.first.items ≡ l.nodes)
    × (length l.after_from.items ≡ length l.joints)
    × (length l.after_to.items ≡ length l.joints)
    × (l.left ≤ length l.joints)
    × ((v : ℕ) → v < l.nodes → IsFirstFrom l.joints v l.left (slice_index l.first.items v))
    × ((a : ℕ) → l.left ≤ a → a < length l.joints → IsFirstFrom l.joints (slice_index_or l.joints a loose).from (suc a) (slice_index l.after_from.items a))
    × ((a : ℕ) → l.left ≤ a → a < length l.joints → IsFirstFrom l.joints (slice_index_or l.joints a loose).to (suc a) (slice_index l.after_to.items a))

abbrev pub decreases-loop-left : goal.decreases-loop-left
decreases-loop-left l = l.left
