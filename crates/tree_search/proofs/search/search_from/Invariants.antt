use Rattle.std.proofs.Common.{◌<◌, ◌≤◌, ◌-◌, ℕ, length, slice_index}
use Rattle.tree_search.specs.Search.{IsSearch, LeadsOn}
use Rattle.tree_search.proofs.search.search_from.Given as goal

abbrev pub invariant-loop-next : goal.invariant-loop-next
invariant-loop-next l =
    IsSearch l.joints l.nodes l.starts l.search
    × (l.next ≤ length l.search.queue.items)
    × ((i : ℕ) → i < l.next → LeadsOn l.joints (slice_index l.search.queue.items i) (length l.joints) l.search.queue.items)

abbrev pub decreases-loop-next : goal.decreases-loop-next
decreases-loop-next l = l.nodes - l.next
