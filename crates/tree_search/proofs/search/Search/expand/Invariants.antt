use Rattle.std.proofs.Common.{◌≡◌, ◌<◌, ◌≤◌, ◌-◌, ℕ, List, length}
use Rattle.gain_graphs.specs.Arcs.{IsIn}
use Rattle.tree_search.specs.Search.{TouchesAt, IsSearch, Grows, LeadsOn}
use Rattle.tree_search.proofs.search.Search.expand.Given as goal

abbrev pub invariant-loop-arc : goal.invariant-loop-arc
invariant-loop-arc l =
    (length l.self.seen.items ≡ length l.fn.self.seen.items)
    × (l.arc ≤ length l.joints)
    × (l.arc < length l.joints → TouchesAt l.joints l.arc l.node)
    × ((n : ℕ) (starts : List ℕ) → IsSearch l.joints n starts l.fn.self → IsIn l.node l.fn.self.queue.items
    → IsSearch l.joints n starts l.self × Grows l.fn.self l.self × LeadsOn l.joints l.node l.arc l.self.queue.items)

abbrev pub decreases-loop-arc : goal.decreases-loop-arc
decreases-loop-arc l = length l.joints - l.arc
