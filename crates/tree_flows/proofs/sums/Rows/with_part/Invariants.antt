use Rattle.std.proofs.Common.{◌≡◌, ◌<◌, ◌≤◌, ◌-◌, length}
use Rattle.tree_search.specs.Search.{TouchesAt}
use Rattle.tree_flows.specs.Along.{arcs_from, sum_part}
use Rattle.tree_flows.proofs.sums.Rows.with_part.Given as goal

abbrev pub invariant-loop-arc : goal.invariant-loop-arc
invariant-loop-arc l =
    (l.arc ≤ length l.self.joints.now)
    × (l.arc < length l.self.joints.now → TouchesAt l.self.joints.now l.arc l.place)
    × (sum_part l.self.basics.now l.amounts l.self.before l.early l.node (arcs_from l.self.joints.now l.place 0) l.fn.start
    ≡ sum_part l.self.basics.now l.amounts l.self.before l.early l.node (arcs_from l.self.joints.now l.place l.arc) l.sum)

abbrev pub decreases-loop-arc : goal.decreases-loop-arc
decreases-loop-arc l = length l.self.joints.now - l.arc
