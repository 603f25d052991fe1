use Rattle.std.proofs.Common.{◌≡◌, ◌≤◌, length, take, reverse}
use Rattle.tree_flows.specs.Along.{AreStill, gather}
use Rattle.tree_flows.proofs.inwards.gather_amounts.Given as goal

abbrev pub invariant-loop-left : goal.invariant-loop-left
invariant-loop-left l =
    (length l.amounts.items ≡ length l.rows.basics.now)
    × (length l.reached.items ≡ length l.rows.nodes.now)
    × AreStill l.rows.joints.now l.amounts.items l.reached.items
    × (l.left ≤ length l.steps)
    × (gather l.rows.nodes.now l.rows.basics.now l.rows.joints.now l.rows.before l.rows.entering.now.ends l.rows.entering.now.amount (reverse l.steps) l.fn.amounts.items
    ≡ gather l.rows.nodes.now l.rows.basics.now l.rows.joints.now l.rows.before l.rows.entering.now.ends l.rows.entering.now.amount (reverse (take l.left l.steps)) l.amounts.items)

abbrev pub decreases-loop-left : goal.decreases-loop-left
decreases-loop-left l = l.left
