use Rattle.std.proofs.Common.{◌≡◌, drop, length}
use Rattle.tree_flows.specs.Along.{gather_sums}
use Rattle.tree_flows.proofs.inwards.sums_round.Given as goal

abbrev pub invariant-loop-step : goal.invariant-loop-step
invariant-loop-step l =
    (length l.sums.items ≡ length l.rows.nodes.now)
    × (gather_sums l.rows.nodes.now l.rows.basics.now l.rows.joints.now l.rows.before l.rows.entering.now.ends l.rows.entering.now.amount l.amounts l.cycle l.fn.sums.items
    ≡ gather_sums l.rows.nodes.now l.rows.basics.now l.rows.joints.now l.rows.before l.rows.entering.now.ends l.rows.entering.now.amount l.amounts (drop l.step-index l.cycle) l.sums.items)
