use Rattle.std.proofs.Common.{ap, length}
use Rattle.cert_checker.proofs.Summed.{all_joined, all_end}
use Rattle.cert_checker.proofs.sums.summed_cost.Goals as goal

pub check_feasible-requires-clause-joined : goal.check_feasible-requires-clause-joined
check_feasible-requires-clause-joined c =
    all_joined c.args.scheme.now c.as_slice-arcs.result.now c.in_ok-staged.staged.items c.as_slice-arcs.ensures.value c.in_ok-staged.ensures c.as_slice.result.now (ap length c.as_slice.ensures)

pub check_reduced-requires-clause-joined : goal.check_reduced-requires-clause-joined
check_reduced-requires-clause-joined c =
    all_joined c.args.scheme.now c.as_slice-arcs.result.now c.in_ok-staged.staged.items c.as_slice-arcs.ensures.value c.in_ok-staged.ensures c.args.prices.now c.requires.prices

pub check_reduced-requires-clause-ends : goal.check_reduced-requires-clause-ends
check_reduced-requires-clause-ends c =
    all_end c.args.scheme.now c.as_slice-arcs.result.now c.in_ok-staged.staged.items c.as_slice-arcs.ensures.value c.in_ok-staged.ensures (length c.as_slice-nodes.result.now) c.as_slice.result.now c.args.flows.now c.in_ok-check_feasible.field-0 c.check_feasible.result c.requires.flows c.check_feasible.ensures c.in_ok-check_feasible.was

pub sum_cost-requires-clause-ends : goal.sum_cost-requires-clause-ends
sum_cost-requires-clause-ends c =
    all_end c.args.scheme.now c.as_slice-arcs.result.now c.in_ok-staged.staged.items c.as_slice-arcs.ensures.value c.in_ok-staged.ensures (length c.as_slice-nodes.result.now) c.as_slice.result.now c.args.flows.now c.in_ok-check_feasible.field-0 c.check_feasible.result c.requires.flows c.check_feasible.ensures c.in_ok-check_feasible.was
