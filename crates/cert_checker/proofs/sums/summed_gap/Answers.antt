use Rattle.cert_checker.proofs.Summed.{all_joined}
use Rattle.cert_checker.proofs.sums.summed_gap.Goals as goal

pub check_uppers-requires : goal.check_uppers-requires
check_uppers-requires c =
    all_joined c.args.scheme.now c.as_slice-arcs.result.now c.in_ok-staged.staged.items c.as_slice-arcs.ensures.value c.in_ok-staged.ensures c.args.prices.now c.requires

pub sum_gap-requires-clause-joined : goal.sum_gap-requires-clause-joined
sum_gap-requires-clause-joined c =
    all_joined c.args.scheme.now c.as_slice-arcs.result.now c.in_ok-staged.staged.items c.as_slice-arcs.ensures.value c.in_ok-staged.ensures c.args.prices.now c.requires
