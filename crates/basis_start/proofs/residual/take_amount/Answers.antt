use Rattle.basis_start.proofs.Residuals.{link_taken}
use Rattle.basis_start.proofs.residual.take_amount.Goals as goal

pub returns-in-Link : goal.returns-in-Link
returns-in-Link c = λ v d below.
    let nodes = rw c.in-Link.is at c.requires in
    rw c.in-Link.is
    (link_taken c.args.running.now c.in-Link.from c.in-Link.to v c.in-Link.gain c.args.amount c.index-running-from.result c.index-running-to.result
    c.take_out.result c.put_gained.result d nodes.0 nodes.1 nodes.2
    c.index-running-from.is c.take_out.ensures c.index-running-to.is c.put_gained.ensures below)
