use Rattle.cert_checker.proofs.Balances.{link_step}
use Rattle.cert_checker.proofs.balance.add_flow.Goals as goal

pub returns-in-Link : goal.returns-in-Link
returns-in-Link c = λ v d below.
    let nodes = rw c.in-Link.is at c.requires in
    rw c.in-Link.is
    (link_step c.args.running.now c.in-Link.from c.in-Link.to v c.in-Link.gain c.args.amount c.index-running-from.result c.index-running-to.result
    c.add_outflow.result c.subtract_gained.result d nodes.0 nodes.1 nodes.2
    c.index-running-from.is c.add_outflow.ensures c.index-running-to.is c.subtract_gained.ensures below)
