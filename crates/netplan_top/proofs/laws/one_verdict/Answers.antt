use Rattle.netplan_top.proofs.OneVerdict.{same_fault, same_verdict, same_cost}
use Rattle.netplan_top.proofs.laws.one_verdict.Goals as goal

pub returns-clause-fault : goal.returns-clause-fault
returns-clause-fault c = same_fault

pub returns-clause-verdict : goal.returns-clause-verdict
returns-clause-verdict c = same_verdict c.one_scheme.ensures c.order.ensures.exclusive

pub returns-clause-cost : goal.returns-clause-cost
returns-clause-cost c = same_cost c.one_scheme.ensures c.order.ensures.antisymmetric
