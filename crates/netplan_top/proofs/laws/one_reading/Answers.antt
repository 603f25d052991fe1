use Rattle.netplan_top.proofs.OneReading.{scheme_is, plan_is}
use Rattle.netplan_top.proofs.laws.one_reading.Goals as goal

pub returns-clause-scheme : goal.returns-clause-scheme
returns-clause-scheme c = scheme_is c.one_scheme.ensures

pub returns-clause-plan : goal.returns-clause-plan
returns-clause-plan c = plan_is c.one_scheme.ensures c.one_plan.ensures
