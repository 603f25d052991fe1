use Rattle.netplan_top.proofs.OneAnswer.{status_is, text_is}
use Rattle.netplan_top.proofs.laws.one_answer.Goals as goal

pub returns-clause-status : goal.returns-clause-status
returns-clause-status c = status_is c.one_scheme.ensures c.one_plan.ensures

pub returns-clause-text : goal.returns-clause-text
returns-clause-text c = text_is c.one_scheme.ensures c.one_plan.ensures
