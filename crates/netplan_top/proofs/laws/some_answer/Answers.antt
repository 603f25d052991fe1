use Rattle.netplan_top.proofs.SomeAnswer.{has_answer}
use Rattle.netplan_top.proofs.laws.some_answer.Goals as goal

pub returns : goal.returns
returns c = has_answer c.records_are_few.ensures c.texts_stand_for_schemes.ensures c.some_plan.ensures c.walk_proves.ensures c.walk_ends.ensures
