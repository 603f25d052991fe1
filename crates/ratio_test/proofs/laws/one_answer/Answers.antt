use Rattle.ratio_test.proofs.Unique.{one_answer}
use Rattle.ratio_test.proofs.laws.one_answer.Goals as goal

pub returns : goal.returns
returns c = one_answer
