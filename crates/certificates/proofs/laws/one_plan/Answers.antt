use Rattle.certificates.proofs.OnePlan.{one-plan}
use Rattle.certificates.proofs.laws.one_plan.Goals as goal

pub returns : goal.returns
returns c = one-plan
