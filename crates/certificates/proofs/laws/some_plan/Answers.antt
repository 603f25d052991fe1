use Rattle.certificates.proofs.StandsFor.{stands-for}
use Rattle.certificates.proofs.laws.some_plan.Goals as goal

pub returns : goal.returns
returns c = stands-for
