use Rattle.np_model.proofs.Certificates as theorems
use Rattle.np_model.proofs.laws.no_plan.Goals as goal

pub returns : goal.returns
returns c = theorems.no_plan
