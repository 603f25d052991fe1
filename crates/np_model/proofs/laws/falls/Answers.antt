use Rattle.np_model.proofs.Rays as theorems
use Rattle.np_model.proofs.laws.falls.Goals as goal

pub returns : goal.returns
returns c = theorems.falls
