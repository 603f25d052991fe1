use Rattle.np_model.proofs.Duality as theorems
use Rattle.np_model.proofs.laws.weak_duality.Goals as goal

pub returns : goal.returns
returns c = theorems.weak_duality
