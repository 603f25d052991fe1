use Rattle.np_model.proofs.Convex as theorems
use Rattle.np_model.proofs.laws.convex_duality.Goals as goal

pub returns : goal.returns
returns c = theorems.stages_duality
