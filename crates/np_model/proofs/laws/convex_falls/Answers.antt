use Rattle.np_model.proofs.ConvexRays as theorems
use Rattle.np_model.proofs.laws.convex_falls.Goals as goal

pub returns : goal.returns
returns c = theorems.stages_fall
