use Rattle.np_model.proofs.Staged as theorems
use Rattle.np_model.proofs.laws.unbounded_by_ray.Goals as goal

pub returns : goal.returns
returns c = theorems.rays_prove
