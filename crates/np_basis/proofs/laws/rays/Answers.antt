use Rattle.np_basis.proofs.Rays.{direction_is_ray}
use Rattle.np_basis.proofs.laws.rays.Goals as goal

pub returns : goal.returns
returns c = direction_is_ray
