use Rattle.np_basis.proofs.Trees.{weights_exist}
use Rattle.np_basis.proofs.laws.weights.Goals as goal

pub returns : goal.returns
returns c = weights_exist
