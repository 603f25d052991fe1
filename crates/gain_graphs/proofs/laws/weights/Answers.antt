use Rattle.gain_graphs.proofs.Theorems as theorems
use Rattle.gain_graphs.proofs.laws.weights.Goals as goal

pub returns : goal.returns
returns g c = λ field. theorems.weights_exist field
