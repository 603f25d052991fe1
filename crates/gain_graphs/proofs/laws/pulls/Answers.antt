use Rattle.gain_graphs.proofs.Theorems as theorems
use Rattle.gain_graphs.proofs.laws.pulls.Goals as goal

pub returns : goal.returns
returns g c = λ field. theorems.pull_is_sum field
