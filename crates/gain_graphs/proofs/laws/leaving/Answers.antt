use Rattle.gain_graphs.proofs.Leaving as theorems
use Rattle.gain_graphs.proofs.laws.leaving.Goals as goal

pub returns : goal.returns
returns g c = λ field. theorems.one_of_two_roots field
