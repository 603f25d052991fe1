use Rattle.gain_graphs.proofs.Bases as theorems
use Rattle.gain_graphs.proofs.laws.bases.Goals as goal

pub returns : goal.returns
returns g c = λ field n ends basic once valid. (
  theorems.basis_is_forest field n ends basic valid,
  theorems.forest_is_basis field n ends basic once valid,
)
