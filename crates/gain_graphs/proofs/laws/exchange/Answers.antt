use Rattle.gain_graphs.proofs.Directions as theorems
use Rattle.gain_graphs.proofs.laws.exchange.Goals as goal

pub returns : goal.returns
returns g c = λ field. theorems.exchange_keeps_basis field
