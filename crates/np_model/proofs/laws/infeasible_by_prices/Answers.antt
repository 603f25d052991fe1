use Rattle.np_model.proofs.Staged as theorems
use Rattle.np_model.proofs.laws.infeasible_by_prices.Goals as goal

pub returns : goal.returns
returns c = theorems.prices_exclude
