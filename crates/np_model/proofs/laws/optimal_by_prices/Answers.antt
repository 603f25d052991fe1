use Rattle.np_model.proofs.Staged as theorems
use Rattle.np_model.proofs.laws.optimal_by_prices.Goals as goal

pub returns : goal.returns
returns c = theorems.prices_prove
