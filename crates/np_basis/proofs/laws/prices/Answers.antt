use Rattle.np_basis.proofs.Fulls.{price_is_reduced}
use Rattle.np_basis.proofs.laws.prices.Goals as goal

pub returns : goal.returns
returns c = price_is_reduced
