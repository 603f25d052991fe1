use Rattle.arc_pricing.proofs.Eligibility.{price_exact}
use Rattle.arc_pricing.proofs.laws.prices.Goals as goal

pub returns : goal.returns
returns c = price_exact
