use Rattle.arc_pricing.proofs.Order.{cyclic_holds}
use Rattle.arc_pricing.proofs.laws.cyclic_order.Goals as goal

pub returns : goal.returns
returns c = cyclic_holds
