use Rattle.std.proofs.Common.{◌∙◌}
use Rattle.np_frac.proofs.Exactness.{times_found}
use Rattle.np_frac.proofs.frac.Frac.times.Goals as goal

pub returns : goal.returns
returns c = c.ok_or.ensures.value ∙ times_found c.product_of.result c.args.self c.args.other c.product_of.ensures
