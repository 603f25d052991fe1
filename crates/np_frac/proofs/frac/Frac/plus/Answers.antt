use Rattle.std.proofs.Common.{◌∙◌}
use Rattle.np_frac.proofs.Exactness.{plus_found}
use Rattle.np_frac.proofs.frac.Frac.plus.Goals as goal

pub returns : goal.returns
returns c = c.ok_or.ensures.value ∙ plus_found c.sum_of.result c.args.self c.args.other c.sum_of.ensures
