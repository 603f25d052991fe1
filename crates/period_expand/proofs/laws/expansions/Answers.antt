use Rattle.period_expand.proofs.Sound.{is_expansion}
use Rattle.period_expand.proofs.laws.expansions.Goals as goal

pub returns : goal.returns
returns c = is_expansion
