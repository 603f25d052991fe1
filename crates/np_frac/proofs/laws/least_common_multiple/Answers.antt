use Rattle.np_frac.proofs.Facts.{lcm_is_least}
use Rattle.np_frac.proofs.laws.least_common_multiple.Goals as goal

pub returns : goal.returns
returns c = lcm_is_least
