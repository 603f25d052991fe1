use Rattle.np_frac.proofs.Facts.{same_by_cross}
use Rattle.np_frac.proofs.laws.equality.Goals as goal

pub returns : goal.returns
returns c = same_by_cross
