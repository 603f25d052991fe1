use Rattle.np_basis.proofs.RatioTest.{move_exists, move_is_unique}
use Rattle.np_basis.proofs.laws.moves.Goals as goal

pub returns-clause-exist : goal.returns-clause-exist
returns-clause-exist c = move_exists

pub returns-clause-unique : goal.returns-clause-unique
returns-clause-unique c = move_is_unique
