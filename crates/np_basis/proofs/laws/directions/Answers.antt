use Rattle.np_basis.proofs.Directions.{direction_exists, direction_is_unique, whole_direction_exists, whole_direction_is_unique}
use Rattle.np_basis.proofs.Held.{direction_is_local}
use Rattle.np_basis.proofs.laws.directions.Goals as goal

pub returns-clause-exist : goal.returns-clause-exist
returns-clause-exist c = direction_exists

pub returns-clause-unique : goal.returns-clause-unique
returns-clause-unique c = direction_is_unique

pub returns-clause-whole_exist : goal.returns-clause-whole_exist
returns-clause-whole_exist c = whole_direction_exists

pub returns-clause-whole_unique : goal.returns-clause-whole_unique
returns-clause-whole_unique c = whole_direction_is_unique

pub returns-clause-local : goal.returns-clause-local
returns-clause-local c = direction_is_local
