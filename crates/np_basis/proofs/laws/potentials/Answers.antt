use Rattle.np_basis.proofs.Reading.{rows_are_local}
use Rattle.np_basis.proofs.Trees.{potentials_exist, potentials_are_unique}
use Rattle.np_basis.proofs.laws.potentials.Goals as goal

pub returns-clause-exist : goal.returns-clause-exist
returns-clause-exist c = potentials_exist

pub returns-clause-unique : goal.returns-clause-unique
returns-clause-unique c = potentials_are_unique

pub returns-clause-local : goal.returns-clause-local
returns-clause-local c = rows_are_local
