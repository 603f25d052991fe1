use Rattle.np_basis.proofs.Extras.{links_are_no_loops, extra_exists, extra_is_unique}
use Rattle.np_basis.proofs.laws.extra.Goals as goal

pub returns-clause-no_loops : goal.returns-clause-no_loops
returns-clause-no_loops c = links_are_no_loops

pub returns-clause-exists : goal.returns-clause-exists
returns-clause-exists c = extra_exists

pub returns-clause-unique : goal.returns-clause-unique
returns-clause-unique c = extra_is_unique
