use Rattle.np_records.proofs.Places.{distinct-push, names-differ, place-own}
use Rattle.np_records.proofs.laws.distinct_names_have_their_places.Goals as goal

pub returns-clause-own : goal.returns-clause-own
returns-clause-own c = place-own

pub returns-clause-apart : goal.returns-clause-apart
returns-clause-apart c = names-differ

pub returns-clause-added : goal.returns-clause-added
returns-clause-added c = distinct-push
