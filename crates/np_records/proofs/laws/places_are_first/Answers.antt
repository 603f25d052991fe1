use Rattle.np_records.proofs.Places.{place-first, place-found, place_of-append, place-within}
use Rattle.np_records.proofs.laws.places_are_first.Goals as goal

pub returns-clause-found : goal.returns-clause-found
returns-clause-found c = place-found

pub returns-clause-first : goal.returns-clause-first
returns-clause-first c = place-first

pub returns-clause-within : goal.returns-clause-within
returns-clause-within c = place-within

pub returns-clause-appended : goal.returns-clause-appended
returns-clause-appended c = place_of-append
