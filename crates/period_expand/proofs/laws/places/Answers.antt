use Rattle.period_expand.proofs.Standing.{stands, no_others}
use Rattle.period_expand.proofs.laws.places.Goals as goal

pub returns-clause-each : goal.returns-clause-each
returns-clause-each c = stands

pub returns-clause-no_others : goal.returns-clause-no_others
returns-clause-no_others c = no_others
