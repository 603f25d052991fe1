use Rattle.piece_tests.proofs.Started.{named}
use Rattle.piece_tests.proofs.pivots.alone.Goals as goal

pub returns-clause-after : goal.returns-clause-after
returns-clause-after c = named _ _ _ _ _ c.prepare.ensures
