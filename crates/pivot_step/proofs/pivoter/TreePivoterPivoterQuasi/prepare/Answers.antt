use Rattle.std.proofs.Common.{rules}
use Rattle.pivot_step.proofs.Naming.{named}
use Rattle.pivot_step.proofs.pivoter.TreePivoterPivoterQuasi.prepare.Goals as goal

pub returns-in-Some-clause-stay : goal.returns-in-Some-clause-stay
returns-in-Some-clause-stay c = rw c.in-Some.is (search rules)

pub returns-in-Some-clause-named : goal.returns-in-Some-clause-named
returns-in-Some-clause-named c = rw c.in-Some.is (named _ _ _ _ _ c.prepare-in-Some.ensures)
