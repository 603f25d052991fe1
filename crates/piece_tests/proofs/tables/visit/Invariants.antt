use Rattle.std.proofs.Common.{◌≡◌}
use Rattle.piece_tests.specs.Passes.{IsVisitor}
use Rattle.piece_tests.proofs.tables.visit.Given as goal

abbrev pub invariant-loop-turn : goal.invariant-loop-turn
invariant-loop-turn g l = IsVisitor l.table l.second l.pass × (l.pass.view.shares ≡ l.initial.pass.view.shares)
