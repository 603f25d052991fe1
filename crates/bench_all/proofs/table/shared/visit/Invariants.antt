use Rattle.std.proofs.Common.{◌≡◌}
use Rattle.bench_all.specs.Visits.{IsVisitor}
use Rattle.bench_all.proofs.table.shared.visit.Given as goal

abbrev pub invariant-loop-turn : goal.invariant-loop-turn
invariant-loop-turn g l = IsVisitor l.table l.pass × (l.pass.view.shares ≡ l.initial.pass.view.shares)
