use Rattle.std.proofs.Common.{◌≡◌, length}
use Rattle.bench_all.proofs.prices.network.marks_of.Given as goal

abbrev pub invariant-loop-number : goal.invariant-loop-number
invariant-loop-number l = length l.list.items ≡ l.number
