use Rattle.std.proofs.Common.{◌≡◌, ℕ, ◌<◌, Result, Ok, length, slice_index_or}
use Rattle.np_frac.specs.declared.frac.Past.{Past as ThePast}
use Rattle.np_frac.specs.Ratio.{Ratio, zero_ratio}
use Rattle.cert_checker.proofs.balance.outflows.Given as goal

abbrev pub invariant-loop : goal.invariant-loop
invariant-loop l = record {
  counted : length l.sums.items ≡ l.counter;
  zero : (v : ℕ) (d : Result Ratio ThePast) → v < length l.sums.items → slice_index_or l.sums.items v d ≡ Ok zero_ratio;
}
