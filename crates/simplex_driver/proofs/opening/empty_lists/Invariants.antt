use Rattle.std.proofs.Common.{◌≡◌, ℕ, ◌<◌, [], length, slice_index_or}
use Rattle.quasi_tree.specs.declared.lists.MarkList.{MarkList}
use Rattle.simplex_driver.proofs.opening.empty_lists.Given as goal

abbrev pub invariant-loop : goal.invariant-loop
invariant-loop l = record {
  each : length l.lists.items ≡ l.counter;
  empty : (v : ℕ) (d : MarkList) → v < l.counter → (slice_index_or l.lists.items v d).items.items ≡ [];
}
