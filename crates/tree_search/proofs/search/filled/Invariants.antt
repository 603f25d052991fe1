use Rattle.std.proofs.Common.{◌≡◌, ◌<◌, ℕ, length, slice_index}
use Rattle.tree_search.proofs.search.filled.Given as goal

abbrev pub invariant-loop : goal.invariant-loop
invariant-loop l = (length l.list.items ≡ l.counter) × ((i : ℕ) → i < l.counter → slice_index l.list.items i ≡ l.value)
