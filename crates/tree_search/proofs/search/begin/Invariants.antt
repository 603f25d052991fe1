use Rattle.std.proofs.Common.{◌≡◌, ◌<◌, ◌↔◌, ℕ, length, slice_index_or, take, true, false}
use Rattle.gain_graphs.specs.Arcs.{IsIn}
use Rattle.tree_search.proofs.search.begin.Given as goal

abbrev pub invariant-loop : goal.invariant-loop
invariant-loop l = (length l.seen.items ≡ l.counter) × ((u : ℕ) → u < l.counter → slice_index_or l.seen.items u false ≡ false)

abbrev pub invariant-loop-start : goal.invariant-loop-start
invariant-loop-start l =
    (length l.seen.items ≡ l.nodes)
    × (l.queue.items ≡ take l.start-index l.starts)
    × ((u : ℕ) → u < l.nodes → (slice_index_or l.seen.items u false ≡ true) ↔ IsIn u l.queue.items)
