use Rattle.std.proofs.Common.{◌≡◌, ◌<◌, ◌↔◌, ℕ, length, slice_index_or, take, true, false}
use Rattle.gain_graphs.specs.Arcs.{IsIn}
use Rattle.tree_search.specs.Search.{step_arcs}
use Rattle.tree_search.proofs.marks.marks_of.Given as goal

abbrev pub invariant-loop : goal.invariant-loop
invariant-loop l = (length l.marks.items ≡ l.counter) × ((u : ℕ) → u < l.counter → slice_index_or l.marks.items u false ≡ false)

abbrev pub invariant-loop-step : goal.invariant-loop-step
invariant-loop-step l = (length l.marks.items ≡ l.arcs) × ((u : ℕ) → u < l.arcs → (slice_index_or l.marks.items u false ≡ true) ↔ IsIn u (step_arcs (take l.step-index l.steps)))
