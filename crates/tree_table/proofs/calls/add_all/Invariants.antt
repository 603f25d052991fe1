use Rattle.std.proofs.Common.{◌≡◌, ◌++◌, take, vec_capacity}
use Rattle.tree_table.proofs.calls.add_all.Given as goal

abbrev pub invariant-loop-entry : goal.invariant-loop-entry
invariant-loop-entry l = (l.to.items ≡ l.initial.to.items ++ take l.entry-index l.from) × (vec_capacity l.to ≡ vec_capacity l.initial.to)
