-- The pieces that are taken, and what a thread that takes them needs.
use Rattle.std.specs.Prelude.{◌≡◌, ◌≤◌, ℕ, List, [], ◌∷◌, map}
use Rattle.std.specs.List.{range_with_len}
use Rattle.np_frac.specs.Ratio.{zero_ratio}
use Rattle.np_model.specs.Basis.Pieces.{PieceLists}
use Rattle.np_model.specs.declared.arc.Ends.TheVariants.{Drain}
use Rattle.tree_table.specs.declared.table.TreeTable.{TreeTable}
use Rattle.tree_table.specs.Passes.{PassState, IsIdle, slot_count}
use Rattle.tree_table.specs.Calls.{IsOf}

-- the node alone, by a drain of the same number
abbrev pub alone : ℕ → PieceLists
alone node = record { nodes = (node, zero_ratio) ∷ []; basics = (node, Drain node, zero_ratio) ∷ []; marks = [] }

-- each node from the first one on, so many of them
abbrev pub alones : ℕ → ℕ → List PieceLists
alones first n = map alone (range_with_len first n)

-- a pass of the table, which has 16 slots; it has nothing in hand and no entry
abbrev pub IsVisitor : {T : Type 0} → TreeTable T → PassState → Type 0
IsVisitor table pass = IsOf table pass × (16 ≤ slot_count pass.view) × IsIdle pass.view × (pass.view.entries ≡ [])
