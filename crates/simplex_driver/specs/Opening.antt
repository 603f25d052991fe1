-- The forest of the start: the marks of all arcs in one list for each node, and the pieces, each a node alone. (This project's own.)
use Rattle.std.specs.Prelude.{◌≡◌, ℕ, ◌<◌, List, length, map, filter, Option, Some, slice_index_or}
use Rattle.std.specs.List.{range_with_len}
use Rattle.np_model.specs.declared.arc.NetArc.{NetArc}
use Rattle.np_model.specs.declared.log.Mark.{Mark}
use Rattle.np_model.specs.declared.log.Mark.TheVariants.{Lower}
use Rattle.np_model.specs.Network.Flows.{Network}
use Rattle.np_model.specs.Basis.Graphs.{ends_at}
use Rattle.np_model.specs.Basis.Starts.{touches, start_piece}
use Rattle.quasi_tree.specs.Store.{Store}
use Rattle.quasi_tree.specs.declared.lists.MarkList.{MarkList}
use Rattle.simplex_driver.specs.Store.{slot_at}

-- the marks of those of the first arcs that touch a node, each at its lower bound
abbrev pub lower_marks : List NetArc → ℕ → ℕ → List (ℕ × Mark)
lower_marks arcs count v = filter (λ m. touches (ends_at arcs m.0) v) (map (λ a. (a, Lower)) (range_with_len 0 count))

-- the list of each node has the marks of those of the first arcs that touch it
pub record HaveMarks (arcs : List NetArc) (nodes count : ℕ) (lists : List MarkList) : Type 0 where
  pub list_each : length lists ≡ nodes
  pub marks : (v : ℕ) (d : MarkList) → v < nodes → (slice_index_or lists v d).items.items ≡ lower_marks arcs count v

-- the slot of each of the first nodes has the piece that the node is at the start
pub record AreSingles (net : Network) (count : ℕ) (slots : List (Option Store)) : Type 0 where
  pub slot_each : length slots ≡ count
  pub single : (v : ℕ) → v < count → (p : Store) × (slot_at slots v ≡ Some p) × (p.lists ≡ start_piece net v)
