-- What a store of a piece holds. (This project's own.)
use Rattle.std.specs.Prelude.{ℕ, ◌<◌, ◌^◌, ◌==◌, if◌then◌else◌, List, length, map}
use Rattle.std.specs.List.{zip}
use Rattle.np_frac.specs.Ratio.{Ratio}
use Rattle.np_model.specs.declared.log.Mark.{Mark}
use Rattle.np_model.specs.Basis.Pieces.{PieceLists, nodes_in, IsStored}

-- the lists of a piece, or of none, and how many nodes, each with a basic arc, and how many marks more fit in them without memory
pub record Store : Type 0 where
  pub lists : PieceLists
  pub node_spare : ℕ
  pub mark_spare : ℕ

-- a piece or none, with fewer than 2^32 entries in each list
pub record IsHeld (lists : PieceLists) : Type 0 where
  pub stored : IsStored lists
  pub few_nodes : length lists.nodes < 2 ^ 32
  pub few_basics : length lists.basics < 2 ^ 32
  pub few_marks : length lists.marks < 2 ^ 32

-- another entry beside the number, where the number has one
abbrev pub put_beside : {A : Type 0} → ℕ → A → List (ℕ × A) → List (ℕ × A)
put_beside number x entries = map (λ entry. if entry.0 == number then (number, x) else entry) entries

-- what the lists become with another potential, flow or mark
abbrev pub with_potential : PieceLists → ℕ → Ratio → PieceLists
with_potential lists node value = record { nodes = put_beside node value lists.nodes; basics = lists.basics; marks = lists.marks }

abbrev pub with_potentials : PieceLists → List Ratio → PieceLists
with_potentials lists values = record { nodes = zip (nodes_in lists) values; basics = lists.basics; marks = lists.marks }

abbrev pub with_flow : PieceLists → ℕ → Ratio → PieceLists
with_flow lists arc value = record {
  nodes = lists.nodes;
  basics = map (λ b. if b.0 == arc then (arc, b.1, value) else b) lists.basics;
  marks = lists.marks;
}

abbrev pub with_mark : PieceLists → ℕ → Mark → PieceLists
with_mark lists arc mark = record { nodes = lists.nodes; basics = lists.basics; marks = put_beside arc mark lists.marks }
