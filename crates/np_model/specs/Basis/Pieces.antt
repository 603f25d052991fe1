-- Pieces as plain data: the lists of a quasi-tree. (A piece as lists is this project's own.)
use Rattle.std.specs.Prelude.{◌≡◌, ◌≢◌, ◌⊎◌, ℕ, ◌==◌, if◌then◌else◌, List, [], ◌∷◌, ◌++◌, map, slice_index}
use Rattle.std.specs.List.Sorted.{IsStrictlyIncreasing}
use Rattle.std.specs.List.{flat_map}
use Rattle.gain_graphs.specs.Arcs.{IsIn, AreDistinct}
use Rattle.gain_graphs.specs.QuasiTrees.{IsQuasiTree}
use Rattle.np_frac.specs.Ratio.{Ratio}
use Rattle.np_model.specs.declared.arc.Ends.{Ends}
use Rattle.np_model.specs.declared.log.Mark.{Mark}
use Rattle.np_model.specs.declared.log.Mark.TheVariants.{Basic}
use Rattle.np_model.specs.Basis.Graphs.{ratios, graph_ends}

-- its nodes with their potentials, its basic arcs with their ends and flows, and the other arcs that touch it with their marks
pub record PieceLists : Type 0 where
  pub nodes : List (ℕ × Ratio)
  pub basics : List (ℕ × Ends × Ratio)
  pub marks : List (ℕ × Mark)

abbrev pub nodes_in : PieceLists → List ℕ
nodes_in piece = map (λ n. n.0) piece.nodes

abbrev pub basics_in : PieceLists → List ℕ
basics_in piece = map (λ b. b.0) piece.basics

abbrev pub ends_in : PieceLists → List Ends
ends_in piece = map (λ b. b.1) piece.basics

abbrev pub marked_in : PieceLists → List ℕ
marked_in piece = map (λ m. m.0) piece.marks

-- the least node, where the nodes ascend
abbrev pub least_node : PieceLists → ℕ
least_node piece = slice_index (nodes_in piece) 0

-- the shape of a piece: ascending lists, a quasi-tree, and marks of other arcs than the basic ones
pub record HasShape (piece : PieceLists) : Type 0 where
  pub nodes_ascend : IsStrictlyIncreasing (nodes_in piece)
  pub basics_ascend : IsStrictlyIncreasing (basics_in piece)
  pub marks_ascend : IsStrictlyIncreasing (marked_in piece)
  pub quasi_tree : IsQuasiTree ratios (nodes_in piece) (map graph_ends (ends_in piece))
  pub others : (a : ℕ) → IsIn a (marked_in piece) → ¬ IsIn a (basics_in piece)
  pub at_bounds : (m : ℕ × Mark) → IsIn m piece.marks → m.1 ≢ Basic

-- nothing is in it
pub record IsVacant (piece : PieceLists) : Type 0 where
  pub no_nodes : piece.nodes ≡ []
  pub no_basics : piece.basics ≡ []
  pub no_marks : piece.marks ≡ []

-- what a store of a piece holds
abbrev pub IsStored : PieceLists → Type 0
IsStored piece = IsVacant piece ⊎ HasShape piece

-- ---- what it says of a number

-- what stands beside a number, or else this
abbrev pub beside : {A : Type 0} → A → List (ℕ × A) → ℕ → A
beside other [] v = other
beside other (x ∷ xs) v = if v == x.0 then x.1 else beside other xs v

-- the marks of its arcs, and the flows of its basic ones
abbrev pub marks_of : PieceLists → List (ℕ × Mark)
marks_of piece = map (λ b. (b.0, Basic)) piece.basics ++ piece.marks

abbrev pub flows_of : PieceLists → List (ℕ × Ratio)
flows_of piece = map (λ b. (b.0, b.2)) piece.basics

-- ---- several pieces

abbrev pub nodes_of : List PieceLists → List ℕ
nodes_of pieces = flat_map nodes_in pieces

abbrev pub basics_of : List PieceLists → List ℕ
basics_of pieces = flat_map basics_in pieces

-- no node is in two of them
abbrev pub AreApart : List PieceLists → Type 0
AreApart pieces = AreDistinct (nodes_of pieces)
