-- The parts of some nodes that links of some basic arcs join. (This project's own.)
use Rattle.std.specs.Prelude.{◌≡◌, ◌↔◌, ◌<◌, ◌==◌, ◌||◌, ℕ, Bool, true, false, if◌then◌else◌, List, [], ◌∷◌, map, filter, length, slice_index, slice_index_or}
use Rattle.std.specs.Bool.{beq}
use Rattle.gain_graphs.specs.Arcs.{AreJoined}
use Rattle.np_frac.specs.Ratio.{Ratio}
use Rattle.np_model.specs.declared.arc.Ends.{Ends}
use Rattle.np_model.specs.declared.arc.Ends.TheVariants.{Link, Drain, Feed}
use Rattle.np_model.specs.declared.log.Mark.{Mark}
use Rattle.np_model.specs.Basis.Graphs.{graph_ends}
use Rattle.np_model.specs.Basis.Pieces.{PieceLists}
use Rattle.np_model.specs.Basis.Needed.{lists_held}
use Rattle.np_model.specs.declared.piece.Hands.{Hands}
use Rattle.quasi_tree.specs.Store.{Store}
use Rattle.tree_search.specs.Places.{numbers_of_nodes, ends_of_arcs}

-- for each node whether links join it to the first one
pub record IsReached (nodes : List ℕ) (ends : List Ends) (seen : List Bool) : Type 0 where
  pub long : length seen ≡ length nodes
  pub are : (p : ℕ) → p < length nodes → (slice_index_or seen p false ≡ true) ↔ AreJoined (map graph_ends ends) (slice_index nodes 0) (slice_index nodes p)

-- the nodes of which this is said
abbrev pub nodes_where : Bool → List (ℕ × Ratio) → List Bool → List (ℕ × Ratio)
nodes_where said [] seen = []
nodes_where said (n ∷ nodes) [] = []
nodes_where said (n ∷ nodes) (s ∷ seen) = if beq s said then n ∷ nodes_where said nodes seen else nodes_where said nodes seen

-- whether the number is one of the list
abbrev pub is_one : List ℕ → ℕ → Bool
is_one [] v = false
is_one (n ∷ numbers) v = (v == n) || is_one numbers v

-- whether an end of the arc is one of the nodes
abbrev pub touch : List ℕ → Ends → Bool
touch nodes (Link from to gain) = is_one nodes from || is_one nodes to
touch nodes (Drain at) = is_one nodes at
touch nodes (Feed at) = is_one nodes at

-- the piece with these nodes: those of the basic arcs and of the marks that touch them
abbrev pub piece_at : (ℕ → Ends) → List (ℕ × Ratio) → List (ℕ × Ends × Ratio) → List (ℕ × Mark) → PieceLists
piece_at ends nodes basics marks = record {
  nodes = nodes;
  basics = filter (λ b. touch (numbers_of_nodes nodes) b.1) basics;
  marks = filter (λ m. touch (numbers_of_nodes nodes) (ends m.0)) marks;
}

-- the piece with one list of nodes, and with another one where that is not empty
abbrev pub pieces_at : (ℕ → Ends) → List (ℕ × Ratio) → List (ℕ × Ratio) → List (ℕ × Ends × Ratio) → List (ℕ × Mark) → List PieceLists
pieces_at ends one [] basics marks = piece_at ends one basics marks ∷ []
pieces_at ends one (n ∷ others) basics marks = piece_at ends one basics marks ∷ piece_at ends (n ∷ others) basics marks ∷ []

-- the pieces of these nodes: those that links join to the first one, and the others
pub record AreFound (ends : ℕ → Ends) (nodes : List (ℕ × Ratio)) (basics : List (ℕ × Ends × Ratio)) (marks : List (ℕ × Mark)) (pieces : List PieceLists) : Type 0 where
  pub seen : List Bool
  pub reached : IsReached (numbers_of_nodes nodes) (ends_of_arcs basics) seen
  pub are : pieces ≡ pieces_at ends (nodes_where true nodes seen) (nodes_where false nodes seen) basics marks

-- the lists of one piece or two
abbrev pub lists_in : Hands Store → List PieceLists
lists_in = lists_held (λ (s : Store). s.lists)
