-- Pieces and the slots that they stand in: the slot of a piece bears the number of its least node. (This project's own.)
use Rattle.std.specs.Prelude.{◌≡◌, ◌==◌, ◌<◌, ℕ, List, [], ◌∷◌, cond, length}
use Rattle.gain_graphs.specs.Arcs.{IsIn}
use Rattle.np_model.specs.Basis.Pieces.{PieceLists, nodes_in, least_node}
use Rattle.tree_table.specs.Weights.{weigh, times, once}

-- the piece has nodes, and k is the least of them
abbrev pub LiesAt : ℕ → PieceLists → Type 0
LiesAt k piece = (least_node piece ≡ k) × (0 < length piece.nodes)

-- the piece has nodes, and the least of them is one of n
abbrev pub HasSlot : ℕ → PieceLists → Type 0
HasSlot n piece = (0 < length piece.nodes) × (least_node piece < n)

abbrev pub HaveSlots : ℕ → List PieceLists → Type 0
HaveSlots n pieces = (piece : PieceLists) → IsIn piece pieces → HasSlot n piece

-- how often the node stands in these pieces
abbrev pub having : ℕ → List PieceLists → ℕ
having node pieces = weigh (λ piece. times node (nodes_in piece)) pieces

-- how many of these pieces have it as their least node
abbrev pub lying_at : ℕ → List PieceLists → ℕ
lying_at k pieces = weigh (λ piece. once k (least_node piece)) pieces

-- the pieces without the first whose least node is k
abbrev pub lacking : ℕ → List PieceLists → List PieceLists
lacking k [] = []
lacking k (piece ∷ pieces) = cond (least_node piece == k) pieces (piece ∷ lacking k pieces)
