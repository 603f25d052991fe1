-- Ends that the pieces taken do not have. (This project's own.)
use Rattle.std.specs.Prelude.{◌≡◌, ℕ, ◌⊎◌, List, [], ◌∷◌, Option, Some, None}
use Rattle.gain_graphs.specs.Arcs.{IsIn}
use Rattle.np_model.specs.declared.arc.Ends.{Ends}
use Rattle.np_model.specs.declared.arc.Ends.TheVariants.{Link, Drain, Feed}
use Rattle.np_model.specs.Basis.Pieces.{PieceLists, nodes_in}
use Rattle.tree_table.specs.Slots.{LiesAt}
use Rattle.pivot_workers.specs.declared.seeing.Seen.{Seen}

-- the piece of the list that has the slot has the node, or lacks it
abbrev pub HasAt : ℕ → ℕ → List PieceLists → Type 0
HasAt slot node [] = ⊥
HasAt slot node (p ∷ ps) = (LiesAt slot p × IsIn node (nodes_in p)) ⊎ HasAt slot node ps

abbrev pub LacksAt : ℕ → ℕ → List PieceLists → Type 0
LacksAt slot node [] = ⊥
LacksAt slot node (p ∷ ps) = (LiesAt slot p × (¬ IsIn node (nodes_in p))) ⊎ LacksAt slot node ps

-- the one end: the node is it, and the piece at its slot lacks it
abbrev IsGone : ℕ → ℕ → ℕ → ℕ → List PieceLists → Type 0
IsGone end at node slot pieces = (node ≡ end) × (slot ≡ at) × LacksAt slot node pieces

-- the node is an end, and the piece at the slot where it was seen lacks it; the tail comes first
abbrev pub AreStale : Ends → ℕ → Option ℕ → ℕ → ℕ → List PieceLists → Type 0
AreStale (Link from to gain) a None node slot pieces = ⊥
AreStale (Link from to gain) a (Some b) node slot pieces = IsGone from a node slot pieces ⊎ (HasAt a from pieces × IsGone to b node slot pieces)
AreStale (Drain at) a b node slot pieces = IsGone at a node slot pieces
AreStale (Feed at) a b node slot pieces = IsGone at a node slot pieces

abbrev pub IsStale : Ends → Seen → ℕ → ℕ → List PieceLists → Type 0
IsStale ends seen node slot pieces = AreStale ends seen.first seen.second node slot pieces

-- each end is in the piece at the slot where it was seen
abbrev pub AreFresh : Ends → ℕ → Option ℕ → List PieceLists → Type 0
AreFresh (Link from to gain) a None pieces = ⊥
AreFresh (Link from to gain) a (Some b) pieces = HasAt a from pieces × HasAt b to pieces
AreFresh (Drain at) a b pieces = HasAt a at pieces
AreFresh (Feed at) a b pieces = HasAt a at pieces

abbrev pub IsFresh : Ends → Seen → List PieceLists → Type 0
IsFresh ends seen pieces = AreFresh ends seen.first seen.second pieces
