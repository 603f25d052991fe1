-- What the driver holds: the pieces of a state, each in the slot of its least node, and the state as tables by number. (This project's own.)
use Rattle.std.specs.Prelude.{◌≡◌, ℕ, ◌<◌, List, [], ◌∷◌, length, map, Option, Some, None, slice_index_or, slice_set}
use Rattle.std.specs.List.{All}
use Rattle.gain_graphs.specs.Arcs.{IsIn}
use Rattle.np_frac.specs.Ratio.{Ratio}
use Rattle.np_model.specs.declared.piece.Hands.{Hands}
use Rattle.np_model.specs.declared.piece.Hands.TheVariants.{One, Two}
use Rattle.np_model.specs.Network.Flows.{Network}
use Rattle.np_model.specs.Basis.Pieces.{PieceLists, nodes_in, least_node}
use Rattle.np_model.specs.Basis.States.{State, Values, values_of, IsPieceOf}
use Rattle.quasi_tree.specs.Store.{Store}
use Rattle.simplex_driver.specs.declared.forest.Forest.{Forest}

-- the tables are the state
abbrev pub state_of : Forest → State
state_of f = record { marks = f.marks.items; flows = f.flows.items; potentials = f.potentials.items }

-- what stands in the slot of a number
abbrev pub slot_at : List (Option Store) → ℕ → Option Store
slot_at slots v = slice_index_or slots v None

-- the node is one of the piece in this slot
abbrev pub IsInSlot : List (Option Store) → ℕ → ℕ → Type 0
IsInSlot slots slot v = (p : Store) × (slot_at slots slot ≡ Some p) × IsIn v (nodes_in p.lists)

-- the slots have pieces of what these values say, each in that of its least node, and each node is one of a piece in a slot
pub record Holds (net : Network) (s : Values) (slots : List (Option Store)) : Type 0 where
  pub slot_each : length slots ≡ length net.supply
  pub pieces : (v : ℕ) (p : Store) → slot_at slots v ≡ Some p → IsPieceOf net s p.lists × (least_node p.lists ≡ v)
  pub whole : (v : ℕ) → v < length net.supply → (slot : ℕ) × IsInSlot slots slot v

-- the pieces at hand are those of the state at hand
abbrev pub IsKept : Network → Forest → Type 0
IsKept net f = Holds net (values_of (state_of f)) f.slots.items

-- ---- what is written

-- a table after these entries are written into it, in order
abbrev pub written : {A : Type 0} → List (ℕ × A) → List A → List A
written [] xs = xs
written (e ∷ es) xs = written es (slice_set xs e.0 e.1)

-- what a piece writes into the tables of potentials and flows
abbrev pub potentials_of : PieceLists → List (ℕ × Ratio)
potentials_of p = map (λ n. (n.0, n.1)) p.nodes

abbrev pub flows_written : PieceLists → List (ℕ × Ratio)
flows_written p = map (λ b. (b.0, b.2)) p.basics

-- the slots of the pieces that an arc needs are emptied
abbrev pub emptied : List ℕ → List (ℕ × Option Store)
emptied homes = map (λ home. (home, None)) homes

-- the lists of pieces
abbrev pub lists_all : List Store → List PieceLists
lists_all pieces = map (λ p. p.lists) pieces

-- the one piece or the two
abbrev pub stores_in : Hands Store → List Store
stores_in (One piece) = piece ∷ []
stores_in (Two piece other) = piece ∷ other ∷ []

-- and the slots of pieces are filled
abbrev pub filled : List Store → List (ℕ × Option Store)
filled pieces = map (λ p. (least_node p.lists, Some p)) pieces

-- ---- what fits into it

-- the numbers of a piece lie within the slots and the tables
pub record LiesWithin (f : Forest) (p : PieceLists) : Type 0 where
  pub some : 0 < length p.nodes
  pub slot : least_node p < length f.slots.items
  pub potentials : All (λ n. n.0 < length f.potentials.items) p.nodes
  pub flows : All (λ b. b.0 < length f.flows.items) p.basics
