-- Where each node is at home: the number of the slot whose piece has it. (This project's own.)
use Rattle.std.specs.Prelude.{◌≡◌, ℕ, ◌<◌, List, [], ◌∷◌, length, map, Option, Some, slice_index_or}
use Rattle.np_model.specs.declared.arc.Ends.{Ends}
use Rattle.np_model.specs.declared.arc.Ends.TheVariants.{Link, Drain, Feed}
use Rattle.np_model.specs.Basis.Pieces.{PieceLists, least_node}
use Rattle.quasi_tree.specs.Store.{Store}
use Rattle.simplex_driver.specs.Store.{slot_at, IsInSlot}

abbrev pub home_at : List ℕ → ℕ → ℕ
home_at homes v = slice_index_or homes v 0

-- a home for each node, which is one for each slot, and the piece in that slot has the node
pub record AreHomes (slots : List (Option Store)) (homes : List ℕ) : Type 0 where
  pub home_each : length homes ≡ length slots
  pub at_home : (v : ℕ) → v < length slots → IsInSlot slots (home_at homes v) v

-- what a piece writes into them
abbrev pub homes_of : PieceLists → List (ℕ × ℕ)
homes_of p = map (λ n. (n.0, least_node p)) p.nodes

-- the homes of the ends of an arc
abbrev pub homes_needed : List ℕ → Ends → List ℕ
homes_needed homes (Link from to gain) = home_at homes from ∷ home_at homes to ∷ []
homes_needed homes (Drain at) = home_at homes at ∷ []
homes_needed homes (Feed at) = home_at homes at ∷ []

-- a node has a home, with a piece in its slot
pub record HasHome (slots : List (Option Store)) (homes : List ℕ) (v : ℕ) : Type 0 where
  pub node : v < length homes
  pub slot : home_at homes v < length slots
  pub piece : Store
  pub there : slot_at slots (home_at homes v) ≡ Some piece

-- and so have the ends of an arc
abbrev pub HaveHomes : List (Option Store) → List ℕ → Ends → Type 0
HaveHomes slots homes (Link from to gain) = HasHome slots homes from × HasHome slots homes to
HaveHomes slots homes (Drain at) = HasHome slots homes at
HaveHomes slots homes (Feed at) = HasHome slots homes at
