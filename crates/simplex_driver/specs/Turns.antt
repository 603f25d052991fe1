-- The turn of the pieces and of the table of potentials.
use Rattle.std.specs.Prelude.{◌≡◌, ◌≢◌, ℕ, ◌<◌, ◌≤◌, List, Bool, true, false, length, Option, Some, None, ⊤}
use Rattle.gain_graphs.specs.Arcs.{IsIn}
use Rattle.np_frac.specs.Ratio.{Ratio, zero_ratio}
use Rattle.np_model.specs.declared.rows.Overflow.{Overflow}
use Rattle.np_model.specs.Network.Flows.{Network, at}
use Rattle.np_model.specs.Basis.Pieces.{PieceLists, nodes_in}
use Rattle.np_model.specs.Basis.Sound.{IsInNet}
use Rattle.quasi_tree.specs.Store.{Store}
use Rattle.tree_potentials.specs.Answers.{HasPotentials, IsOverflow}
use Rattle.tree_potentials.specs.declared.refusal.PotentialRefusal.{PotentialRefusal}
use Rattle.tree_potentials.specs.declared.refusal.PotentialRefusal.TheVariants as refusal
use Rattle.simplex_driver.specs.Store.{slot_at}

-- whether some flow from a place on is not 0
abbrev pub CarriesFrom : List Ratio → ℕ → Bool → Type 0
CarriesFrom flows from true = (a : ℕ) × (from ≤ a) × (a < length flows) × (at flows a ≢ zero_ratio)
CarriesFrom flows from false = (a : ℕ) → from ≤ a → a < length flows → at flows a ≡ zero_ratio

-- pieces of the network in their slots, with no node in two of them
pub record CanTurn (net : Network) (slots : List (Option Store)) : Type 0 where
  pub each : (v : ℕ) (p : Store) → slot_at slots v ≡ Some p → IsInNet net p.lists
  pub apart : (u v : ℕ) (p q : Store) (w : ℕ) → slot_at slots u ≡ Some p → slot_at slots v ≡ Some q → IsIn w (nodes_in p.lists) → IsIn w (nodes_in q.lists) → u ≡ v

-- a piece with its potentials in this network, which stand in the table
pub record IsPieceTurned (net : Network) (table : List Ratio) (before after : PieceLists) : Type 0 where
  pub nodes : nodes_in after ≡ nodes_in before
  pub basics : after.basics ≡ before.basics
  pub marks : after.marks ≡ before.marks
  pub potentials : HasPotentials net after
  pub stand : (n : ℕ × Ratio) → IsIn n after.nodes → at table n.0 ≡ n.1

abbrev pub IsSlotTurned : Network → List Ratio → Option Store → Option Store → Type 0
IsSlotTurned net table None after = after ≡ None
IsSlotTurned net table (Some before) after = (q : Store) × (after ≡ Some q) × IsPieceTurned net table before.lists q.lists

-- each slot is turned
pub record AreTurned (net : Network) (before after : List (Option Store)) (table : List Ratio) : Type 0 where
  pub long : length after ≡ length before
  pub each : (v : ℕ) → v < length before → IsSlotTurned net table (slot_at before v) (slot_at after v)

-- an operation of the potentials of some piece overflows
pub record PieceOverflows (net : Network) (before : List (Option Store)) (overflow : Overflow) : Type 0 where
  pub slot : ℕ
  pub piece : Store
  pub there : slot_at before slot ≡ Some piece
  pub past : IsOverflow net piece.lists overflow

abbrev pub IsTurnCause : Network → List (Option Store) → PotentialRefusal → Type 0
IsTurnCause net before (refusal.Past overflow) = PieceOverflows net before overflow
IsTurnCause net before refusal.Memory = ⊤
