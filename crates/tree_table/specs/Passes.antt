-- What a pass of a table shows, as plain data. (This project's own.)
use Rattle.std.specs.Prelude.{◌≡◌, ℕ, ◌<◌, List, [], length}
use Rattle.atomic_table.specs.Seated.{TableId}
use Rattle.np_model.specs.Basis.Pieces.{PieceLists}
use Rattle.np_model.specs.Basis.Phases.{network_of}
use Rattle.np_model.specs.Network.Flows.{Network}
use Rattle.np_model.specs.declared.arc.Ends.{Ends}
use Rattle.np_model.specs.declared.log.Entry.{Entry}
use Rattle.np_model.specs.declared.network.FullNet.{FullNet}
use Rattle.np_model.specs.declared.phase.Phase.{Phase}

-- a pivot that was made: its entry, all pieces that its pass had in hand before it, and those after it
pub record Pivoted : Type 0 where
  pub entry : Entry
  pub before : List PieceLists
  pub after : List PieceLists

-- what a table was set up with: a network with its artificial arcs, a phase, and the pieces of the opening state
pub record Opening : Type 0 where
  pub net : Network
  pub artificial : List Ends
  pub phase : Phase
  pub pieces : List PieceLists

abbrev pub opening_of : FullNet → Phase → List PieceLists → Opening
opening_of full phase pieces = record { net = network_of full.net; artificial = full.artificial; phase = phase; pieces = pieces }

-- what a pass shows: what its table was set up with; its shares; the pieces in its hands; the slots that it has taken, the last one first;
-- its entries with their tickets; the pieces that it got by its last takes; and its looks, each a word and the value found in it
pub record View : Type 0 where
  pub opening : Opening
  pub shares : ℕ
  pub hands : List PieceLists
  pub slots : List ℕ
  pub entries : List (ℕ × Pivoted)
  pub got : List PieceLists
  pub looks : List (ℕ × ℕ)

-- an open pass has a share at least; a pass that was folded is spent, and has nothing
abbrev pub IsOpen : View → Type 0
IsOpen v = 0 < v.shares

pub record IsSpent (v : View) : Type 0 where
  pub no_share : v.shares ≡ 0
  pub no_hands : v.hands ≡ []
  pub no_slots : v.slots ≡ []
  pub no_entries : v.entries ≡ []

-- nothing is in hand, and no slot is taken
abbrev pub IsIdle : View → Type 0
IsIdle v = (v.hands ≡ []) × (v.slots ≡ [])

-- the first pass of a table, with all shares: at first all pieces are in its hands, and then all are home
abbrev pub opening_view : Opening → View
opening_view opening = record { opening = opening; shares = 64; hands = opening.pieces; slots = []; entries = []; got = []; looks = [] }

abbrev pub first_view : Opening → View
first_view opening = record { opening = opening; shares = 64; hands = []; slots = []; entries = []; got = []; looks = [] }

-- a table has a slot for each node of its network
abbrev pub slot_count : View → ℕ
slot_count v = length v.opening.net.supply

-- a pass as clauses see it: its table, its number there, what it shows, and for how many more entries it has room
pub record PassState : Type 0 where
  pub table : TableId
  pub id : ℕ
  pub view : View
  pub spare : ℕ
