-- Laws of lists compared by weight, and of the pieces that a pass has seen. (This project's own.)
use Rattle.std.specs.Prelude.{◌≡◌, ℕ, ◌+◌, List, map, length}
use Rattle.gain_graphs.specs.Arcs.{IsIn}
use Rattle.np_model.specs.Basis.Pieces.{PieceLists}
use Rattle.np_model.specs.declared.log.Entry.{Entry}
use Rattle.tree_table.specs.Weights.{weigh, AreAmong, AreSame}
use Rattle.tree_table.specs.Passes.{Pivoted, Opening, View, first_view}
use Rattle.tree_table.specs.Replay.{numbered, HasSeen, Turns, Becomes}
use Rattle.tree_table.specs.Kinds.{pivoting}
use Rattle.tree_table.specs.Calls.{emptied}

-- pieces that are among others are members of them
abbrev pub MembersAreThere : Type 0
MembersAreThere = (pieces among : List PieceLists) (piece : PieceLists) → AreAmong among pieces → IsIn piece among → IsIn piece pieces

-- and there are the pieces beside them
abbrev pub OthersAreLeft : Type 0
OthersAreLeft = (pieces among : List PieceLists) → AreAmong among pieces
    → (others : List PieceLists) × ((f : PieceLists → ℕ) → weigh f others + weigh f among ≡ weigh f pieces)

-- at first a pass has seen the opening pieces
abbrev pub OpeningIsSeen : Type 0
OpeningIsSeen = (opening : Opening) → HasSeen (first_view opening) opening.pieces

-- what a pass has seen rests on what its table was set up with, on its entries and on its shares alone
abbrev pub SeenIsKept : Type 0
SeenIsKept = (v w : View) (now : List PieceLists) → w.opening ≡ v.opening → w.entries ≡ v.entries → w.shares ≡ v.shares → HasSeen v now → HasSeen w now

-- a pass with all shares has seen one state
abbrev pub OneIsSeen : Type 0
OneIsSeen = (v : View) (now other : List PieceLists) → v.shares ≡ 64 → HasSeen v now → HasSeen v other → AreSame now other

-- and after its next pivot it has seen the state in which the pieces after it are in the place of those before it
abbrev pub NextIsSeen : Type 0
NextIsSeen = (v : View) (now : List PieceLists) (entry : Entry) (after : List PieceLists) → v.shares ≡ 64 → HasSeen v now → AreAmong v.hands now
    → Becomes v.opening v.hands entry after
    → (next : List PieceLists) × Turns v.opening now (record { entry = entry; before = v.hands; after = after }) next
    × HasSeen (emptied (pivoting v (length v.entries) entry after)) next

-- logs whose pivots are the same under the same tickets have the same entries, in the same order
abbrev pub LogIsOne : Type 0
LogIsOne = (log other : List Pivoted) → AreSame (numbered 0 log) (numbered 0 other) → map (λ pivoted. pivoted.entry) log ≡ map (λ pivoted. pivoted.entry) other
