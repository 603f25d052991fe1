-- The slots at which the ends of an arc were seen, and what is told of the pieces taken from them. (This project's own.)
use Rattle.std.specs.Prelude.{◌≡◌, ◌==◌, ◌⊎◌, ℕ, ◌+◌, List, [], ◌∷◌, ◌++◌, map, cond, nat_lt, Option, Some, None, ⊤}
use Rattle.gain_graphs.specs.Arcs.{IsIn}
use Rattle.np_model.specs.declared.arc.Ends.{Ends}
use Rattle.np_model.specs.declared.arc.Ends.TheVariants.{Link, Drain, Feed}
use Rattle.np_model.specs.Basis.Pieces.{PieceLists, nodes_in, least_node}
use Rattle.tree_table.specs.Passes.{View}
use Rattle.tree_table.specs.Replay.{HasSeen}
use Rattle.tree_table.specs.Slots.{LiesAt, lying_at}
use Rattle.tree_table.specs.Weights.{AreAmong}
use Rattle.pivot_workers.specs.declared.seeing.Seen.{Seen}
use Rattle.pivot_workers.specs.Openings.{named_for}

-- ---- where the ends were seen

-- the slots named for the ends, that of the tail or of the one end first
abbrev pub seen_at : List ℕ → Ends → Seen
seen_at openings (Link from to gain) = record { first = named_for openings from; second = Some (named_for openings to) }
seen_at openings (Drain at) = record { first = named_for openings at; second = None }
seen_at openings (Feed at) = record { first = named_for openings at; second = None }

-- a second slot is there exactly for a link
abbrev pub HasSecond : Ends → Option ℕ → Type 0
HasSecond (Link from to gain) None = ⊥
HasSecond (Link from to gain) (Some slot) = ⊤
HasSecond (Drain at) None = ⊤
HasSecond (Drain at) (Some slot) = ⊥
HasSecond (Feed at) None = ⊤
HasSecond (Feed at) (Some slot) = ⊥

-- one slot or two, in their order, each once
abbrev pub in_order : ℕ → Option ℕ → List ℕ
in_order a None = a ∷ []
in_order a (Some b) = cond (b == a) (a ∷ []) (cond (nat_lt a b) (a ∷ b ∷ []) (b ∷ a ∷ []))

abbrev pub slots_of : Seen → List ℕ
slots_of seen = in_order seen.first seen.second

-- a piece with the node is there, and its slot is this one
abbrev pub IsSeatedAt : List PieceLists → ℕ → ℕ → Type 0
IsSeatedAt now slot v = (piece : PieceLists) × IsIn piece now × IsIn v (nodes_in piece) × (least_node piece ≡ slot)

-- what was seen is right: of each end it names the slot of the piece that has it at present
abbrev pub AreRight : List PieceLists → Ends → ℕ → Option ℕ → Type 0
AreRight now (Link from to gain) a None = ⊥
AreRight now (Link from to gain) a (Some b) = IsSeatedAt now a from × IsSeatedAt now b to
AreRight now (Drain at) a b = IsSeatedAt now a at
AreRight now (Feed at) a b = IsSeatedAt now a at

abbrev pub IsRight : List PieceLists → Ends → Seen → Type 0
IsRight now ends seen = AreRight now ends seen.first seen.second

-- ---- takes

-- looks that found these slots at home
abbrev pub hits : List ℕ → List (ℕ × ℕ)
hits slots = map (λ k. (k + 1, 0)) slots

-- each piece has its slot
abbrev pub LieAt : List ℕ → List PieceLists → Type 0
LieAt [] [] = ⊤
LieAt [] (p ∷ ps) = ⊥
LieAt (k ∷ ks) [] = ⊥
LieAt (k ∷ ks) (p ∷ ps) = LiesAt k p × LieAt ks ps

-- each of these slots was found at home, and the pieces got there are among those that the pass has seen
pub record HasTaken (v w : View) (slots : List ℕ) : Type 0 where
  pub looks : w.looks ≡ v.looks ++ hits slots
  pub lie : LieAt slots w.got
  pub now : List PieceLists
  pub seen : HasSeen v now
  pub there : AreAmong w.got now

-- the slots before this one were found at home, and then no piece was at home in this one: its claim word showed this; with all shares no piece
-- has the slot
pub record IsMissed (v w : View) (slots : List ℕ) (slot word : ℕ) : Type 0 where
  pub not_home : (word ≡ 1) ⊎ (word ≡ 2)
  pub before : List ℕ
  pub after : List ℕ
  pub place : slots ≡ before ++ slot ∷ after
  pub looks : w.looks ≡ v.looks ++ (hits before ++ (slot + 1, word) ∷ [])
  pub none_there : v.shares ≡ 64 → (word ≡ 2) × ((now : List PieceLists) × HasSeen v now × (lying_at slot now ≡ 0))
