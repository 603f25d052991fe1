-- What the calls ask and tell. (This project's own.)
use Rattle.std.specs.Prelude.{◌≡◌, ℕ, ◌+◌, ◌⊎◌, List, [], ◌∷◌, ◌++◌, map}
use Rattle.std.specs.List.Sorted.{IsStrictlyIncreasing}
use Rattle.np_model.specs.Basis.Pieces.{PieceLists, least_node}
use Rattle.np_model.specs.declared.log.Entry.{Entry}
use Rattle.np_model.specs.declared.piece.Hands.{Hands}
use Rattle.np_model.specs.declared.piece.Hands.TheVariants as held
use Rattle.tree_table.specs.declared.calls.Taken.{Taken}
use Rattle.tree_table.specs.declared.calls.Taken.TheVariants as taken
use Rattle.tree_table.specs.declared.calls.TakenTwo.{TakenTwo}
use Rattle.tree_table.specs.declared.calls.TakenTwo.TheVariants as two
use Rattle.tree_table.specs.declared.table.TreeTable.{TreeTable}
use Rattle.tree_table.specs.Weights.{AreAmong, AreSame}
use Rattle.tree_table.specs.Slots.{LiesAt, lying_at}
use Rattle.tree_table.specs.Passes.{Pivoted, View, PassState}
use Rattle.tree_table.specs.Replay.{HasSeen, LeadsTo, numbered}

-- the pass is one of this table
abbrev pub IsOf : {T : Type 0} → TreeTable T → PassState → Type 0
IsOf table pass = pass.table ≡ table.table.shared.table_id

-- it is still the same pass of the same table
abbrev pub Stays : PassState → PassState → Type 0
Stays p q = (q.table ≡ p.table) × (q.id ≡ p.id)

-- nothing is in hand, and no slot is taken
abbrev pub emptied : View → View
emptied v = record v { hands = []; slots = [] }

-- ---- take

-- the piece has this slot, and is one of the pieces that the pass has seen, beside those in its hands
pub record IsGot (v : View) (slot : ℕ) (piece : PieceLists) : Type 0 where
  pub lies : LiesAt slot piece
  pub now : List PieceLists
  pub seen : HasSeen v now
  pub there : AreAmong (v.hands ++ piece ∷ []) now

-- the word is TAKEN or EMPTY; with all shares it is EMPTY, and no piece that the pass has seen has the slot
pub record IsBusy (v : View) (slot word : ℕ) : Type 0 where
  pub not_home : (word ≡ 1) ⊎ (word ≡ 2)
  pub none_there : v.shares ≡ 64 → (word ≡ 2) × ((now : List PieceLists) × HasSeen v now × (lying_at slot now ≡ 0))

-- the pass with a piece in hand, after a look at the claim word of its slot that found HOME
abbrev pub with_one : View → ℕ → PieceLists → View
with_one v slot piece = record {
  opening = v.opening;
  shares = v.shares;
  hands = piece ∷ [];
  slots = slot ∷ [];
  entries = v.entries;
  got = piece ∷ [];
  looks = v.looks ++ (slot + 1, 0) ∷ [];
}

-- and with a second one, of a later slot
abbrev pub with_two : View → ℕ → ℕ → PieceLists → PieceLists → View
with_two v first second a b = record {
  opening = v.opening;
  shares = v.shares;
  hands = a ∷ b ∷ [];
  slots = second ∷ first ∷ [];
  entries = v.entries;
  got = a ∷ b ∷ [];
  looks = (v.looks ++ (first + 1, 0) ∷ []) ++ (second + 1, 0) ∷ [];
}

-- with nothing in hand, after a look at the claim word of the slot that found this word
abbrev pub with_none : View → ℕ → ℕ → View
with_none v slot word = record {
  opening = v.opening;
  shares = v.shares;
  hands = [];
  slots = [];
  entries = v.entries;
  got = v.got;
  looks = v.looks ++ (slot + 1, word) ∷ [];
}

-- with nothing in hand, after the first piece was taken, the second slot was found so, and the first piece was put back
abbrev pub put_again : View → ℕ → ℕ → PieceLists → ℕ → View
put_again v first second piece word = record {
  opening = v.opening;
  shares = v.shares;
  hands = [];
  slots = [];
  entries = v.entries;
  got = piece ∷ [];
  looks = (v.looks ++ (first + 1, 0) ∷ []) ++ (second + 1, word) ∷ [];
}

-- both pieces were got, one after the other
pub record AreGot (v : View) (first second : ℕ) (a b : PieceLists) : Type 0 where
  pub first_got : IsGot v first a
  pub second_got : IsGot (with_one v first a) second b

-- the last look found a word other than HOME: that at the first slot, or, after the first piece was got, that at the second one
abbrev pub IsBusyTwo : View → ℕ → ℕ → ℕ → ℕ → View → Type 0
IsBusyTwo v first second slot word after =
    ((slot ≡ first) × IsBusy v first word × (after ≡ with_none v first word))
    ⊎ ((slot ≡ second) × IsBusy v second word × ((piece : PieceLists) × IsGot v first piece × (after ≡ put_again v first second piece word)))

module _ {T : Type 0} where
  abbrev pub MatchTaken : Taken T → (T → Type 0) → (ℕ → Type 0) → Type 0
  MatchTaken (taken.Piece piece) P B = P piece
  MatchTaken (taken.Busy word) P B = B word

  abbrev pub MatchTwo : TakenTwo T → (T → T → Type 0) → (ℕ → ℕ → Type 0) → Type 0
  MatchTwo (two.Both a b) P B = P a b
  MatchTwo (two.Busy slot word) P B = B slot word

  -- the lists of one piece, or of two
  abbrev pub lists_in : (T → PieceLists) → Hands T → List PieceLists
  lists_in lists (held.One a) = lists a ∷ []
  lists_in lists (held.Two a b) = lists a ∷ lists b ∷ []

-- ---- close

-- the entries, in the order of their tickets from 0, lead from the opening pieces to pieces of which these are all, by ascending slot; and they
-- are all entries of the pass
pub record IsClosed (v : View) (pieces : List PieceLists) (entries : List Entry) : Type 0 where
  pub log : List Pivoted
  pub now : List PieceLists
  pub leads : LeadsTo v.opening v.opening.pieces log now
  pub whole : AreSame v.entries (numbered 0 log)
  pub entries_are : entries ≡ map (λ pivoted. pivoted.entry) log
  pub pieces_are : AreSame now pieces
  pub ascend : IsStrictlyIncreasing (map least_node pieces)
