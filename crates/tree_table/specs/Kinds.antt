-- The kinds of atomic step, and what each does to its own pass. A step is one on a word: it tells of the pass before, the number found in the
-- word, and the pass after. (This project's own.)
use Rattle.std.specs.Prelude.{◌≡◌, ◌≢◌, ◌≤◌, ◌⊎◌, ℕ, ◌+◌, ◌-◌, ◌/◌, List, [], ◌∷◌, ◌++◌, length, slice_index, Option, Some, None}
use mathlib.Core.Option.{some}
use lib.ListN.{get_elem?}
use Rattle.atomic_table.specs.Table.{State, Me, Step, rest}
use Rattle.np_model.specs.Basis.Pieces.{PieceLists}
use Rattle.np_model.specs.declared.log.Entry.{Entry}
use Rattle.np_model.specs.declared.phase.Phase.TheVariants.{One}
use Rattle.tree_table.specs.Weights.{AreAmong, times, without}
use Rattle.tree_table.specs.Slots.{LiesAt, lying_at, lacking}
use Rattle.tree_table.specs.Passes.{View}
use Rattle.tree_table.specs.Replay.{HasSeen, AreBelow}
use Rattle.tree_table.specs.Whole.{IsWhole}

-- ---- the pass after a step

-- a look more, at a word that showed this
abbrev pub looking : View → ℕ → ℕ → View
looking v word found = record v { looks = v.looks ++ (word, found) ∷ [] }

-- the pieces got by the last takes: with nothing in hand the list begins anew
abbrev pub got_with : List PieceLists → List PieceLists → PieceLists → List PieceLists
got_with [] got piece = piece ∷ []
got_with (held ∷ more) got piece = got ++ piece ∷ []

-- take: the piece is in hand, and its slot is taken
abbrev pub taking : View → ℕ → PieceLists → View
taking v k piece = record {
  opening = v.opening;
  shares = v.shares;
  hands = v.hands ++ piece ∷ [];
  slots = k ∷ v.slots;
  entries = v.entries;
  got = got_with v.hands v.got piece;
  looks = v.looks;
}

-- put: neither is
abbrev pub putting : View → ℕ → View
putting v k = record v { hands = lacking k v.hands; slots = without k v.slots }

-- ticket: one entry more, of a pivot on all that is in hand; the pieces after it are in hand
abbrev pub pivoting : View → ℕ → Entry → List PieceLists → View
pivoting v ticket entry after = record v { hands = after; entries = v.entries ++ (ticket, record { entry = entry; before = v.hands; after = after }) ∷ [] }

-- open and shut: one slot more, or less, is taken
abbrev pub opening_slot : View → ℕ → View
opening_slot v k = record v { slots = k ∷ v.slots }

abbrev pub shutting : View → ℕ → View
shutting v k = record v { slots = without k v.slots }

-- fork: half of the shares, rounded down, go to a new pass
abbrev pub half : View → View
half v = record v { shares = v.shares - v.shares / 2 }

abbrev pub other_half : View → View
other_half v = record { opening = v.opening; shares = v.shares / 2; hands = []; slots = []; entries = []; got = []; looks = [] }

-- fold: shares, entries and looks of both; the other pass is spent
abbrev pub folded : View → View → View
folded v w = record v { shares = v.shares + w.shares; entries = v.entries ++ w.entries; looks = v.looks ++ w.looks }

abbrev pub spent_view : View
spent_view = record {
  opening = record { net = record { supply = []; arcs = [] }; artificial = []; phase = One; pieces = [] };
  shares = 0;
  hands = [];
  slots = [];
  entries = [];
  got = [];
  looks = [];
}

-- ---- what a step tells

module _ {T : Type 0} where
  -- the slot k stood at home, with a piece that there is now beside those in hand
  abbrev pub Took : (T → PieceLists) → Me (Option T) View → ℕ → Me (Option T) View → Type 0
  Took lists m k n = (piece : T) × LiesAt k (lists piece) × ((now : List PieceLists) × HasSeen m.0 now × AreAmong (m.0.hands ++ lists piece ∷ []) now)
      × (n ≡ (taking (looking m.0 (k + 1) 0) k (lists piece), (k, Some piece) ∷ m.1))

  -- it did not: it is taken or empty; with all shares, and where neither the slot nor a piece of it is with this pass, it is empty, and no piece
  -- that there is now has it
  abbrev pub Missed : Me (Option T) View → ℕ → ℕ → Me (Option T) View → Type 0
  Missed m k found n = (n ≡ (looking m.0 (k + 1) found, m.1)) × ((found ≡ 1) ⊎ (found ≡ 2))
      × (m.0.shares ≡ 64 → times k m.0.slots ≡ 0 → lying_at k m.0.hands ≡ 0 → (found ≡ 2) × ((now : List PieceLists) × HasSeen m.0 now × (lying_at k now ≡ 0)))

  abbrev pub tried : (T → PieceLists) → Step (Option T) → Me (Option T) View → ℕ → Me (Option T) View → Type 0
  tried lists st m found n = (k : ℕ) → st.word ≡ k + 1 → (found ≡ 0 → Took lists m k n) × (found ≢ 0 → Missed m k found n)

  abbrev pub put : Step (Option T) → Me (Option T) View → ℕ → Me (Option T) View → Type 0
  put st m found n = (k : ℕ) → st.word ≡ k + 1 → n ≡ (putting m.0 k, rest m.1)

  abbrev pub opened : Step (Option T) → Me (Option T) View → ℕ → Me (Option T) View → Type 0
  opened st m found n = (k : ℕ) → st.word ≡ k + 1 → (found ≡ 2) × (n ≡ (opening_slot m.0 k, (k, None) ∷ m.1))

  abbrev pub shut : Step (Option T) → Me (Option T) View → ℕ → Me (Option T) View → Type 0
  shut st m found n = (k : ℕ) → st.word ≡ k + 1 → n ≡ (shutting m.0 k, rest m.1)

  -- the ticket is above those that the pass has; with all shares it is the number of its entries
  abbrev pub ticketed : Entry → List PieceLists → Step (Option T) → Me (Option T) View → ℕ → Me (Option T) View → Type 0
  ticketed entry after st m found n =
      (n ≡ (pivoting m.0 found entry after, m.1)) × AreBelow found m.0.entries × (m.0.shares ≡ 64 → found ≡ length m.0.entries)

  -- the whole table at the moment at which the clock showed this
  pub record IsWholeAt (lists : T → PieceLists) (v : View) (found : ℕ) : Type 0 where
    pub state : State (Option T) View
    pub whole : IsWhole lists v.opening state
    pub is_pass : (id : ℕ) × (get_elem? state.views id ≡ some v)
    pub clock : slice_index state.words 0 ≡ found

  -- fork and fold look at the clock
  abbrev pub looked : (T → PieceLists) → Step (Option T) → Me (Option T) View → ℕ → Me (Option T) View → Type 0
  looked lists st m found n = (n ≡ (looking m.0 0 found, m.1)) × (m.0.shares ≤ 64) × IsWholeAt lists m.0 found
