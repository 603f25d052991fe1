-- The rule of the table. Word 0 is the clock, and word k + 1 is the claim word of the slot k: 0 is HOME, 1 is TAKEN, and 2 is EMPTY. (This
-- project's own.)
use Rattle.std.specs.Prelude.{◌≡◌, ℕ, ◌+◌, ◌^◌, ◌<◌, ◌≤◌, List, length, slice_index, Option, Some, None}
use mathlib.Core.Option as maybe
use mathlib.Core.Option.{none, some}
use lib.ListN.{get_elem?}
use Rattle.atomic_table.specs.Table.{State}
use Rattle.np_model.specs.Basis.Pieces.{PieceLists}
use Rattle.tree_table.specs.Weights.{weigh, times}
use Rattle.tree_table.specs.Slots.{LiesAt, having}
use Rattle.tree_table.specs.Passes.{Pivoted, Opening, View, IsOpen, IsSpent}
use Rattle.tree_table.specs.Replay.{numbered, LeadsTo}

-- a pass of a table that was set up so: it is spent, or it shows what the table was set up with; and the number of each slot that it has taken
-- is a node in its hands
pub record IsPass (opening : Opening) (v : View) : Type 0 where
  pub spent : v.shares ≡ 0 → IsSpent v
  pub same_opening : IsOpen v → v.opening ≡ opening
  pub few_entries : length v.entries < 2 ^ 32
  pub owns : (k : ℕ) → times k v.slots ≤ having k v.hands

module _ {T : Type 0} (lists : T → PieceLists) where
  -- what the piece weighs that is at home in a slot; a slot that is out with a pass has none
  abbrev pub weight_at_home : (PieceLists → ℕ) → maybe.Option (Option T) → ℕ
  weight_at_home f none = 0
  weight_at_home f (some None) = 0
  weight_at_home f (some (Some piece)) = f (lists piece)

  -- the claim word of the slot k, by how many passes have taken it and by what is at home there
  abbrev pub Claims : ℕ → ℕ → ℕ → maybe.Option (Option T) → Type 0
  Claims k word taken none = (word ≡ 1) × (taken ≡ 1)
  Claims k word taken (some None) = (word ≡ 2) × (taken ≡ 0)
  Claims k word taken (some (Some piece)) = (word ≡ 0) × (taken ≡ 0) × LiesAt k (lists piece)

  pub record IsWhole (opening : Opening) (s : State (Option T) View) : Type 0 where
    -- the pieces that there are now, and the pivots that were made until now
    pub now : List PieceLists
    pub log : List Pivoted
    -- there is a claim word for each slot
    pub one_each : length s.words ≡ length s.homes + 1
    -- all open passes show one network, one phase and one opening state, and their shares are 64 together
    pub shares : weigh (λ v. v.shares) s.views ≡ 64
    pub passes : (id : ℕ) (v : View) → get_elem? s.views id ≡ some v → IsPass opening v
    -- the tickets of all entries are the numbers below the clock, each once, and in their order the entries lead from the opening pieces to
    -- those that there are now
    pub clock : slice_index s.words 0 ≡ length log
    pub entries : (f : ℕ × Pivoted → ℕ) → weigh f (numbered 0 log) ≡ weigh (λ v. weigh f v.entries) s.views
    pub leads : LeadsTo opening opening.pieces log now
    -- each piece is at home or in the hands of one pass, and not both; nothing else is; and no node is in two pieces
    pub pieces : (f : PieceLists → ℕ) → weigh f now ≡ weigh (weight_at_home f) s.homes + weigh (λ v. weigh f v.hands) s.views
    pub apart : (u : ℕ) → having u now ≤ 1
    -- a claim word is HOME where a piece is at home in its slot, TAKEN where one pass has taken it, and else EMPTY
    pub claims : (k : ℕ) (home : maybe.Option (Option T)) → get_elem? s.homes k ≡ some home
        → Claims k (slice_index s.words (k + 1)) (weigh (λ v. times k v.slots) s.views) home
