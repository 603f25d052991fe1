-- What a worker did with a pass at the arcs of a list, and what several did. (This project's own.)
use Rattle.std.specs.Prelude.{◌≡◌, ◌==◌, ℕ, zero, suc, ◌+◌, ◌*◌, ◌≤◌, ◌⊎◌, false, List, [], ◌∷◌, ◌++◌, map, length, cond, ⊤}
use Rattle.np_model.specs.Basis.Pieces.{PieceLists}
use Rattle.np_model.specs.declared.network.FullNet.{FullNet}
use Rattle.np_model.specs.declared.phase.Phase.{Phase}
use Rattle.tree_table.specs.Calls.{Stays}
use Rattle.tree_table.specs.Passes.{Pivoted, PassState, IsIdle}
use Rattle.tree_table.specs.Replay.{HasSeen, numbered}
use Rattle.tree_table.specs.Weights.{weigh, AreAmong}
use Rattle.pivot_workers.specs.declared.report.Report.{Report}
use Rattle.pivot_workers.specs.Forests.{IsFor, OpensForest}
use Rattle.pivot_workers.specs.Sweeps.{dealt, AreVisits}

-- ---- looks and entries

-- how many of these looks are at claim words
abbrev pub takes_in : List (ℕ × ℕ) → ℕ
takes_in looks = weigh (λ look. cond (look.0 == 0) 0 1) looks

-- the pivots of entries, and the arcs that they let enter
abbrev pub pivots_of : List (ℕ × Pivoted) → List Pivoted
pivots_of entries = map (λ e. e.1) entries

abbrev pub entered : List (ℕ × Pivoted) → List ℕ
entered entries = map (λ e. e.1.entry.enter) entries

-- xs is ys with some members left out
abbrev pub IsSublist : List ℕ → List ℕ → Type 0
IsSublist [] ys = ⊤
IsSublist (x ∷ xs) [] = ⊥
IsSublist (x ∷ xs) (y ∷ ys) = ((x ≡ y) × IsSublist xs ys) ⊎ IsSublist (x ∷ xs) ys

-- the arcs at a place, at the next one, and so on, so many, with all that are gap + 1, or a multiple of it, further on
abbrev pub dealt_to : ℕ → ℕ → ℕ → List ℕ → List ℕ
dealt_to gap place zero list = []
dealt_to gap place (suc count) list = dealt gap place list ++ dealt_to gap (suc place) count list

-- ---- what was done

-- the same pass has nothing in hand, and so many entries more
pub record HasAdded (p q : PassState) (pivots : ℕ) : Type 0 where
  pub stays : Stays p q
  pub idle : IsIdle q.view
  pub shares : q.view.shares ≡ p.view.shares
  pub opening : q.view.opening ≡ p.view.opening
  pub added : List (ℕ × Pivoted)
  pub entries : q.view.entries ≡ p.view.entries ++ added
  pub count : length added ≡ pivots
  pub spare : q.spare + pivots ≡ p.spare
  pub looked : List (ℕ × ℕ)
  pub looks : q.view.looks ≡ p.view.looks ++ looked

module _ (openings : List ℕ) where
  -- the arcs were tried in order, each with a take at least, and the entries added enter some of them, in order. With all shares the tickets are the
  -- numbers from 0 on, if they were so far, and the pivots are what the arcs, visited in order, make of the pieces that there are
  pub record HasTried (p q : PassState) (arcs : List ℕ) (pivots : ℕ) : Type 0 where
    pub has_added : HasAdded p q pivots
    pub enters : IsSublist (entered has_added.added) arcs
    pub takes : length arcs ≤ takes_in has_added.looked
    pub numbered_on : p.view.shares ≡ 64 → p.view.entries ≡ numbered 0 (pivots_of p.view.entries) → q.view.entries ≡ numbered 0 (pivots_of q.view.entries)
    pub alone : p.view.shares ≡ 64 → (now : List PieceLists) → HasSeen p.view now
        → (last : List PieceLists) × AreVisits p.view.opening openings now arcs (pivots_of has_added.added) last × HasSeen q.view last

  -- the first of a worker's arcs were tried: all of them, but where there was no memory or the quota was made
  pub record HasWorked (p q : PassState) (own : List ℕ) (quota : ℕ) (report : Report) : Type 0 where
    pub tried : List ℕ
    pub left : List ℕ
    pub parts : own ≡ tried ++ left
    pub has_tried : HasTried p q tried report.pivots
    pub few : report.pivots ≤ quota
    pub ends : report.memory ≡ false → (left ≡ []) ⊎ (report.pivots ≡ quota)

-- several workers worked: the entries added enter some of their arcs, each at most as often as it stands there, and there are at most as many as
-- the quota for each worker. Where no want of memory is reported, there was a take for each of their arcs, or at least as many pivots as one quota
pub record HaveWorked (p q : PassState) (arcs : List ℕ) (count quota : ℕ) (report : Report) : Type 0 where
  pub has_added : HasAdded p q report.pivots
  pub enters : AreAmong (entered has_added.added) arcs
  pub few : report.pivots ≤ count * quota
  pub ends : report.memory ≡ false → (length arcs ≤ takes_in has_added.looked) ⊎ (quota ≤ report.pivots)

-- ---- what a pass has to be for it

-- the pass has nothing in hand, and its table was set up for this network in this phase with all pieces of a state
abbrev pub IsReady : FullNet → Phase → PassState → Type 0
IsReady full phase p = IsFor full phase p.view.opening × OpensForest p.view.opening × IsIdle p.view

-- it can do the work of so many workers
abbrev pub CanCrew : PassState → ℕ → ℕ → Type 0
CanCrew p count quota = (1 ≤ count) × (count ≤ p.view.shares) × (count * quota ≤ p.spare) × (count * quota ≤ 1000000)
