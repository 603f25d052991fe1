-- The extra arc of a piece, by places: how it is found, and what is found. (This project's own.)
use Rattle.std.specs.Prelude.{◌≡◌, ◌≢◌, ◌<◌, ◌≤◌, ◌==◌, ℕ, ◌⊎◌, ◌+◌, List, [], ◌∷◌, ◌++◌, length, take, drop, reverse, slice_set, slice_index, slice_index_or, if◌then◌else◌, ⊤}
use Rattle.std.specs.List.{All}
use Rattle.gain_graphs.specs.Arcs.{IsIn, AreDistinct, HasOneEnd}
use Rattle.np_frac.specs.Ratio.{Ratio}
use Rattle.np_model.specs.declared.arc.Ends.{Ends}
use Rattle.np_model.specs.Basis.Graphs.{graph_ends}
use Rattle.np_model.specs.Rows.Extra.{Extra, OneEnd, Round, IsExtra}
use Rattle.tree_search.specs.declared.piece.Step.{Step}
use Rattle.tree_search.specs.declared.piece.Joint.{Joint}
use Rattle.tree_search.specs.declared.piece.ExtraArc.{ExtraArc}
use Rattle.tree_search.specs.declared.piece.ExtraArc.TheVariants as found
use Rattle.tree_search.specs.declared.search.Search.{Search}
use Rattle.tree_search.specs.Places.{loose, number_by_place, ends_by_place, numbers_of_arcs, AreEndsOf}
use Rattle.tree_search.specs.Search.{AreNodesBelow, JoinsAt, fars, step_arcs, IsSearch, IsClosed}

-- ---- what is found

-- the places of a step lie in the lists
abbrev pub IsPlaced : List ℕ → List (ℕ × Ends × Ratio) → Step → Type 0
IsPlaced nodes basics s = (s.arc < length basics) × (s.near < length nodes) × (s.far < length nodes)

-- each step is left from the node that the one before it leads to, the first from the node v
abbrev pub Follows : List ℕ → ℕ → List Step → Type 0
Follows nodes v [] = ⊤
Follows nodes v (s ∷ steps) = (slice_index nodes s.near ≡ v) × Follows nodes (slice_index nodes s.far) steps

-- the node where the steps begin
abbrev pub first_node : List ℕ → List Step → ℕ
first_node nodes [] = 0
first_node nodes (s ∷ steps) = slice_index nodes s.near

-- steps by numbers: each arc with the node that it leads to
abbrev pub way_of : List ℕ → List (ℕ × Ends × Ratio) → List Step → List (ℕ × ℕ)
way_of nodes basics [] = []
way_of nodes basics (s ∷ steps) = (number_by_place basics s.arc, slice_index nodes s.far) ∷ way_of nodes basics steps

-- the extra arc by numbers
abbrev pub as_extra : List ℕ → List (ℕ × Ends × Ratio) → List Joint → ExtraArc → Extra
as_extra nodes basics joints (found.OneEnd arc) = OneEnd (number_by_place basics arc) (slice_index nodes (slice_index_or joints arc loose).from)
as_extra nodes basics joints (found.Round cycle) = Round (first_node nodes cycle.items) (way_of nodes basics cycle.items)

-- it lies in the lists: an arc with one end, or steps that follow one another and lead to no node twice
abbrev pub IsLaidOut : List ℕ → List (ℕ × Ends × Ratio) → ExtraArc → Type 0
IsLaidOut nodes basics (found.OneEnd arc) = (arc < length basics) × HasOneEnd (graph_ends (ends_by_place basics arc))
IsLaidOut nodes basics (found.Round cycle) = (0 < length cycle.items) × All (λ step. IsPlaced nodes basics step) cycle.items
    × AreDistinct (fars cycle.items) × Follows nodes (first_node nodes cycle.items) cycle.items

-- it is the extra arc of the piece
pub record IsFound (nodes : List ℕ) (basics : List (ℕ × Ends × Ratio)) (joints : List Joint) (extra : ExtraArc) : Type 0 where
  pub laid_out : IsLaidOut nodes basics extra
  pub is_extra : (ends : ℕ → Ends) → AreEndsOf ends basics → IsExtra ends (numbers_of_arcs basics) (as_extra nodes basics joints extra)

-- the places of its nodes
abbrev pub starts_of : List Joint → ExtraArc → List ℕ
starts_of joints (found.OneEnd arc) = (slice_index_or joints arc loose).from ∷ []
starts_of joints (found.Round cycle) = fars cycle.items

-- a search over n nodes can begin at them
abbrev pub CanBeginAt : ℕ → List Joint → ExtraArc → Type 0
CanBeginAt n joints (found.OneEnd arc) = arc < length joints
CanBeginAt n joints (found.Round cycle) = AreNodesBelow n (fars cycle.items) × AreDistinct (fars cycle.items)

-- ---- how it is found

-- the step the other way
abbrev pub flip : Step → Step
flip s = record { arc = s.arc; near = s.far; far = s.near }

abbrev pub flips : List Step → List Step
flips [] = []
flips (s ∷ steps) = flip s ∷ flips steps

-- the way from a node back to where a search began, by its steps from the last one on
abbrev pub back_from : List Step → ℕ → List Step
back_from [] v = []
back_from (s ∷ earlier) v = if s.far == v then flip s ∷ back_from earlier s.near else back_from earlier v

-- the steps follow one another from u to v, each over an arc between two nodes
abbrev pub IsChain : List Joint → ℕ → List Step → ℕ → Type 0
IsChain joints u [] v = u ≡ v
IsChain joints u (s ∷ steps) v = (s.near ≡ u) × JoinsAt joints s.arc s.near s.far × (s.near ≢ s.far) × IsChain joints s.far steps v

-- at place `i` is a step to the least node
pub record IsLeastEnd (steps : List Step) (i : ℕ) : Type 0 where
  pub inside : i < length steps
  pub least : (j : ℕ) (s : Step) → j < length steps → (slice_index_or steps i s).far ≤ (slice_index_or steps j s).far

abbrev pub last_step : ℕ → List Step → ℕ
last_step a [] = a
last_step a (s ∷ steps) = last_step s.arc steps

-- the first arc is before the last
abbrev pub StepsUp : List Step → Type 0
StepsUp [] = ⊥
StepsUp (s ∷ steps) = s.arc < last_step s.arc steps

-- the round from its least node, the one way or the other
pub record IsTurned (round cycle : List Step) : Type 0 where
  pub at : ℕ
  pub least : IsLeastEnd round at
  pub turned : ((cycle ≡ drop (at + 1) round ++ take (at + 1) round) × StepsUp cycle)
      ⊎ ((cycle ≡ flips (reverse (drop (at + 1) round ++ take (at + 1) round))) × (¬ StepsUp (drop (at + 1) round ++ take (at + 1) round)))

-- a search over all arcs leaves this one over
pub record IsRest (joints : List Joint) (n arc : ℕ) : Type 0 where
  pub inside : arc < length joints
  pub search : Search
  pub is_search : IsSearch joints n (0 ∷ []) search
  pub closed : IsClosed joints search.queue.items
  pub unused : ¬ IsIn arc (step_arcs search.steps.items)

-- its tail, and the arc cut off there
abbrev pub tail_at : List Joint → ℕ → ℕ
tail_at joints arc = (slice_index_or joints arc loose).from

abbrev pub head_at : List Joint → ℕ → ℕ
head_at joints arc = (slice_index_or joints arc loose).to

abbrev pub cut_off : List Joint → ℕ → List Joint
cut_off joints arc = slice_set joints arc (record { from = tail_at joints arc; to = tail_at joints arc })

-- the way back from the arc's head to its tail over the other arcs, and then the arc
pub record ClosesRound (joints : List Joint) (n arc : ℕ) (round : List Step) : Type 0 where
  pub search : Search
  pub is_search : IsSearch (cut_off joints arc) n (tail_at joints arc ∷ []) search
  pub closed : IsClosed (cut_off joints arc) search.queue.items
  pub is : round ≡ back_from (reverse search.steps.items) (head_at joints arc) ++ record { arc = arc; near = tail_at joints arc; far = head_at joints arc } ∷ []

-- the cycle that the arc left over closes, from its least node
pub record IsCycleOf (joints : List Joint) (n : ℕ) (cycle : List Step) : Type 0 where
  pub arc : ℕ
  pub rest : IsRest joints n arc
  pub round : List Step
  pub closes : ClosesRound joints n arc round
  pub turned : IsTurned round cycle
