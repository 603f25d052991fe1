-- What a search from the nodes of the extra arc finds: all that hangs off it, outwards. (This project's own.)
use Rattle.std.specs.Prelude.{◌≡◌, ◌⊎◌, ◌-◌, ℕ, List, [], ◌∷◌, ◌++◌, length, take, slice_index, ⊤}
use Rattle.gain_graphs.specs.Arcs.{IsIn}
use Rattle.np_frac.specs.Ratio.{Ratio}
use Rattle.np_model.specs.declared.arc.Ends.{Ends}
use Rattle.np_model.specs.Rows.Extra.{Extra, extra_arcs, extra_nodes, root, Hangs, Leads}
use Rattle.tree_search.specs.declared.piece.Step.{Step}
use Rattle.tree_search.specs.declared.piece.Joint.{Joint}
use Rattle.tree_search.specs.declared.piece.ExtraArc.{ExtraArc}
use Rattle.tree_search.specs.declared.piece.ExtraArc.TheVariants as found
use Rattle.tree_search.specs.declared.search.Search.{Search}
use Rattle.tree_search.specs.Places.{number_by_place, numbers_of_arcs, AreEndsOf, AreJoints, IsTree}
use Rattle.tree_search.specs.Search.{IsSearch, IsClosed}
use Rattle.tree_search.specs.Finding.{IsFound, as_extra, starts_of}

-- a step over this arc from the node u to the node v, by numbers
pub record IsStepOver (nodes : List ℕ) (basics : List (ℕ × Ends × Ratio)) (steps : List Step) (a u v : ℕ) : Type 0 where
  pub step : Step
  pub is_in : IsIn step steps
  pub arc : number_by_place basics step.arc ≡ a
  pub near : slice_index nodes step.near ≡ u
  pub far : slice_index nodes step.far ≡ v

-- the steps are the links that hang off the extra arc of the piece, and lead to each other node once
pub record AreOutwards (ends : ℕ → Ends) (nodes : List ℕ) (basics : List (ℕ × Ends × Ratio)) (x : Extra) (steps : List Step) : Type 0 where
  pub hang : (s : Step) → IsIn s steps → Hangs ends (numbers_of_arcs basics) x (number_by_place basics s.arc) (slice_index nodes s.near) (slice_index nodes s.far)
  pub all : (a u v : ℕ) → Hangs ends (numbers_of_arcs basics) x a u v → IsStepOver nodes basics steps a u v
  pub arcs : (a : ℕ) → IsIn a (numbers_of_arcs basics) → IsIn a (extra_arcs x) ⊎ ((u : ℕ) × (v : ℕ) × Hangs ends (numbers_of_arcs basics) x a u v)
  pub reach : (v : ℕ) → IsIn v nodes → IsIn v (extra_nodes x) ⊎ ((a : ℕ) × (u : ℕ) × Hangs ends (numbers_of_arcs basics) x a u v)
  pub apart : (a u v : ℕ) → Hangs ends (numbers_of_arcs basics) x a u v → ¬ IsIn v (extra_nodes x)
  pub once : (s t : Step) → IsIn s steps → IsIn t steps → slice_index nodes s.far ≡ slice_index nodes t.far → s ≡ t

-- a closed search from the nodes of the extra arc goes outwards
abbrev pub SearchesGoOutwards : Type 0
SearchesGoOutwards = (nodes : List ℕ) (basics : List (ℕ × Ends × Ratio)) (joints : List Joint) (extra : ExtraArc) (n : ℕ) (search : Search)
    → IsTree nodes basics → AreJoints nodes basics joints → IsFound nodes basics joints extra
    → IsSearch joints n (starts_of joints extra) search → IsClosed joints search.queue.items
    → (ends : ℕ → Ends) → AreEndsOf ends basics → AreOutwards ends nodes basics (as_extra nodes basics joints extra) search.steps.items

-- ---- in which order values can be carried over the piece

-- each step leads outwards from a node that was seen before
abbrev pub LeadOn : (ℕ → Ends) → List ℕ → List (ℕ × Ends × Ratio) → Extra → List ℕ → List Step → Type 0
LeadOn ends nodes basics x seen [] = ⊤
LeadOn ends nodes basics x seen (s ∷ steps) = IsIn (slice_index nodes s.near) seen
    × Leads ends (numbers_of_arcs basics) x (number_by_place basics s.arc) (slice_index nodes s.near) (slice_index nodes s.far)
    × LeadOn ends nodes basics x (slice_index nodes s.far ∷ seen) steps

-- the steps over all that leads outwards, in order from the node of the extra arc or the least of its nodes
pub record AreInOrder (ends : ℕ → Ends) (nodes : List ℕ) (basics : List (ℕ × Ends × Ratio)) (x : Extra) (steps : List Step) : Type 0 where
  pub lead : LeadOn ends nodes basics x (root x ∷ []) steps
  pub all : (a u v : ℕ) → Leads ends (numbers_of_arcs basics) x a u v → IsStepOver nodes basics steps a u v
  pub reach : (v : ℕ) → IsIn v nodes → (v ≡ root x) ⊎ ((s : Step) × IsIn s steps × (v ≡ slice_index nodes s.far))

-- the steps of the cycle but its last, and then those of a search
abbrev pub from_root : ExtraArc → List Step → List Step
from_root (found.OneEnd arc) steps = steps
from_root (found.Round cycle) steps = take (length cycle.items - 1) cycle.items ++ steps

-- with those of a closed search from the nodes of the extra arc they are such steps
abbrev pub SearchesAreInOrder : Type 0
SearchesAreInOrder = (nodes : List ℕ) (basics : List (ℕ × Ends × Ratio)) (joints : List Joint) (extra : ExtraArc) (n : ℕ) (search : Search)
    → IsTree nodes basics → AreJoints nodes basics joints → IsFound nodes basics joints extra
    → IsSearch joints n (starts_of joints extra) search → IsClosed joints search.queue.items
    → (ends : ℕ → Ends) → AreEndsOf ends basics → AreInOrder ends nodes basics (as_extra nodes basics joints extra) (from_root extra search.steps.items)
