-- The order in which the rows of a piece are made: its extra arc, and the links that hang off it. (This project's own.)
use Rattle.std.specs.Prelude.{◌≡◌, ◌⊎◌, ℕ, List, [], ◌∷◌, ◌++◌, map}
use Rattle.gain_graphs.specs.Arcs.{IsIn, AreJoined}
use Rattle.gain_graphs.specs.Cycles.{arcs_along, nodes_along, Joins, IsLeastFirst}
use Rattle.np_model.specs.declared.arc.Ends.{Ends}
use Rattle.np_model.specs.Basis.Graphs.{graph_of}
use Rattle.np_model.specs.Basis.Artificial.{IsOneEndAt}

-- an arc with one end, and its node; or the cycle, from its least node along the lower of its two arcs there: each arc with the node that it
-- leads to
pub data Extra : Type 0 where
  OneEnd : ℕ → ℕ → Extra
  Round : ℕ → List (ℕ × ℕ) → Extra

-- its node, or its least one
abbrev pub root : Extra → ℕ
root (OneEnd a v) = v
root (Round k way) = k

abbrev pub extra_arcs : Extra → List ℕ
extra_arcs (OneEnd a v) = a ∷ []
extra_arcs (Round k way) = arcs_along way

abbrev pub extra_nodes : Extra → List ℕ
extra_nodes (OneEnd a v) = v ∷ []
extra_nodes (Round k way) = nodes_along way

-- the arc leads from the node u to the node v on the way from k, and is not its last
abbrev pub IsOnRound : ℕ → List (ℕ × ℕ) → ℕ → ℕ → ℕ → Type 0
IsOnRound k [] a u v = ⊥
IsOnRound k (x ∷ []) a u v = ⊥
IsOnRound k (x ∷ y ∷ way) a u v = ((a ≡ x.0) × (u ≡ k) × (v ≡ x.1)) ⊎ IsOnRound x.1 (y ∷ way) a u v

-- of a piece with these arcs, whose ends are told by number
module _ (ends : ℕ → Ends) (arcs : List ℕ) where
  -- it is the extra arc of the piece
  abbrev pub IsExtra : Extra → Type 0
  IsExtra (OneEnd a v) = IsIn a arcs × IsOneEndAt v (ends a)
  IsExtra (Round k way) = IsLeastFirst (graph_of ends) arcs k way

  -- a link off the extra arc, with its near end u and its far end v: without the link u is still joined to the extra arc
  pub record Hangs (x : Extra) (a u v : ℕ) : Type 0 where
    pub before : List ℕ
    pub after : List ℕ
    pub split : before ++ a ∷ after ≡ arcs
    pub off : ¬ IsIn a (extra_arcs x)
    pub joins : Joins (graph_of ends a) u v
    pub near : AreJoined (map (graph_of ends) (before ++ after)) u (root x)

  -- the arc leads outwards from u to v: on the cycle too each node but the least comes from the one before it
  abbrev pub Leads : Extra → ℕ → ℕ → ℕ → Type 0
  Leads (OneEnd b k) a u v = Hangs (OneEnd b k) a u v
  Leads (Round k way) a u v = Hangs (Round k way) a u v ⊎ IsOnRound k way a u v
