-- Cycles as lists: each entry is the number of an arc and the node that it leads to. A list leads a way from some node; which, is said beside it.
use Rattle.std.specs.Prelude.{◌≡◌, ◌≢◌, ◌⊎◌, ◌<◌, ◌≤◌, ℕ, List, [], ◌∷◌, cond, nat_eq, ⊤}
use Rattle.gain_graphs.specs.Field.{Field}
use Rattle.gain_graphs.specs.Arcs.{IsIn, AreDistinct, Ends, Link, Drain, Feed}

-- the arcs of a way in order, and the nodes that they lead to
abbrev pub arcs_along : List (ℕ × ℕ) → List ℕ
arcs_along [] = []
arcs_along (x ∷ way) = x.0 ∷ arcs_along way

abbrev pub nodes_along : List (ℕ × ℕ) → List ℕ
nodes_along [] = []
nodes_along (x ∷ way) = x.1 ∷ nodes_along way

-- its last arc, and a where there is none
abbrev pub last_arc : ℕ → List (ℕ × ℕ) → ℕ
last_arc a [] = a
last_arc a (x ∷ way) = last_arc x.0 way

-- its first arc has a lower number than its last one
abbrev pub GoesUp : List (ℕ × ℕ) → Type 0
GoesUp [] = ⊥
GoesUp (x ∷ way) = x.0 < last_arc x.0 way

-- it has an arc
abbrev pub HasArc : List (ℕ × ℕ) → Type 0
HasArc [] = ⊥
HasArc (x ∷ way) = ⊤

module _ {Scalar : Type 0} where
  -- the arc is a link between these nodes, in one direction or the other
  abbrev pub Joins : Ends Scalar → ℕ → ℕ → Type 0
  Joins (Link i j g) u v = ((u ≡ i) × (v ≡ j)) ⊎ ((u ≡ j) × (v ≡ i))
  Joins (Drain i) u v = ⊥
  Joins (Feed i) u v = ⊥

  -- a link's ends are two nodes
  abbrev pub IsNoLoop : Ends Scalar → Type 0
  IsNoLoop (Link i j g) = i ≢ j
  IsNoLoop (Drain i) = ⊤
  IsNoLoop (Feed i) = ⊤

module _ {Scalar : Type 0} (ends : ℕ → Ends Scalar) where
  -- the way leads from u to v over arcs of the list
  abbrev pub IsWay : List ℕ → ℕ → List (ℕ × ℕ) → ℕ → Type 0
  IsWay arcs u [] v = u ≡ v
  IsWay arcs u (x ∷ way) v = IsIn x.0 arcs × Joins (ends x.0) u x.1 × IsWay arcs x.1 way v

  -- the way leads from this node back to it, and over no arc and to no node twice
  pub record IsCycle (arcs : List ℕ) (start : ℕ) (way : List (ℕ × ℕ)) : Type 0 where
    pub closes : IsWay arcs start way start
    pub has_arc : HasArc way
    pub arcs_once : AreDistinct (arcs_along way)
    pub nodes_once : AreDistinct (nodes_along way)

  -- the cycle begins at its least node, along the lower of its two arcs there
  pub record IsLeastFirst (arcs : List ℕ) (start : ℕ) (way : List (ℕ × ℕ)) : Type 0 where
    pub cycle : IsCycle arcs start way
    pub is_least : (v : ℕ) → IsIn v (nodes_along way) → start ≤ v
    pub goes_up : GoesUp way

module _ {Scalar : Type 0} (field : Field Scalar) where
  infixl 70 ◌⊗◌
  open field use {one, ◌⊗◌, inverse}

  -- the gain of an arc that is left at this node: of a link, inverted where the node is not its tail
  abbrev pub gain_from : Ends Scalar → ℕ → Scalar
  gain_from (Link i j g) u = cond (nat_eq u i) g (inverse g)
  gain_from (Drain i) u = one
  gain_from (Feed i) u = one

  -- the product of the gains along a way from this node
  abbrev pub gain_along : (ℕ → Ends Scalar) → ℕ → List (ℕ × ℕ) → Scalar
  gain_along ends u [] = one
  gain_along ends u (x ∷ way) = gain_from (ends x.0) u ⊗ gain_along ends x.1 way
