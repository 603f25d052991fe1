-- Augmented forests: the basic arcs of a network fall into pieces, each a quasi-tree. Nodes and arcs are numbered.
use Rattle.std.specs.Prelude.{◌≢◌, ◌↔◌, ◌<◌, ◌≤◌, ℕ, List, map}
use Rattle.gain_graphs.specs.Field.{Field}
use Rattle.gain_graphs.specs.Arcs.{IsIn, AreDistinct, Ends, Link, Drain, Feed, Touches, AreJoined}
use Rattle.gain_graphs.specs.QuasiTrees.{IsQuasiTree}

-- the nodes below n that walks over basic links join to this one, which is the least of them, and the basic arcs that touch them
pub record IsPiece {Scalar : Type 0} (n : ℕ) (ends : ℕ → Ends Scalar) (basic : List ℕ) (least : ℕ) (nodes arcs : List ℕ) : Type 0 where
  pub nodes_once : AreDistinct nodes
  pub arcs_once : AreDistinct arcs
  pub has_least : IsIn least nodes
  pub is_least : (v : ℕ) → IsIn v nodes → least ≤ v
  pub joined : (v : ℕ) → IsIn v nodes ↔ ((v < n) × AreJoined (map ends basic) least v)
  pub touched : (a : ℕ) → IsIn a arcs ↔ (IsIn a basic × Touches nodes (ends a))

module _ {Scalar : Type 0} (field : Field Scalar) (n : ℕ) where
  open field use {zero}

  -- an arc of a network of n nodes: its ends are nodes, and a link's gain is not 0
  abbrev pub IsValid : Ends Scalar → Type 0
  IsValid (Link i j g) = (i < n) × (j < n) × (g ≢ zero)
  IsValid (Drain i) = i < n
  IsValid (Feed i) = i < n

  -- each piece is a quasi-tree
  abbrev pub IsForest : (ℕ → Ends Scalar) → List ℕ → Type 0
  IsForest ends basic = (least : ℕ) (nodes arcs : List ℕ) → IsPiece n ends basic least nodes arcs → IsQuasiTree field nodes (map ends arcs)
