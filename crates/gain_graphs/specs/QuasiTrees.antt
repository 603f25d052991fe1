-- Quasi-trees: a tree of links and one arc more. Where that closes a cycle that is not breakeven, they are the good augmented trees of Ahuja,
-- Magnanti and Orlin, Network Flows, chapter 15; where it is an arc with one end, they are trees with a half edge in Zaslavsky's gain graphs.
use Rattle.std.specs.Prelude.{◌≡◌, ◌≢◌, ◌⊎◌, ℕ, List, length}
use Rattle.gain_graphs.specs.Field.{Field}
use Rattle.gain_graphs.specs.Arcs.{IsIn, AreDistinct, Ends, Link, Drain, Feed, Step, HasOneEnd, IsWalk, AreJoined, product}

module _ {Scalar : Type 0} (field : Field Scalar) where
  open field use {zero, one}

  -- the ends of the arc are among these nodes, and the gain of a link is not 0
  abbrev pub LiesIn : List ℕ → Ends Scalar → Type 0
  LiesIn nodes (Link i j g) = IsIn i nodes × IsIn j nodes × (g ≢ zero)
  LiesIn nodes (Drain i) = IsIn i nodes
  LiesIn nodes (Feed i) = IsIn i nodes

  -- there is an arc with one end, or a closed walk that is not breakeven: the product of its gains is not 1
  abbrev pub HasExtra : List ℕ → List (Ends Scalar) → Type 0
  HasExtra nodes arcs = ((a : Ends Scalar) × IsIn a arcs × HasOneEnd a)
      ⊎ ((v : ℕ) × (steps : List (Step Scalar)) × IsIn v nodes × IsWalk arcs v steps v × (product field steps ≢ one))

  -- links join the nodes, there are as many arcs as nodes, and what is more than a tree is an arc with one end or closes a cycle that is not
  -- breakeven
  pub record IsQuasiTree (nodes : List ℕ) (arcs : List (Ends Scalar)) : Type 0 where
    pub nodes_once : AreDistinct nodes
    pub some_node : (v : ℕ) × IsIn v nodes
    pub ends_inside : (a : Ends Scalar) → IsIn a arcs → LiesIn nodes a
    pub joined : (u v : ℕ) → IsIn u nodes → IsIn v nodes → AreJoined arcs u v
    pub as_many : length arcs ≡ length nodes
    pub extra : HasExtra nodes arcs
