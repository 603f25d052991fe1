-- The pieces that an entering arc needs, its direction and its move on them, and their basic arcs after it. (This project's own.)
use Rattle.std.specs.Borrow.{MutBor}
use Rattle.std.proofs.Common.{inl, inr}
use Rattle.std.specs.Prelude.{◌≢◌, ◌⊎◌, ◌↔◌, ℕ, Option, Some, None, List, [], ◌∷◌}
use Rattle.gain_graphs.specs.Arcs.{IsIn, AreDistinct}
use Rattle.np_frac.specs.Ratio.{Ratio}
use Rattle.np_model.specs.declared.arc.Ends.{Ends}
use Rattle.np_model.specs.declared.arc.Ends.TheVariants.{Link, Drain, Feed}
use Rattle.np_model.specs.declared.log.Entry.{Entry}
use Rattle.np_model.specs.declared.piece.Hands.{Hands}
use Rattle.np_model.specs.declared.piece.Hands.TheVariants.{One, Two}
use Rattle.np_model.specs.Network.Flows.{Network}
use Rattle.np_model.specs.Basis.Moves.{IsDirection, IsMove}
use Rattle.np_model.specs.Basis.Pieces.{PieceLists, nodes_in, nodes_of, basics_of}
use Rattle.np_model.specs.Basis.Sound.{values_in, HoldEnds}

-- ---- one piece or two

-- the first piece, and a second one where there is one
abbrev pub lists_of : {A : Type 0} → (A → PieceLists) → PieceLists → Option A → List PieceLists
lists_of lists first None = first ∷ []
lists_of lists first (Some second) = first ∷ lists second ∷ []

-- the lists of the one piece or the two in hand
abbrev pub lists_held : {A : Type 0} → (A → PieceLists) → Hands A → List PieceLists
lists_held lists (One piece) = lists piece ∷ []
lists_held lists (Two piece other) = lists piece ∷ lists other ∷ []

-- what stands behind an optional reference when the call returns
abbrev pub left_behind : {A : Type 0} → Unit {0} ⊎ ((MutBor A × Unit {0}) ⊎ ⊥) → Option A
left_behind (inl u) = None
left_behind (inr (inl f)) = Some f.0.now
left_behind (inr (inr z)) = None

-- a link with one end among these nodes and the other among those
abbrev pub LinksBoth : List ℕ → List ℕ → Ends → Type 0
LinksBoth ns ms (Link from to gain) = (IsIn from ns × IsIn to ms) ⊎ (IsIn from ms × IsIn to ns)
LinksBoth ns ms (Drain at) = ⊥
LinksBoth ns ms (Feed at) = ⊥

-- one piece that holds the ends of the arc, or two that it links
abbrev pub AreNeededFor : List PieceLists → Ends → Type 0
AreNeededFor [] ends = ⊥
AreNeededFor (p ∷ []) ends = HoldEnds (p ∷ []) ends
AreNeededFor (p ∷ q ∷ []) ends = LinksBoth (nodes_in p) (nodes_in q) ends
AreNeededFor (p ∷ q ∷ r ∷ rest) ends = ⊥

-- ---- the direction and the move on them

-- a direction over the nodes of the pieces, on the entering arc and their basic arcs
abbrev pub IsDirectionOf : Network → List PieceLists → ℕ → Ratio → (ℕ → Ratio) → Type 0
IsDirectionOf net pieces enter by d = IsDirection net (nodes_of pieces) (enter ∷ basics_of pieces) (basics_of pieces) enter by d

-- a move of the pieces: over their nodes, the entering arc and their basic arcs
abbrev pub IsMoveOf : Network → List PieceLists → Entry → (ℕ → Ratio) → Ratio → Type 0
IsMoveOf net pieces entry d t =
    IsMove net (values_in net pieces) (nodes_of pieces) (entry.enter ∷ basics_of pieces) (basics_of pieces) entry d t

-- the basic arcs of the pieces, after this arc came in and one of them went out
pub record AreBasicAfter (pieces : List PieceLists) (enter leave : ℕ) (now : List ℕ) : Type 0 where
  pub once : AreDistinct now
  pub are : (a : ℕ) → IsIn a now ↔ (IsIn a (enter ∷ basics_of pieces) × (a ≢ leave))
