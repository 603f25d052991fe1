-- The laws of directions and of pivots.
use Rattle.std.specs.Prelude.{◌≡◌, ◌≢◌, ◌⊎◌, ◌↔◌, ℕ, ◌<◌, ◌≤◌, Bool, true, false, List, [], ◌∷◌, map, length}
use Rattle.gain_graphs.specs.Arcs.{IsIn, Touches, AreJoined}
use Rattle.gain_graphs.specs.QuasiTrees.{IsQuasiTree}
use Rattle.np_frac.specs.Ratio.{Ratio, zero_ratio, one_ratio, negated, ◌≤ᵣ◌, ◌<ᵣ◌}
use Rattle.np_model.specs.declared.arc.Ends.{Ends}
use Rattle.np_model.specs.declared.arc.Ends.TheVariants.{Drain}
use Rattle.np_model.specs.declared.arc.Upper.TheVariants.{Infinite}
use Rattle.np_model.specs.declared.arc.NetArc.{NetArc}
use Rattle.np_model.specs.declared.log.Entry.{Entry}
use Rattle.np_model.specs.declared.log.Mark.TheVariants.{Lower, Basic}
use Rattle.np_model.specs.declared.network.FullNet.{FullNet}
use Rattle.np_model.specs.declared.phase.Phase.TheVariants.{One}
use Rattle.np_model.specs.Network.Arcs.{IsFinite}
use Rattle.np_model.specs.Network.Flows.{Network, at}
use Rattle.np_model.specs.Network.Duality.{Ray}
use Rattle.np_model.specs.Basis.Graphs.{ratios, graph_ends, graph_of, arc_at, ends_at, cost_at}
use Rattle.np_model.specs.Basis.Phases.{phase_net, real_arcs}
use Rattle.np_model.specs.Basis.Pieces.{PieceLists, nodes_in, nodes_of, basics_of, AreApart}
use Rattle.np_model.specs.Basis.States.{State, Values, values_of, basics, IsPartOf, IsForest, IsPieceOf, IsState}
use Rattle.np_model.specs.Basis.Moves.{sign, KeepsBounds, IsDirection, IsEligible}
use Rattle.np_model.specs.Basis.Pivots.{node_numbers, arc_numbers, IsPivot}
use Rattle.np_model.specs.Basis.Sound.{values_in, IsInNet, AreSound, AreOneOrTwo, AreInOrder, HoldEnds, IsAfter}
use Rattle.np_basis.specs.Laws.{HasSoundArcs}
use Rattle.np_model.specs.Basis.Needed.{AreNeededFor, IsDirectionOf, IsMoveOf, AreBasicAfter}

-- ---- directions of pieces

-- pieces of the network that share no node
pub record AreInNet (net : Network) (pieces : List PieceLists) : Type 0 where
  pub each : (p : PieceLists) → IsIn p pieces → IsInNet net p
  pub apart : AreApart pieces

-- an arc of the network that may enter: its ends are nodes of the pieces, and it is basic in none of them
pub record MayEnter (net : Network) (pieces : List PieceLists) (enter : ℕ) : Type 0 where
  pub below : enter < length net.arcs
  pub ends : HoldEnds pieces (ends_at net.arcs enter)
  pub not_basic : ¬ IsIn enter (basics_of pieces)

-- an arc enters upwards with an amount of 1, and downwards with -1
abbrev pub unit_of : Bool → Ratio
unit_of true = one_ratio
unit_of false = negated one_ratio

-- an arc that may enter has a direction with any amount on it
abbrev pub DirectionExists : Type 0
DirectionExists = (net : Network) (pieces : List PieceLists) (enter : ℕ) (by : Ratio) → HasSoundArcs net → AreInNet net pieces
    → MayEnter net pieces enter → (d : ℕ → Ratio) × IsDirectionOf net pieces enter by d

-- and no other with this amount
abbrev pub DirectionIsUnique : Type 0
DirectionIsUnique = (net : Network) (pieces : List PieceLists) (enter : ℕ) (by : Ratio) (d e : ℕ → Ratio) → HasSoundArcs net → AreInNet net pieces
    → MayEnter net pieces enter → IsDirectionOf net pieces enter by d → IsDirectionOf net pieces enter by e
    → (a : ℕ) → IsIn a (enter ∷ basics_of pieces) → d a ≡ e a

-- ---- directions of a whole basis

-- a direction over all nodes and arcs, where these values mark the basic arcs
abbrev pub IsDirectionIn : Network → Values → ℕ → Ratio → (ℕ → Ratio) → Type 0
IsDirectionIn net s enter by d = IsDirection net (node_numbers net) (arc_numbers net) (basics net.arcs s.mark) enter by d

-- an arc outside the basis has a direction with any amount on it
abbrev pub WholeDirectionExists : Type 0
WholeDirectionExists = (net : Network) (s : Values) (enter : ℕ) (by : Ratio) → HasSoundArcs net → IsForest net s.mark → enter < length net.arcs
    → s.mark enter ≢ Basic → (d : ℕ → Ratio) × IsDirectionIn net s enter by d

-- and no other with this amount
abbrev pub WholeDirectionIsUnique : Type 0
WholeDirectionIsUnique = (net : Network) (s : Values) (enter : ℕ) (by : Ratio) (d e : ℕ → Ratio) → HasSoundArcs net → IsForest net s.mark
    → enter < length net.arcs → s.mark enter ≢ Basic → IsDirectionIn net s enter by d → IsDirectionIn net s enter by e
    → (a : ℕ) → a < length net.arcs → d a ≡ e a

-- ---- pieces of a state

-- a network of sound arcs, of which the first ones, so many, are real
pub record HasRealArcs (net : Network) (real : ℕ) : Type 0 where
  pub sound : HasSoundArcs net
  pub few : real ≤ length net.arcs

-- pieces of what these values say, that share no node
pub record ArePiecesOf (net : Network) (s : Values) (pieces : List PieceLists) : Type 0 where
  pub each : (p : PieceLists) → IsIn p pieces → IsPieceOf net s p
  pub apart : AreApart pieces

-- a direction of these pieces, and 0 on every other arc
pub record IsLocal (net : Network) (pieces : List PieceLists) (enter : ℕ) (by : Ratio) (d : ℕ → Ratio) : Type 0 where
  pub there : IsDirectionOf net pieces enter by d
  pub off : (a : ℕ) → a < length net.arcs → (¬ IsIn a (enter ∷ basics_of pieces)) → d a ≡ zero_ratio

-- the direction of a state is that of the pieces that hold the ends of its arc, and 0 off them
abbrev pub DirectionIsLocal : Type 0
DirectionIsLocal = (net : Network) (s : State) (pieces : List PieceLists) (enter : ℕ) (by : Ratio) (d : ℕ → Ratio) → HasSoundArcs net → IsState net s
    → ArePiecesOf net (values_of s) pieces → MayEnter net pieces enter → IsDirectionIn net (values_of s) enter by d → IsLocal net pieces enter by d

-- ---- moves

-- a bound stands ahead of an arc that moves by d: its lower bound where it falls, and its upper one, if it has one, where it rises
abbrev pub HasBoundAhead : NetArc → Ratio → Type 0
HasBoundAhead a d = (d <ᵣ zero_ratio) ⊎ ((zero_ratio <ᵣ d) × IsFinite a.upper)

-- where a bound stands ahead of some arc of a direction, there is a move along it
abbrev pub MoveExists : Type 0
MoveExists = (net : Network) (pieces : List PieceLists) (enter : ℕ) (d : ℕ → Ratio) (a : ℕ) → HasSoundArcs net → AreSound net pieces
    → MayEnter net pieces enter → IsDirectionOf net pieces enter (sign ((values_in net pieces).mark enter)) d
    → IsIn a (enter ∷ basics_of pieces) → HasBoundAhead (arc_at net.arcs a) (d a)
    → (entry : Entry) × (entry.enter ≡ enter) × (t : Ratio) × IsMoveOf net pieces entry d t

-- and no other by the same entering arc
abbrev pub MoveIsUnique : Type 0
MoveIsUnique = (net : Network) (pieces : List PieceLists) (x y : Entry) (d e : ℕ → Ratio) (t u : Ratio) → HasSoundArcs net → AreInNet net pieces
    → MayEnter net pieces x.enter → x.enter ≡ y.enter → IsMoveOf net pieces x d t → IsMoveOf net pieces y e u → (x ≡ y) × (t ≡ u)

-- ---- pivots

-- a pivot keeps every other piece than those that hold the ends of its entering arc, with its potentials, flows and marks
abbrev pub OthersAreKept : Type 0
OthersAreKept = (net : Network) (real : ℕ) (s : State) (entry : Entry) (after : State) (pieces : List PieceLists) (other : PieceLists)
    → HasRealArcs net real → IsState net s → IsPivot net real s entry after → ArePiecesOf net (values_of s) pieces
    → HoldEnds pieces (ends_at net.arcs entry.enter) → IsPieceOf net (values_of s) other
    → ((v : ℕ) → IsIn v (nodes_in other) → ¬ IsIn v (nodes_of pieces)) → IsPieceOf net (values_of after) other

-- pieces of the state after, on the nodes of these pieces
pub record ArePiecesAfter (net : Network) (pieces : List PieceLists) (after : State) (others : List PieceLists) : Type 0 where
  pub pieces_of : ArePiecesOf net (values_of after) others
  pub same_nodes : (v : ℕ) → IsIn v (nodes_of pieces) ↔ IsIn v (nodes_of others)

-- pieces become others by a pivot exactly where the state whose pieces they are has a pivot by the same entry, after which the others are its
-- pieces on the same nodes
abbrev pub AfterIsExactly : Type 0
AfterIsExactly = (net : Network) (real : ℕ) (s : State) (entry : Entry) (pieces others : List PieceLists) → HasRealArcs net real → IsState net s
    → ArePiecesOf net (values_of s) pieces → AreOneOrTwo pieces → AreInOrder others → HoldEnds pieces (ends_at net.arcs entry.enter)
    → IsAfter net real pieces entry others ↔ ((after : State) × IsPivot net real s entry after × ArePiecesAfter net pieces after others)

-- a state becomes another where these pieces stand in place of what it says of their nodes and of the arcs that touch them
pub record IsReplaced (net : Network) (s : State) (pieces : List PieceLists) (after : State) : Type 0 where
  pub marks_in : (a : ℕ) → a < length net.arcs → Touches (nodes_of pieces) (graph_ends (ends_at net.arcs a))
      → (values_of after).mark a ≡ (values_in net pieces).mark a
  pub marks_off : (a : ℕ) → a < length net.arcs → (¬ Touches (nodes_of pieces) (graph_ends (ends_at net.arcs a)))
      → (values_of after).mark a ≡ (values_of s).mark a
  pub flows_in : (a : ℕ) → a < length net.arcs → Touches (nodes_of pieces) (graph_ends (ends_at net.arcs a))
      → at after.flows a ≡ (values_in net pieces).flow a
  pub flows_off : (a : ℕ) → a < length net.arcs → (¬ Touches (nodes_of pieces) (graph_ends (ends_at net.arcs a))) → at after.flows a ≡ at s.flows a
  pub potentials_in : (v : ℕ) → IsIn v (nodes_of pieces) → at after.potentials v ≡ (values_in net pieces).potential v
  pub potentials_off : (v : ℕ) → v < length net.supply → (¬ IsIn v (nodes_of pieces)) → at after.potentials v ≡ at s.potentials v

-- so the state after a pivot is the one before with its new pieces in place of the old ones
abbrev pub PivotReplaces : Type 0
PivotReplaces = (net : Network) (real : ℕ) (s : State) (entry : Entry) (after : State) (pieces others : List PieceLists) → HasRealArcs net real
    → IsState net s → ArePiecesOf net (values_of s) pieces → HoldEnds pieces (ends_at net.arcs entry.enter) → IsPivot net real s entry after
    → ArePiecesAfter net pieces after others → IsReplaced net s others after

-- ---- the pieces that an arc needs

-- one or two pieces of what these values say that are needed for these ends, and hold them
pub record Needed (net : Network) (s : Values) (ends : Ends) : Type 0 where
  pub pieces : List PieceLists
  pub pieces_of : ArePiecesOf net s pieces
  pub few : AreOneOrTwo pieces
  pub needed : AreNeededFor pieces ends
  pub hold : HoldEnds pieces ends

-- each arc has such pieces
abbrev pub PiecesHold : Type 0
PiecesHold = (net : Network) (s : Values) (a : ℕ) → HasSoundArcs net → a < length net.arcs → Needed net s (ends_at net.arcs a)

-- a pivot on the pieces that its entering arc needs gives one or two pieces on their nodes, and they are in order
abbrev pub AtMostTwo : Type 0
AtMostTwo = (net : Network) (real : ℕ) (s : State) (entry : Entry) (after : State) (pieces : List PieceLists) → HasRealArcs net real → IsState net s
    → ArePiecesOf net (values_of s) pieces → AreNeededFor pieces (ends_at net.arcs entry.enter) → IsPivot net real s entry after
    → (others : List PieceLists) × AreInOrder others × ArePiecesAfter net pieces after others

-- the state before and the entry determine the state after
abbrev pub PivotIsUnique : Type 0
PivotIsUnique = (net : Network) (real : ℕ) (s : State) (entry : Entry) (x y : State) → HasRealArcs net real → IsState net s
    → IsPivot net real s entry x → IsPivot net real s entry y → x ≡ y

-- and so do pieces of a state and the entry the pieces after
abbrev pub AfterIsUnique : Type 0
AfterIsUnique = (net : Network) (real : ℕ) (s : State) (entry : Entry) (pieces others same : List PieceLists) → HasRealArcs net real → IsState net s
    → ArePiecesOf net (values_of s) pieces → IsAfter net real pieces entry others → IsAfter net real pieces entry same → others ≡ same

-- ---- the exchange of pieces, with no state at hand

-- where the direction moves the leaving arc, each part of these arcs with a node of the pieces is a quasi-tree
abbrev pub TreesAfter : Type 0
TreesAfter = (net : Network) (pieces : List PieceLists) (enter leave : ℕ) (by : Ratio) (d : ℕ → Ratio) (now nodes numbers : List ℕ) (v : ℕ)
    → HasSoundArcs net → AreInNet net pieces → MayEnter net pieces enter → IsDirectionOf net pieces enter by d
    → IsIn leave (enter ∷ basics_of pieces) → d leave ≢ zero_ratio → AreBasicAfter pieces enter leave now
    → IsPartOf net now nodes numbers → IsIn v nodes → IsIn v (nodes_of pieces)
    → IsQuasiTree ratios nodes (map (graph_of (ends_at net.arcs)) numbers)

-- each of their nodes lies in such a part, which has no other nodes than theirs
abbrev pub PartAfterExists : Type 0
PartAfterExists = (net : Network) (pieces : List PieceLists) (enter leave : ℕ) (now : List ℕ) (v : ℕ) → HasSoundArcs net → AreInNet net pieces
    → MayEnter net pieces enter → AreBasicAfter pieces enter leave now → IsIn v (nodes_of pieces)
    → (nodes : List ℕ) × (numbers : List ℕ) × IsPartOf net now nodes numbers × IsIn v nodes × ((u : ℕ) → IsIn u nodes → IsIn u (nodes_of pieces))

-- and where the entering arc needs the pieces, each node is joined to one of two: so there are one or two parts
abbrev pub TwoRoots : Type 0
TwoRoots = (net : Network) (pieces : List PieceLists) (enter leave : ℕ) (now : List ℕ) → HasSoundArcs net → AreInNet net pieces
    → MayEnter net pieces enter → AreNeededFor pieces (ends_at net.arcs enter) → IsIn leave (enter ∷ basics_of pieces)
    → AreBasicAfter pieces enter leave now → (x : ℕ) × (y : ℕ) × IsIn x (nodes_of pieces) × IsIn y (nodes_of pieces)
    × ((u : ℕ) → IsIn u (nodes_of pieces) → AreJoined (map (graph_of (ends_at net.arcs)) now) u x ⊎ AreJoined (map (graph_of (ends_at net.arcs)) now) u y)

-- ---- stage one

-- a direction falls on one of these arcs, and so some step along it goes below the lower bound there
pub record ComesToBound (net : Network) (s : Values) (numbers : List ℕ) (d : ℕ → Ratio) : Type 0 where
  pub arc : ℕ
  pub is_one : IsIn arc numbers
  pub falls : d arc <ᵣ zero_ratio
  pub step : Ratio
  pub forwards : zero_ratio ≤ᵣ step
  pub too_far : ¬ KeepsBounds net s numbers d step

-- where no arc costs less than 0, the direction of an eligible arc comes to a bound
abbrev pub NoRayAtNonnegativeCosts : Type 0
NoRayAtNonnegativeCosts = (net : Network) (real : ℕ) (pieces : List PieceLists) (enter : ℕ) (d : ℕ → Ratio) → HasRealArcs net real
    → ((a : ℕ) → a < length net.arcs → zero_ratio ≤ᵣ cost_at net.arcs a) → AreSound net pieces → HoldEnds pieces (ends_at net.arcs enter)
    → IsEligible net real (values_in net pieces) enter → IsDirectionOf net pieces enter (sign ((values_in net pieces).mark enter)) d
    → ComesToBound net (values_in net pieces) (enter ∷ basics_of pieces) d

-- so it does in stage one
abbrev pub NoRayInStageOne : Type 0
NoRayInStageOne = (full : FullNet) (pieces : List PieceLists) (enter : ℕ) (d : ℕ → Ratio) → AreSound (phase_net One full) pieces
    → HoldEnds pieces (ends_at (phase_net One full).arcs enter)
    → IsEligible (phase_net One full) (real_arcs full) (values_in (phase_net One full) pieces) enter
    → IsDirectionOf (phase_net One full) pieces enter (sign ((values_in (phase_net One full) pieces).mark enter)) d
    → ComesToBound (phase_net One full) (values_in (phase_net One full) pieces) (enter ∷ basics_of pieces) d

-- and each eligible arc has a move
abbrev pub MoveInStageOne : Type 0
MoveInStageOne = (full : FullNet) (pieces : List PieceLists) (enter : ℕ) → AreSound (phase_net One full) pieces
    → HoldEnds pieces (ends_at (phase_net One full).arcs enter)
    → IsEligible (phase_net One full) (real_arcs full) (values_in (phase_net One full) pieces) enter
    → (entry : Entry) × (entry.enter ≡ enter) × (d : ℕ → Ratio) × (t : Ratio) × IsMoveOf (phase_net One full) pieces entry d t

-- ---- rays

-- where no bound stands ahead of any arc, the direction of an eligible arc of a state is a ray: the cost falls along it without end
abbrev pub DirectionIsRay : Type 0
DirectionIsRay = (net : Network) (real : ℕ) (s : State) (enter : ℕ) (d : ℕ → Ratio) → HasRealArcs net real → IsState net s
    → IsEligible net real (values_of s) enter → IsDirectionIn net (values_of s) enter (sign ((values_of s).mark enter)) d
    → ((a : ℕ) → a < length net.arcs → ¬ HasBoundAhead (arc_at net.arcs a) (d a)) → Ray net s.flows (map d (arc_numbers net))

-- ---- an example

-- a node of supply 1 with two drains, one that costs nothing and one that costs 1
abbrev pub drain_of : Ratio → NetArc
drain_of cost = record { ends = Drain 0; lower = zero_ratio; upper = Infinite; cost = cost }

abbrev pub two_drains : Network
two_drains = record { supply = one_ratio ∷ []; arcs = drain_of zero_ratio ∷ drain_of one_ratio ∷ [] }

-- the dear drain is basic and takes the supply; the cheap one enters, and takes it all
abbrev pub by_dear : State
by_dear = record { marks = Lower ∷ Basic ∷ []; flows = zero_ratio ∷ one_ratio ∷ []; potentials = one_ratio ∷ [] }

abbrev pub by_cheap : State
by_cheap = record { marks = Basic ∷ Lower ∷ []; flows = one_ratio ∷ zero_ratio ∷ []; potentials = zero_ratio ∷ [] }

-- these are states, and a pivot between them
pub record HasPivot : Type 0 where
  pub ground : HasRealArcs two_drains 2
  pub state : IsState two_drains by_dear
  pub pivot : IsPivot two_drains 2 by_dear (record { enter = 0; leave = 1; leave_at = Lower }) by_cheap
