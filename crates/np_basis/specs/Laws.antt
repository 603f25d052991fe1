-- The laws of states, of their pieces, and of the rows of a piece.
use Rattle.std.specs.Prelude.{◌≡◌, ◌≢◌, ℕ, ◌+◌, ◌<◌, List, [], ◌∷◌, length, Ok}
use Rattle.std.specs.List.{All}
use Rattle.gain_graphs.specs.Arcs.{IsIn, Touches}
use Rattle.gain_graphs.specs.Cycles.{IsNoLoop}
use Rattle.gain_graphs.specs.QuasiTrees.{LiesIn}
use Rattle.np_frac.specs.Ratio.{Ratio, zero_ratio, one_ratio, ◌*ᵣ◌, ◌<ᵣ◌, total}
use Rattle.np_frac.specs.Fits.{Fits}
use Rattle.np_model.specs.declared.arc.Ends.{Ends}
use Rattle.np_model.specs.declared.arc.Ends.TheVariants.{Link}
use Rattle.np_model.specs.declared.arc.Upper.TheVariants.{Infinite}
use Rattle.np_model.specs.declared.arc.NetArc.{NetArc}
use Rattle.np_model.specs.declared.network.FullNet.{FullNet}
use Rattle.np_model.specs.declared.phase.Phase.{Phase}
use Rattle.np_model.specs.declared.phase.Phase.TheVariants.{One}
use Rattle.np_model.specs.Network.Arcs.{coefficient}
use Rattle.np_model.specs.Network.Flows.{Network, at}
use Rattle.np_model.specs.Network.Duality.{reduced}
use Rattle.np_model.specs.Network.Nets.{IsSoundArc}
use Rattle.np_model.specs.Basis.Artificial.{AreArtificial}
use Rattle.np_model.specs.Basis.Graphs.{graph_of, arc_at, ends_at, cost_at, ratios}
use Rattle.np_model.specs.Basis.Phases.{with_artificial, phase_net}
use Rattle.np_model.specs.Basis.Pieces.{PieceLists, nodes_in, basics_in, HasShape, AreApart, nodes_of}
use Rattle.np_model.specs.Basis.States.{State, Values, values_of, price, IsPart, IsPieceOf, IsState, StandsAt}
use Rattle.np_model.specs.Basis.Starts.{artificial_ends, start_state, start_net, start_piece, ResidualsFit}
use Rattle.np_model.specs.Basis.Sound.{IsInNet, AreSound, values_in}
use Rattle.np_model.specs.Rows.Extra.{Extra, Round, IsExtra}
use Rattle.np_model.specs.Rows.Potentials as potentials
use Rattle.np_model.specs.Rows.Directions as directions
use Rattle.np_model.specs.Rows.Potentials.{ArePriced}

-- the arcs of the network are those of a valid one
abbrev pub HasSoundArcs : Network → Type 0
HasSoundArcs net = All (IsSoundArc (length net.supply)) net.arcs

-- ---- full networks

-- a full network is valid in each phase
abbrev pub FullIsSound : Type 0
FullIsSound = (phase : Phase) (net : Network) (artificial : List Ends) → HasSoundArcs net → AreArtificial (length net.supply) artificial
    → HasSoundArcs (with_artificial phase net artificial)

-- so a full network is by its type
abbrev pub FullNetIsSound : Type 0
FullNetIsSound = (phase : Phase) (full : FullNet) → HasSoundArcs (phase_net phase full)

-- the artificial arcs of the start are such
abbrev pub StartIsArtificial : Type 0
StartIsArtificial = (net : Network) → AreArtificial (length net.supply) (artificial_ends net)

-- ---- the start

-- where the residuals fit, the start is a state of stage one
abbrev pub StartIsState : Type 0
StartIsState = (net : Network) → HasSoundArcs net → ResidualsFit net → IsState (start_net One net) (start_state net)

-- each of its pieces is a node alone, with its artificial arc
abbrev pub StartIsSingles : Type 0
StartIsSingles = (net : Network) (nodes numbers : List ℕ) → IsPart (start_net One net) (values_of (start_state net)).mark nodes numbers
    → (v : ℕ) × (v < length net.supply) × (nodes ≡ v ∷ []) × (numbers ≡ (length net.arcs + v) ∷ [])

-- and each node alone is one
abbrev pub SingleIsPart : Type 0
SingleIsPart = (net : Network) (v : ℕ) → v < length net.supply
    → IsPart (start_net One net) (values_of (start_state net)).mark (v ∷ []) ((length net.arcs + v) ∷ [])

-- the lists of the piece of a node have the shape of a piece
abbrev pub StartPieceHasShape : Type 0
StartPieceHasShape = (net : Network) (v : ℕ) → HasShape (start_piece net v)

-- and they are the piece of that node in the start state
abbrev pub StartPieceIsPiece : Type 0
StartPieceIsPiece = (net : Network) (v : ℕ) → v < length net.supply → IsPieceOf (start_net One net) (values_of (start_state net)) (start_piece net v)

-- ---- the pieces of a state

-- each node lies in a piece
abbrev pub PieceExists : Type 0
PieceExists = (net : Network) (s : Values) (v : ℕ) → HasSoundArcs net → v < length net.supply
    → (piece : PieceLists) × IsPieceOf net s piece × IsIn v (nodes_in piece)

-- and in no other
abbrev pub PieceIsUnique : Type 0
PieceIsUnique = (net : Network) (s : Values) (piece other : PieceLists) (v : ℕ) → IsPieceOf net s piece → IsPieceOf net s other
    → IsIn v (nodes_in piece) → IsIn v (nodes_in other) → piece ≡ other

-- pieces of a state that share no node are sound
abbrev pub PiecesAreSound : Type 0
PiecesAreSound = (net : Network) (s : State) (pieces : List PieceLists) → IsState net s
    → ((p : PieceLists) → IsIn p pieces → IsPieceOf net (values_of s) p) → AreApart pieces → AreSound net pieces

-- pieces say what these values say: of the arcs that touch them, and of their nodes
pub record AgreeWith (net : Network) (s : Values) (pieces : List PieceLists) : Type 0 where
  pub marks : (a : ℕ) → a < length net.arcs → Touches (nodes_of pieces) (graph_of (ends_at net.arcs) a) → (values_in net pieces).mark a ≡ s.mark a
  pub flows : (a : ℕ) → a < length net.arcs → Touches (nodes_of pieces) (graph_of (ends_at net.arcs) a) → (values_in net pieces).flow a ≡ s.flow a
  pub potentials : (v : ℕ) → IsIn v (nodes_of pieces) → (values_in net pieces).potential v ≡ s.potential v

-- pieces of what these values say do so, where each arc outside the basis stands at its bound
abbrev pub PiecesAgree : Type 0
PiecesAgree = (net : Network) (s : Values) (pieces : List PieceLists)
    → ((a : ℕ) → a < length net.arcs → StandsAt (arc_at net.arcs a) (s.mark a) (s.flow a))
    → ((p : PieceLists) → IsIn p pieces → IsPieceOf net s p) → AgreeWith net s pieces

-- ---- potentials and node weights of a piece

-- whatever its arcs cost, a piece has potentials
abbrev pub PotentialsExist : Type 0
PotentialsExist = (net : Network) (piece : PieceLists) (cost : ℕ → Ratio) → IsInNet net piece
    → (potential : ℕ → Ratio) × ArePriced (ends_at net.arcs) cost (basics_in piece) potential

-- and no others on its nodes
abbrev pub PotentialsAreUnique : Type 0
PotentialsAreUnique = (net : Network) (piece : PieceLists) (cost p q : ℕ → Ratio) → IsInNet net piece
    → ArePriced (ends_at net.arcs) cost (basics_in piece) p → ArePriced (ends_at net.arcs) cost (basics_in piece) q
    → (v : ℕ) → IsIn v (nodes_in piece) → p v ≡ q v

-- whether an operation of their rows overflows depends on the potentials of the nodes that the arcs have alone
abbrev pub RowsAreLocal : Type 0
RowsAreLocal = (ends : ℕ → Ends) (cost : ℕ → Ratio) (nodes arcs : List ℕ) (p q : ℕ → Ratio)
    → ((a : ℕ) → IsIn a arcs → LiesIn ratios nodes (graph_of ends a)) → ((v : ℕ) → IsIn v nodes → p v ≡ q v)
    → potentials.PotentialsFit ends cost arcs p → potentials.PotentialsFit ends cost arcs q

-- the sum of node weights, each times the coefficient of the arc at its node
abbrev pub pull_on : List ℕ → Ends → (ℕ → Ratio) → Ratio
pull_on nodes ends weight = total (λ v. coefficient ends v *ᵣ weight v) nodes

-- for each basic arc there are node weights whose pull is 1 on it and 0 on every other
abbrev pub WeightsExist : Type 0
WeightsExist = (net : Network) (piece : PieceLists) (a : ℕ) → HasSoundArcs net → IsInNet net piece → IsIn a (basics_in piece)
    → (weight : ℕ → Ratio) × (pull_on (nodes_in piece) (ends_at net.arcs a) weight ≡ one_ratio)
    × ((b : ℕ) → IsIn b (basics_in piece) → b ≢ a → pull_on (nodes_in piece) (ends_at net.arcs b) weight ≡ zero_ratio)

-- the price of an arc is its reduced cost by the sum over all nodes
abbrev pub PriceIsReduced : Type 0
PriceIsReduced = (net : Network) (p : List Ratio) (a : ℕ) → HasSoundArcs net → length p ≡ length net.supply → a < length net.arcs
    → price (at p) (arc_at net.arcs a) ≡ reduced p (ends_at net.arcs a) (cost_at net.arcs a)

-- ---- the extra arc of a piece

-- the ends of a link are two nodes
abbrev pub LinksAreNoLoops : Type 0
LinksAreNoLoops = (net : Network) (a : ℕ) → HasSoundArcs net → a < length net.arcs → IsNoLoop (graph_of (ends_at net.arcs) a)

-- a piece has an arc with one end, or a cycle, from its least node along the lower of its two arcs there
abbrev pub ExtraExists : Type 0
ExtraExists = (net : Network) (piece : PieceLists) → HasSoundArcs net → IsInNet net piece
    → (x : Extra) × IsExtra (ends_at net.arcs) (basics_in piece) x

-- and one alone
abbrev pub ExtraIsUnique : Type 0
ExtraIsUnique = (net : Network) (piece : PieceLists) (x y : Extra) → IsInNet net piece → IsExtra (ends_at net.arcs) (basics_in piece) x
    → IsExtra (ends_at net.arcs) (basics_in piece) y → x ≡ y

-- ---- its divisors

-- 1 less the product round the cycle is not 0
abbrev pub PotentialsDivisor : Type 0
PotentialsDivisor = (net : Network) (piece : PieceLists) (cost : ℕ → Ratio) (k : ℕ) (way : List (ℕ × ℕ)) (last : Ratio) → HasSoundArcs net
    → IsInNet net piece → IsExtra (ends_at net.arcs) (basics_in piece) (Round k way) → potentials.divisor (ends_at net.arcs) cost k way ≡ Ok last
    → last ≢ zero_ratio

-- nor is what an amount of 1 on the first arc leaves at the least node
abbrev pub DirectionsDivisor : Type 0
DirectionsDivisor = (net : Network) (piece : PieceLists) (d : ℕ → Ratio) (k : ℕ) (first : ℕ × ℕ) (way : List (ℕ × ℕ)) (last : Ratio)
    → HasSoundArcs net → IsInNet net piece → IsExtra (ends_at net.arcs) (basics_in piece) (Round k (first ∷ way))
    → directions.divisor (ends_at net.arcs) d k first way ≡ Ok last → last ≢ zero_ratio

-- ---- examples

-- a node alone, with this supply
abbrev pub node_alone : Ratio → Network
node_alone supply = record { supply = supply ∷ []; arcs = [] }

-- where the supply fits, it has a state of stage one
abbrev pub StateExample : Type 0
StateExample = (supply : Ratio) → Fits supply → IsState (start_net One (node_alone supply)) (start_state (node_alone supply))

-- two nodes with two links between them, one of gain 1 and one of this gain
abbrev pub link_of : Ratio → NetArc
link_of gain = record { ends = Link 0 1 gain; lower = zero_ratio; upper = Infinite; cost = zero_ratio }

abbrev pub two_links : Ratio → Network
two_links gain = record { supply = zero_ratio ∷ zero_ratio ∷ []; arcs = link_of one_ratio ∷ link_of gain ∷ [] }

abbrev pub links_piece : Ratio → PieceLists
links_piece gain = record {
  nodes = (0, zero_ratio) ∷ (1, zero_ratio) ∷ [];
  basics = (0, Link 0 1 one_ratio, zero_ratio) ∷ (1, Link 0 1 gain, zero_ratio) ∷ [];
  marks = [];
}

-- where that is another gain above 0, they are a piece in a sound network, and its extra arc is the cycle of both
pub record HasRound (gain : Ratio) : Type 0 where
  pub sound : HasSoundArcs (two_links gain)
  pub in_net : IsInNet (two_links gain) (links_piece gain)
  pub is_extra : IsExtra (ends_at (two_links gain).arcs) (basics_in (links_piece gain)) (Round 0 ((0, 1) ∷ (1, 0) ∷ []))

abbrev pub RoundExample : Type 0
RoundExample = (gain : Ratio) → zero_ratio <ᵣ gain → gain ≢ one_ratio → HasRound gain
