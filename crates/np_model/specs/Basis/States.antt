-- States of a basis: marks, flows and potentials, and the pieces of the augmented forest that the basic arcs make. Bases as good augmented
-- forests are those of Ahuja, Magnanti and Orlin, Network Flows, chapter 15.
use Rattle.std.specs.Prelude.{◌≡◌, ◌≢◌, ◌↔◌, ℕ, ◌<◌, Bool, true, false, List, length, ⊤, slice_index_or, filter}
use Rattle.std.specs.List.Sorted.{IsStrictlyIncreasing}
use Rattle.std.specs.List.{range_with_len}
use Rattle.gain_graphs.specs.Arcs.{IsIn, Touches}
use Rattle.gain_graphs.specs.Forests as graph
use Rattle.np_frac.specs.Ratio.{Ratio, zero_ratio}
use Rattle.np_frac.specs.Fits.{Fits}
use Rattle.np_model.specs.declared.arc.Ends.{Ends}
use Rattle.np_model.specs.declared.arc.NetArc.{NetArc}
use Rattle.np_model.specs.declared.log.Mark.{Mark}
use Rattle.np_model.specs.declared.log.Mark.TheVariants.{Lower, Upper, Basic}
use Rattle.np_model.specs.Network.Arcs.{reduced_cost, tail_of, head_of, IsFull}
use Rattle.np_model.specs.Network.Flows.{Network, at, Feasible}
use Rattle.np_model.specs.Basis.Graphs.{ratios, graph_of, graph_ends, arc_at, ends_at, cost_at}
use Rattle.np_model.specs.Basis.Pieces.{PieceLists, nodes_in, basics_in, marked_in}
use Rattle.np_model.specs.Rows.Potentials.{PotentialsFit}

-- ---- states

-- a mark and a flow for each arc, and a potential for each node
pub record State : Type 0 where
  pub marks : List Mark
  pub flows : List Ratio
  pub potentials : List Ratio

-- what a state, or some of its pieces, says of arcs and nodes by their numbers
pub record Values : Type 0 where
  pub mark : ℕ → Mark
  pub flow : ℕ → Ratio
  pub potential : ℕ → Ratio

abbrev pub values_of : State → Values
values_of s = record { mark = λ a. slice_index_or s.marks a Lower; flow = λ a. at s.flows a; potential = λ v. at s.potentials v }

-- an arc outside the basis stands at the bound of its mark, which is finite
abbrev pub StandsAt : NetArc → Mark → Ratio → Type 0
StandsAt a Lower amount = amount ≡ a.lower
StandsAt a Upper amount = IsFull amount a.upper
StandsAt a Basic amount = ⊤

-- the reduced cost of an arc, by the potentials at its ends
abbrev pub price : (ℕ → Ratio) → NetArc → Ratio
price potential a = reduced_cost a.ends a.cost (potential (tail_of a.ends)) (potential (head_of a.ends))

-- ---- the forest

abbrev pub is_basic : Mark → Bool
is_basic Lower = false
is_basic Upper = false
is_basic Basic = true

-- the numbers of the basic arcs
abbrev pub basics : List NetArc → (ℕ → Mark) → List ℕ
basics arcs mark = filter (λ a. is_basic (mark a)) (range_with_len 0 (length arcs))

-- ascending lists of the nodes that links of these basic arcs join, and of the basic arcs that touch them
pub record IsPartOf (net : Network) (basic nodes numbers : List ℕ) : Type 0 where
  pub nodes_ascend : IsStrictlyIncreasing nodes
  pub arcs_ascend : IsStrictlyIncreasing numbers
  pub least : ℕ
  pub is_piece : graph.IsPiece (length net.supply) (graph_of (ends_at net.arcs)) basic least nodes numbers

-- by the arcs that are marked basic
abbrev pub IsPart : Network → (ℕ → Mark) → List ℕ → List ℕ → Type 0
IsPart net mark nodes numbers = IsPartOf net (basics net.arcs mark) nodes numbers

-- the basic arcs make an augmented forest: each of its pieces is a quasi-tree
abbrev pub IsForest : Network → (ℕ → Mark) → Type 0
IsForest net mark = graph.IsForest ratios (length net.supply) (graph_of (ends_at net.arcs)) (basics net.arcs mark)

-- ---- a state

-- a feasible flow with each arc outside the basis at a bound, reduced costs of 0 on the basic arcs, flows and potentials that fit fractions,
-- an augmented forest, and no operation of the rows of potentials that overflows (a flow outside the basis is a bound, and fits)
pub record IsState (net : Network) (s : State) : Type 0 where
  pub one_mark_each : length s.marks ≡ length net.arcs
  pub one_potential_each : length s.potentials ≡ length net.supply
  pub feasible : Feasible net s.flows
  pub at_bounds : (a : ℕ) → a < length net.arcs → StandsAt (arc_at net.arcs a) ((values_of s).mark a) (at s.flows a)
  pub priced : (a : ℕ) → IsIn a (basics net.arcs (values_of s).mark) → price (values_of s).potential (arc_at net.arcs a) ≡ zero_ratio
  pub flows_fit : (a : ℕ) → IsIn a (basics net.arcs (values_of s).mark) → Fits (at s.flows a)
  pub potentials_fit : (v : ℕ) → v < length net.supply → Fits (at s.potentials v)
  pub forest : IsForest net (values_of s).mark
  pub rows_fit : (nodes numbers : List ℕ) → IsPart net (values_of s).mark nodes numbers
      → PotentialsFit (ends_at net.arcs) (cost_at net.arcs) numbers (values_of s).potential

-- ---- its pieces

-- the lists are those that these values have on the nodes of the piece
pub record IsReadOff (net : Network) (s : Values) (piece : PieceLists) : Type 0 where
  pub marks_ascend : IsStrictlyIncreasing (marked_in piece)
  pub potentials : (n : ℕ × Ratio) → IsIn n piece.nodes → n.1 ≡ s.potential n.0
  pub basic : (b : ℕ × Ends × Ratio) → IsIn b piece.basics → (b.1 ≡ ends_at net.arcs b.0) × (b.2 ≡ s.flow b.0)
  pub marked : (a : ℕ) → IsIn a (marked_in piece) ↔ ((a < length net.arcs) × (s.mark a ≢ Basic) × Touches (nodes_in piece) (graph_ends (ends_at net.arcs a)))
  pub marks : (m : ℕ × Mark) → IsIn m piece.marks → m.1 ≡ s.mark m.0

-- a piece of the forest, with what the values say of it
pub record IsPieceOf (net : Network) (s : Values) (piece : PieceLists) : Type 0 where
  pub part : IsPart net s.mark (nodes_in piece) (basics_in piece)
  pub read_off : IsReadOff net s piece
