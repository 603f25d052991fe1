-- What the potentials of a piece in a network are, and where its rows give an operation that overflows.
use Rattle.std.specs.Prelude.{◌≡◌, ◌<◌, ℕ, List, length, slice_index, ⊤}
use Rattle.gain_graphs.specs.Arcs.{IsIn}
use Rattle.np_frac.specs.Ratio.{Ratio, zero_ratio}
use Rattle.np_frac.specs.Fits.{Fits}
use Rattle.np_frac.specs.declared.frac.Past.{Past}
use Rattle.np_model.specs.declared.arc.Ends.{Ends}
use Rattle.np_model.specs.declared.log.Mark.{Mark}
use Rattle.np_model.specs.declared.rows.Row.{Row}
use Rattle.np_model.specs.declared.rows.Overflow.{Overflow}
use Rattle.np_model.specs.declared.rows.Place.TheVariants.{Turn}
use Rattle.np_model.specs.Network.Flows.{Network, at}
use Rattle.np_model.specs.Basis.Graphs.{arc_at, ends_at, cost_at}
use Rattle.np_model.specs.Basis.Pieces.{PieceLists, nodes_in, basics_in, beside}
use Rattle.np_model.specs.Basis.States.{price}
use Rattle.np_model.specs.Rows.Potentials.{PotentialsFit, PotentialsGive, ArePriced}
use Rattle.tree_potentials.specs.declared.refusal.PotentialRefusal.{PotentialRefusal}
use Rattle.tree_potentials.specs.declared.refusal.PotentialRefusal.TheVariants as refusal

-- the piece with these nodes, basic arcs and marks
abbrev pub piece_of : List (ℕ × Ratio) → List (ℕ × Ends × Ratio) → List (ℕ × Mark) → PieceLists
piece_of nodes basics marks = record { nodes = nodes; basics = basics; marks = marks }

-- with the potentials that stand in the piece each of its basic arcs has the reduced cost 0; they fit, and no operation of the rows overflows
pub record HasPotentials (net : Network) (piece : PieceLists) : Type 0 where
  pub priced : (a : ℕ) → IsIn a (basics_in piece) → price (beside zero_ratio piece.nodes) (arc_at net.arcs a) ≡ zero_ratio
  pub fit : (n : ℕ × Ratio) → IsIn n piece.nodes → Fits n.1
  pub rows_fit : PotentialsFit (ends_at net.arcs) (cost_at net.arcs) (basics_in piece) (beside zero_ratio piece.nodes)

-- these values, in the order of its nodes, are the potentials of the piece; they fit, and no operation of the rows overflows
pub record ArePotentials (net : Network) (piece : PieceLists) (values : List Ratio) : Type 0 where
  pub one_each : length values ≡ length piece.nodes
  pub potential : ℕ → Ratio
  pub priced : ArePriced (ends_at net.arcs) (cost_at net.arcs) (basics_in piece) potential
  pub stand : (i : ℕ) → i < length piece.nodes → at values i ≡ potential (slice_index (nodes_in piece) i)
  pub fit : (v : ℕ) → IsIn v (nodes_in piece) → Fits (potential v)
  pub rows_fit : PotentialsFit (ends_at net.arcs) (cost_at net.arcs) (basics_in piece) potential

-- at the potentials of the piece, whatever stands in it, an operation of this row with these operands is reached and overflows
pub record GivesPast (net : Network) (piece : PieceLists) (row : Row) (past : Past) : Type 0 where
  pub potential : ℕ → Ratio
  pub priced : ArePriced (ends_at net.arcs) (cost_at net.arcs) (basics_in piece) potential
  pub gives : PotentialsGive (ends_at net.arcs) (cost_at net.arcs) (basics_in piece) potential row past

-- the overflow is one that the rows give, and is told as one of the turn to stage two
abbrev pub IsOverflow : Network → PieceLists → Overflow → Type 0
IsOverflow net piece overflow = (overflow.place ≡ Turn) × GivesPast net piece overflow.row overflow.past

abbrev pub IsCause : Network → PieceLists → PotentialRefusal → Type 0
IsCause net piece (refusal.Past overflow) = IsOverflow net piece overflow
IsCause net piece refusal.Memory = ⊤
