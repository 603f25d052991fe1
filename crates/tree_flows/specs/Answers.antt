-- What the direction of an entering arc is on one piece or two, and where their rows give an operation that overflows.
use Rattle.std.specs.Prelude.{◌≡◌, ◌≢◌, ◌<◌, ℕ, Bool, List, [], ◌∷◌, map, length, if◌then◌else◌, ⊤}
use Rattle.std.specs.List.Sorted.{IsStrictlyIncreasing}
use Rattle.gain_graphs.specs.Arcs.{IsIn, AreDistinct}
use Rattle.gain_graphs.specs.Cycles.{IsNoLoop}
use Rattle.np_frac.specs.Ratio.{Ratio, zero_ratio}
use Rattle.np_frac.specs.Fits.{Fits}
use Rattle.np_frac.specs.declared.frac.Past.{Past}
use Rattle.np_model.specs.declared.arc.Ends.{Ends}
use Rattle.np_model.specs.declared.log.Mark.{Mark}
use Rattle.np_model.specs.declared.piece.Direction.{Direction}
use Rattle.np_model.specs.declared.rows.Row.{Row}
use Rattle.np_model.specs.declared.rows.Overflow.{Overflow}
use Rattle.np_model.specs.declared.rows.Place.TheVariants.{Arc}
use Rattle.np_model.specs.Network.Flows.{Network, at}
use Rattle.np_model.specs.Basis.Graphs.{graph_ends, ends_at}
use Rattle.np_model.specs.Basis.Pieces.{PieceLists, nodes_in, basics_in, beside, basics_of, AreApart}
use Rattle.np_model.specs.Basis.Sound.{IsInNet, HoldEnds}
use Rattle.np_model.specs.Basis.Moves.{balance_on}
use Rattle.np_model.specs.Rows.Directions.{DirectionFits, DirectionGives}
use Rattle.np_basis.specs.PivotLaws.{unit_of}
use Rattle.np_model.specs.Basis.Needed.{IsDirectionOf}
use Rattle.tree_search.specs.Places.{number_by_place}
use Rattle.tree_flows.specs.declared.refusal.DirRefusal.{DirRefusal}
use Rattle.tree_flows.specs.declared.refusal.DirRefusal.TheVariants as refusal
use Rattle.tree_flows.specs.declared.sums.Entering.{Entering}
use Rattle.tree_flows.specs.Along.{is_zero}

-- ---- one piece or two, and an arc that enters

-- pieces of the network that share no node and hold the ends of the arc, which is basic in none of them
pub record CanEnter (net : Network) (pieces : List PieceLists) (enter : ℕ) : Type 0 where
  pub in_net : (p : PieceLists) → IsIn p pieces → IsInNet net p
  pub apart : AreApart pieces
  pub inside : enter < length net.arcs
  pub holds : HoldEnds pieces (ends_at net.arcs enter)
  pub outside : ¬ IsIn enter (basics_of pieces)

-- ---- the answer

-- the direction of the arc: in ascending number the arcs whose flows change, each with its amount. The amounts fit, and no operation of the rows overflows on
-- any piece.
pub record IsAnswer (net : Network) (pieces : List PieceLists) (enter : ℕ) (up : Bool) (direction : Direction) : Type 0 where
  pub enters : direction.enter ≡ enter
  pub goes : direction.up ≡ up
  pub ascend : IsStrictlyIncreasing (map (λ s. s.0) direction.steps)
  pub moves : (s : ℕ × Ratio) → IsIn s direction.steps → IsIn s.0 (enter ∷ basics_of pieces) × (s.1 ≢ zero_ratio) × Fits s.1
  pub balances : IsDirectionOf net pieces enter (unit_of up) (beside zero_ratio direction.steps)
  pub rows_fit : (p : PieceLists) → IsIn p pieces → DirectionFits (ends_at net.arcs) (beside zero_ratio direction.steps) (basics_in p) enter

-- at the direction of the arc an operation of this row with these operands is reached on one of the pieces, and overflows
pub record GivesPast (net : Network) (pieces : List PieceLists) (enter : ℕ) (up : Bool) (row : Row) (past : Past) : Type 0 where
  pub amounts : ℕ → Ratio
  pub direction : IsDirectionOf net pieces enter (unit_of up) amounts
  pub piece : PieceLists
  pub is_given : IsIn piece pieces
  pub gives : DirectionGives (ends_at net.arcs) amounts (basics_in piece) enter row past

-- the overflow is one that the rows give, and is told as one of the entering arc
abbrev pub IsCause : Network → List PieceLists → ℕ → Bool → DirRefusal → Type 0
IsCause net pieces enter up (refusal.Past overflow) = (overflow.place ≡ Arc enter) × GivesPast net pieces enter up overflow.row overflow.past
IsCause net pieces enter up refusal.Memory = ⊤

-- ---- on one piece

-- the piece with these nodes, basic arcs and marks
abbrev pub piece_of : List (ℕ × Ratio) → List (ℕ × Ends × Ratio) → List (ℕ × Mark) → PieceLists
piece_of nodes basics marks = record { nodes = nodes; basics = basics; marks = marks }

-- the arc enters with its amount of these, which take nothing from any node of the piece
pub record IsPulled (net : Network) (piece : PieceLists) (e : Entering) (d : ℕ → Ratio) : Type 0 where
  pub in_net : IsInNet net piece
  pub inside : e.arc < length net.arcs
  pub outside : ¬ IsIn e.arc (basics_in piece)
  pub ends_are : ends_at net.arcs e.arc ≡ e.ends
  pub no_loop : IsNoLoop (graph_ends e.ends)
  pub enters : d e.arc ≡ e.amount
  pub balanced : (v : ℕ) → IsIn v (nodes_in piece) → balance_on net (e.arc ∷ basics_in piece) d v ≡ zero_ratio

-- it does so on each of these pieces, which share no arc, and its amount is not 0
pub record ArePulled (net : Network) (pieces : List PieceLists) (e : Entering) (d : ℕ → Ratio) : Type 0 where
  pub pulled : (p : PieceLists) → IsIn p pieces → IsPulled net p e d
  pub once : AreDistinct (basics_of pieces)
  pub moves : e.amount ≢ zero_ratio

-- these are the amounts on the basic arcs, no operation of the rows overflows, and so the rows give none
pub record AreAmounts (net : Network) (piece : PieceLists) (e : Entering) (d : ℕ → Ratio) (amounts : List Ratio) : Type 0 where
  pub one_each : length amounts ≡ length piece.basics
  pub are : (a : ℕ) → a < length piece.basics → at amounts a ≡ d (number_by_place piece.basics a)
  pub rows_fit : DirectionFits (ends_at net.arcs) d (basics_in piece) e.arc
  pub none_given : (row : Row) (past : Past) → DirectionGives (ends_at net.arcs) d (basics_in piece) e.arc row past → ⊥

-- the rows give the operation
abbrev pub IsOverflow : Network → PieceLists → Entering → (ℕ → Ratio) → Overflow → Type 0
IsOverflow net piece e d overflow = (overflow.place ≡ Arc e.arc) × DirectionGives (ends_at net.arcs) d (basics_in piece) e.arc overflow.row overflow.past

-- ---- the arcs whose flows change

-- those of the arcs with an amount that is not 0
abbrev pub moving : List (ℕ × Ends × Ratio) → List Ratio → List (ℕ × Ratio)
moving [] amounts = []
moving (b ∷ basics) [] = []
moving (b ∷ basics) (y ∷ amounts) = if is_zero y then moving basics amounts else (b.0, y) ∷ moving basics amounts

-- each of these arcs once where its amount is not 0, and no others
pub record AreMoving (numbers : List ℕ) (d : ℕ → Ratio) (steps : List (ℕ × Ratio)) : Type 0 where
  pub once : AreDistinct (map (λ s. s.0) steps)
  pub each : (s : ℕ × Ratio) → IsIn s steps → IsIn s.0 numbers × (s.1 ≡ d s.0) × (s.1 ≢ zero_ratio)
  pub all : (a : ℕ) → IsIn a numbers → d a ≢ zero_ratio → IsIn (a, d a) steps

-- the moving arcs of the pieces with the entering one, where no operation of the rows overflows; or one that does
pub record AreStepsOn (net : Network) (pieces : List PieceLists) (enter : ℕ) (d : ℕ → Ratio) (steps : List (ℕ × Ratio)) : Type 0 where
  pub moving_are : AreMoving (enter ∷ basics_of pieces) d steps
  pub rows_fit : (p : PieceLists) → IsIn p pieces → DirectionFits (ends_at net.arcs) d (basics_in p) enter
  pub none_given : (p : PieceLists) → IsIn p pieces → (row : Row) (past : Past) → DirectionGives (ends_at net.arcs) d (basics_in p) enter row past → ⊥
  pub fit : (s : ℕ × Ratio) → IsIn s steps → Fits s.1

abbrev pub IsRefusedOn : Network → List PieceLists → ℕ → (ℕ → Ratio) → DirRefusal → Type 0
IsRefusedOn net pieces enter d (refusal.Past overflow) = (overflow.place ≡ Arc enter)
    × ((p : PieceLists) × IsIn p pieces × DirectionGives (ends_at net.arcs) d (basics_in p) enter overflow.row overflow.past)
IsRefusedOn net pieces enter d refusal.Memory = ⊤
