-- What an attempt to let an arc enter answers, on the one piece or the two that it needs. (Pivots are those of Ahuja, Magnanti and Orlin,
-- Network Flows, chapters 11 and 15; the order in which overflows are told is this project's own.)
use Rattle.std.specs.Prelude.{◌≡◌, ◌≢◌, ◌⊎◌, ℕ, Bool, true, false, List, ◌∷◌, Err, ⊤}
use Rattle.std.specs.Result.{IsOk}
use Rattle.std.specs.List.Sorted.{IsStrictlyIncreasing}
use Rattle.gain_graphs.specs.Arcs.{IsIn}
use Rattle.np_frac.specs.Ratio.{Ratio, zero_ratio, ◌≤ᵣ◌}
use Rattle.np_model.specs.declared.log.Entry.{Entry}
use Rattle.np_model.specs.declared.log.Mark.{Mark}
use Rattle.np_model.specs.declared.log.Mark.TheVariants.{Lower, Upper, Basic}
use Rattle.np_model.specs.declared.piece.Direction.{Direction}
use Rattle.np_model.specs.declared.piece.Prepared.{Prepared}
use Rattle.np_model.specs.declared.piece.Prepared.TheVariants as prepared
use Rattle.np_model.specs.declared.rows.Overflow.{Overflow}
use Rattle.np_model.specs.declared.rows.Place.TheVariants.{Arc}
use Rattle.np_model.specs.declared.rows.Row.TheVariants.{A5, A6}
use Rattle.np_model.specs.Network.Flows.{Network}
use Rattle.np_model.specs.Basis.Graphs.{ends_at, cost_at}
use Rattle.np_model.specs.Basis.Moves.{sign, KeepsBounds, Stops, IsEligible}
use Rattle.np_model.specs.Basis.Needed.{IsDirectionOf, IsMoveOf, AreBasicAfter}
use Rattle.np_model.specs.Basis.Pieces.{PieceLists, basics_in, beside, basics_of, nodes_of}
use Rattle.np_model.specs.Basis.Sound.{values_in, IsAfter}
use Rattle.np_model.specs.Basis.States.{Values, IsPartOf}
use Rattle.np_model.specs.Rows.Directions.{DirectionFits, DirectionGives}
use Rattle.np_model.specs.Rows.Moving.{numbers_of_steps, limits_of, new_flows}
use Rattle.np_model.specs.Rows.Potentials.{ArePriced, PotentialsGive}
use Rattle.np_model.specs.Rows.Prices.{price_of}

-- ---- how far

-- the flows keep their bounds at every step along d, and nothing stops them
pub record IsUnbounded (net : Network) (s : Values) (numbers : List ℕ) (d : ℕ → Ratio) : Type 0 where
  pub within : (z : Ratio) → zero_ratio ≤ᵣ z → KeepsBounds net s numbers d z
  pub none_stops : (z : Ratio) (a : ℕ) (bound : Mark) → IsIn a numbers → ¬ Stops net s d z a bound

-- the first operation of row A5 that overflows, told at the entering arc
pub record LimitsOverflow (net : Network) (pieces : List PieceLists) (direction : Direction) (overflow : Overflow) : Type 0 where
  pub row : overflow.row ≡ A5
  pub place : overflow.place ≡ Arc direction.enter
  pub past : limits_of net (values_in net pieces).flow direction.steps ≡ Err overflow.past

-- ---- the move

-- no operation of row A6 overflows
abbrev pub FlowsFit : Network → List PieceLists → List (ℕ × Ratio) → Ratio → Type 0
FlowsFit net pieces steps t = IsOk (new_flows steps t (values_in net pieces).flow)

-- the first operation of row A6 that overflows, told at the entering arc
pub record FlowsOverflow (net : Network) (pieces : List PieceLists) (enter : ℕ) (steps : List (ℕ × Ratio)) (t : Ratio) (overflow : Overflow) : Type 0 where
  pub row : overflow.row ≡ A6
  pub place : overflow.place ≡ Arc enter
  pub past : new_flows steps t (values_in net pieces).flow ≡ Err overflow.past

-- after the pivot an operation of row A3 or A7 overflows at the potentials of some part of the basic arcs, told at the entering arc
pub record PotentialsOverflow (net : Network) (pieces : List PieceLists) (entry : Entry) (overflow : Overflow) : Type 0 where
  pub place : overflow.place ≡ Arc entry.enter
  pub basic : List ℕ
  pub basic_after : AreBasicAfter pieces entry.enter entry.leave basic
  pub nodes : List ℕ
  pub numbers : List ℕ
  pub part : IsPartOf net basic nodes numbers
  pub node : ℕ
  pub of_part : IsIn node nodes
  pub of_pieces : IsIn node (nodes_of pieces)
  pub potential : ℕ → Ratio
  pub priced : ArePriced (ends_at net.arcs) (cost_at net.arcs) numbers potential
  pub gives : PotentialsGive (ends_at net.arcs) (cost_at net.arcs) numbers potential overflow.row overflow.past

-- an operation of the move overflows: of row A6, or, where none of these does, of row A3 or A7
abbrev pub MoveOverflows : Network → List PieceLists → Entry → List (ℕ × Ratio) → Ratio → Overflow → Type 0
MoveOverflows net pieces entry steps t overflow =
    FlowsOverflow net pieces entry.enter steps t overflow ⊎ (FlowsFit net pieces steps t × PotentialsOverflow net pieces entry overflow)

-- ---- the answer

-- an arc enters upwards from its lower bound, and downwards from its upper one
abbrev pub goes_up : Mark → Bool
goes_up Lower = true
goes_up Upper = false
goes_up Basic = false

module _ (net : Network) (real : ℕ) (pieces : List PieceLists) (arc : ℕ) where
  -- no operation of row A2 overflows at the arc
  abbrev pub PriceFits : Type 0
  PriceFits = IsOk (price_of net (values_in net pieces).potential arc)

  -- the direction of the arc: its moving arcs in ascending number, with no operation of rows A3 and A4 that overflows
  pub record HasDirection (direction : Direction) : Type 0 where
    pub enters : direction.enter ≡ arc
    pub goes : direction.up ≡ goes_up ((values_in net pieces).mark arc)
    pub ascend : IsStrictlyIncreasing (numbers_of_steps direction.steps)
    pub moves : (s : ℕ × Ratio) → IsIn s direction.steps → IsIn s.0 (arc ∷ basics_of pieces) × (s.1 ≢ zero_ratio)
    pub balances : IsDirectionOf net pieces arc (sign ((values_in net pieces).mark arc)) (beside zero_ratio direction.steps)
    pub rows_fit : (p : PieceLists) → IsIn p pieces → DirectionFits (ends_at net.arcs) (beside zero_ratio direction.steps) (basics_in p) arc

  -- an operation of row A3 or A4 overflows on one of the pieces, told at the arc
  pub record DirectionOverflows (overflow : Overflow) : Type 0 where
    pub place : overflow.place ≡ Arc arc
    pub amounts : ℕ → Ratio
    pub direction : IsDirectionOf net pieces arc (sign ((values_in net pieces).mark arc)) amounts
    pub piece : PieceLists
    pub is_piece : IsIn piece pieces
    pub gives : DirectionGives (ends_at net.arcs) amounts (basics_in piece) arc overflow.row overflow.past

  -- the arc is eligible and has this direction, and no operation up to there overflows
  pub record IsAimed (direction : Direction) : Type 0 where
    pub price_fits : PriceFits
    pub eligible : IsEligible net real (values_in net pieces) arc
    pub has_direction : HasDirection direction

  -- and this is the move along it, with no operation of row A5 that overflows
  pub record IsFollowed (direction : Direction) (entry : Entry) (t : Ratio) : Type 0 where
    pub aimed : IsAimed direction
    pub limits_fit : IsOk (limits_of net (values_in net pieces).flow direction.steps)
    pub enters : entry.enter ≡ arc
    pub move : IsMoveOf net pieces entry (beside zero_ratio direction.steps) t

  -- the pieces after the pivot, with no operation that overflows (none of the potentials does on sound pieces)
  pub record IsPivoted (entry : Entry) (after : List PieceLists) : Type 0 where
    pub is_after : IsAfter net real pieces entry after
    pub direction : Direction
    pub step : Ratio
    pub followed : IsFollowed direction entry step
    pub flows_fit : FlowsFit net pieces direction.steps step

  -- along its direction the flows can go as far as one likes
  pub record IsRay (direction : Direction) : Type 0 where
    pub aimed : IsAimed direction
    pub limits_fit : IsOk (limits_of net (values_in net pieces).flow direction.steps)
    pub unbounded : IsUnbounded net (values_in net pieces) (arc ∷ basics_of pieces) (beside zero_ratio direction.steps)

  -- the first row with an operation that overflows: A2; A3 and A4 of the direction; A5; or A6, and then A3 and A7 of the potentials
  pub data FirstOverflow (overflow : Overflow) : Type 0 where
    of_price : price_of net (values_in net pieces).potential arc ≡ Err overflow → FirstOverflow overflow
    of_direction : PriceFits → IsEligible net real (values_in net pieces) arc → DirectionOverflows overflow → FirstOverflow overflow
    of_ratio : (direction : Direction) → IsAimed direction → LimitsOverflow net pieces direction overflow → FirstOverflow overflow
    of_move : (direction : Direction) (entry : Entry) (t : Ratio) → IsFollowed direction entry t → MoveOverflows net pieces entry direction.steps t overflow
        → FirstOverflow overflow

  -- the answer, each with its cause; want of memory comes only where the arc is eligible
  abbrev pub IsPrepared : {Change : Type 0} → (Change → List PieceLists) → Prepared Change → Type 0
  IsPrepared gives (prepared.Ready entry change) = IsPivoted entry (gives change)
  IsPrepared gives prepared.NotEligible = PriceFits × (¬ IsEligible net real (values_in net pieces) arc)
  IsPrepared gives (prepared.Ray direction) = IsRay direction
  IsPrepared gives (prepared.Past overflow) = FirstOverflow overflow
  IsPrepared gives prepared.Memory = PriceFits × IsEligible net real (values_in net pieces) arc

-- where the pivot can be made, this holds of it
abbrev pub OnReady : {Change : Type 0} → (Change → Type 0) → Prepared Change → Type 0
OnReady P (prepared.Ready entry change) = P change
OnReady P prepared.NotEligible = ⊤
OnReady P (prepared.Ray direction) = ⊤
OnReady P (prepared.Past overflow) = ⊤
OnReady P prepared.Memory = ⊤
