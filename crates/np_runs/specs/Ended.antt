-- What a run has ended in: the five verdicts of a solver with a budget of pivots, each with its condition. (The three that certify are those of
-- Ahuja, Magnanti and Orlin, Network Flows, chapters 11 and 15; that a run may end for want of pivots or of digits is this project's own.)
use Rattle.std.specs.Prelude.{◌≡◌, ℕ, ◌<◌, ◌≤◌, List, [], length, Some, None, Result, Err}
use Rattle.std.specs.Result.{IsOk}
use Rattle.np_frac.specs.Ratio.{Ratio, zero_ratio}
use Rattle.np_frac.specs.declared.frac.Past.{Past}
use Rattle.np_model.specs.declared.log.Log.{Log}
use Rattle.np_model.specs.declared.phase.Phase.TheVariants.{One, Two}
use Rattle.np_model.specs.declared.piece.Direction.{Direction}
use Rattle.np_model.specs.declared.rows.Overflow.{Overflow}
use Rattle.np_model.specs.declared.rows.Place.TheVariants.{Node, Turn}
use Rattle.np_model.specs.declared.rows.Row.TheVariants.{A1}
use Rattle.np_model.specs.declared.outcome.Outcome.{Outcome}
use Rattle.np_model.specs.declared.outcome.Outcome.TheVariants as outcome
use Rattle.np_model.specs.Network.Flows.{Network, at}
use Rattle.np_model.specs.Basis.Attempts.{IsRay, FirstOverflow}
use Rattle.np_model.specs.Basis.Graphs.{ends_at, cost_at}
use Rattle.np_model.specs.Basis.Moves.{IsEligible}
use Rattle.np_model.specs.Basis.Needed.{AreNeededFor}
use Rattle.np_model.specs.Basis.Pieces.{PieceLists, basics_in, beside}
use Rattle.np_model.specs.Basis.Starts.{start_net}
use Rattle.np_model.specs.Basis.States.{State, Values, values_of, IsPieceOf}
use Rattle.np_model.specs.Rows.Arcs.{residual_of}
use Rattle.np_model.specs.Rows.Potentials.{ArePriced, PotentialsGive}
use Rattle.np_model.specs.Rows.Prices.{price_of}
use Rattle.np_basis.specs.PivotLaws.{ArePiecesOf}
use Rattle.np_runs.specs.Runs.{HasNoArtificialFlow, IsFirstStage, IsRun, stage_net, IsLive, IsOpenOutside}
use Rattle.np_runs.specs.Certified.{NoneIsEligible, real_flows, real_amounts}

-- ---- rows that are made at every state

-- row A1: the residual of a node, or the operation of it that overflows
abbrev pub residual_at : Network → ℕ → Result Ratio Past
residual_at net v = residual_of net.arcs v (at net.supply v)

-- no residual overflows, so that there is a start
abbrev pub StartFits : Network → Type 0
StartFits net = (v : ℕ) → v < length net.supply → IsOk (residual_at net v)

-- no price of an open arc outside the basis overflows in the state
abbrev pub PricesFit : Network → Log → State → Type 0
PricesFit net log s = (a : ℕ) → IsOpenOutside (stage_net net log) (length net.arcs) (values_of s) a
    → IsOk (price_of (stage_net net log) (values_of s).potential a)

-- ---- eligible arcs in the stage that the log has come to

abbrev pub MayEnterIn : Network → Log → State → ℕ → Type 0
MayEnterIn net log s a = IsEligible (stage_net net log) (length net.arcs) (values_of s) a

abbrev pub NoneMayEnter : Network → Log → State → Type 0
NoneMayEnter net log s = NoneIsEligible (stage_net net log) (length net.arcs) s

-- ---- attempts with an arc in a state, on the pieces that it needs

-- an operation of the attempt overflows, and this is told
pub record AttemptOverflows (net : Network) (real : ℕ) (s : Values) (arc : ℕ) (overflow : Overflow) : Type 0 where
  pub pieces : List PieceLists
  pub pieces_of : ArePiecesOf net s pieces
  pub needed : AreNeededFor pieces (ends_at net.arcs arc)
  pub first : FirstOverflow net real pieces arc overflow

-- the attempt finds that nothing stops the flows along this direction
pub record AttemptFindsRay (net : Network) (real : ℕ) (s : Values) (arc : ℕ) (direction : Direction) : Type 0 where
  pub pieces : List PieceLists
  pub pieces_of : ArePiecesOf net s pieces
  pub needed : AreNeededFor pieces (ends_at net.arcs arc)
  pub is_ray : IsRay net real pieces arc direction

-- ---- the five verdicts

module _ (net : Network) (budget : ℕ) where
  -- a run within the budget, from a start that there is, to this last state
  pub record HasRun (log : Log) (last : State) : Type 0 where
    pub start_fits : StartFits net
    pub few : length log.entries ≤ budget
    pub run : IsRun net log last

  -- a run of stage two to a state without an eligible arc: its flows and its potentials
  pub record EndsOptimal (flows potentials : List Ratio) (log : Log) : Type 0 where
    pub last : State
    pub has_run : HasRun log last
    pub turned_after : ℕ
    pub turned : log.turned ≡ Some turned_after
    pub prices_fit : PricesFit net log last
    pub none : NoneMayEnter net log last
    pub flows_are : flows ≡ real_flows net last
    pub potentials_are : potentials ≡ last.potentials

  -- a run of stage one to a live state without an eligible arc: its potentials
  pub record EndsInfeasible (potentials : List Ratio) (log : Log) : Type 0 where
    pub last : State
    pub has_run : HasRun log last
    pub not_turned : log.turned ≡ None
    pub live : IsLive net log last
    pub prices_fit : PricesFit net log last
    pub none : NoneMayEnter net log last
    pub potentials_are : potentials ≡ last.potentials

  -- a run with as many pivots as the budget to a live state, and an arc that is eligible there
  pub record EndsBudget (arc : ℕ) (log : Log) : Type 0 where
    pub last : State
    pub has_run : HasRun log last
    pub live : IsLive net log last
    pub spent : length log.entries ≡ budget
    pub prices_fit : PricesFit net log last
    pub may_enter : MayEnterIn net log last arc

  -- no run: the residual of a node overflows
  pub record StartOverflows (overflow : Overflow) (log : Log) : Type 0 where
    pub no_entries : log.entries ≡ []
    pub not_turned : log.turned ≡ None
    pub row : overflow.row ≡ A1
    pub node : ℕ
    pub is_node : node < length net.supply
    pub place : overflow.place ≡ Node node
    pub past : residual_at net node ≡ Err overflow.past

  -- a run to a live state in which the price of an open arc overflows
  pub record PriceOverflows (overflow : Overflow) (log : Log) : Type 0 where
    pub last : State
    pub has_run : HasRun log last
    pub live : IsLive net log last
    pub arc : ℕ
    pub is_open : IsOpenOutside (stage_net net log) (length net.arcs) (values_of last) arc
    pub past : price_of (stage_net net log) (values_of last).potential arc ≡ Err overflow

  -- a run of stage one to a state without artificial flows, on whose basis an operation of the potentials of stage two overflows
  pub record TurnOverflows (overflow : Overflow) (log : Log) : Type 0 where
    pub last : State
    pub start_fits : StartFits net
    pub few : length log.entries ≤ budget
    pub leads : IsFirstStage net log.entries last
    pub no_artificial : HasNoArtificialFlow net last
    pub turned : log.turned ≡ Some (length log.entries)
    pub place : overflow.place ≡ Turn
    pub piece : PieceLists
    pub is_piece : IsPieceOf (start_net One net) (values_of last) piece
    pub potential : ℕ → Ratio
    pub priced : ArePriced (ends_at (start_net Two net).arcs) (cost_at (start_net Two net).arcs) (basics_in piece) potential
    pub gives : PotentialsGive (ends_at (start_net Two net).arcs) (cost_at (start_net Two net).arcs) (basics_in piece) potential overflow.row overflow.past

  -- a run of stage two, with pivots to spare, to a state in which the attempt with some arc finds a ray: the flows of the state, and the ray
  pub record EndsUnbounded (flows ray : List Ratio) (log : Log) : Type 0 where
    pub last : State
    pub has_run : HasRun log last
    pub turned_after : ℕ
    pub turned : log.turned ≡ Some turned_after
    pub spare : length log.entries < budget
    pub prices_fit : PricesFit net log last
    pub arc : ℕ
    pub direction : Direction
    pub finds_ray : AttemptFindsRay (stage_net net log) (length net.arcs) (values_of last) arc direction
    pub flows_are : flows ≡ real_flows net last
    pub ray_is : ray ≡ real_amounts net (beside zero_ratio direction.steps)

  -- a run, with pivots to spare, to a live state in which each attempt with an eligible arc overflows, and one of them so
  pub record AttemptsOverflow (overflow : Overflow) (log : Log) : Type 0 where
    pub last : State
    pub has_run : HasRun log last
    pub live : IsLive net log last
    pub spare : length log.entries < budget
    pub prices_fit : PricesFit net log last
    pub arc : ℕ
    pub may_enter : MayEnterIn net log last arc
    pub past : AttemptOverflows (stage_net net log) (length net.arcs) (values_of last) arc overflow
    pub all : (a : ℕ) → MayEnterIn net log last a
        → (other : Overflow) × AttemptOverflows (stage_net net log) (length net.arcs) (values_of last) a other

  -- an operation overflows: at a node of the start, at the price of an arc, at every attempt, or at the turn
  pub data EndsOverflow (overflow : Overflow) (log : Log) : Type 0 where
    at_start : StartOverflows overflow log → EndsOverflow overflow log
    at_price : PriceOverflows overflow log → EndsOverflow overflow log
    at_attempts : AttemptsOverflow overflow log → EndsOverflow overflow log
    at_turn : TurnOverflows overflow log → EndsOverflow overflow log

  -- a run within the budget has ended in this outcome
  abbrev pub IsEnded : Outcome → Type 0
  IsEnded (outcome.Optimal flows potentials log) = EndsOptimal flows potentials log
  IsEnded (outcome.Infeasible potentials log) = EndsInfeasible potentials log
  IsEnded (outcome.Unbounded flows ray log) = EndsUnbounded flows ray log
  IsEnded (outcome.Budget arc log) = EndsBudget arc log
  IsEnded (outcome.Overflow overflow log) = EndsOverflow overflow log
