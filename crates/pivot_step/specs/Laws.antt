-- The laws of an attempt.
use Rattle.std.specs.Prelude.{◌≡◌, ◌↔◌, ℕ, List, Err, ⊤}
use Rattle.np_model.specs.declared.log.Entry.{Entry}
use Rattle.np_model.specs.declared.network.FullNet.{FullNet}
use Rattle.np_model.specs.declared.phase.Phase.TheVariants.{One}
use Rattle.np_model.specs.declared.piece.Direction.{Direction}
use Rattle.np_model.specs.declared.rows.Overflow.{Overflow}
use Rattle.np_model.specs.Network.Flows.{Network}
use Rattle.np_frac.specs.Ratio.{Ratio}
use Rattle.np_model.specs.Basis.Attempts.{PriceFits, DirectionOverflows, IsAimed, IsFollowed, LimitsOverflow, FlowsFit, FlowsOverflow, PotentialsOverflow, IsPivoted, IsRay, FirstOverflow}
use Rattle.np_model.specs.Basis.Graphs.{ends_at}
use Rattle.np_model.specs.Basis.Moves.{IsEligible}
use Rattle.np_model.specs.Basis.Needed.{AreNeededFor}
use Rattle.np_model.specs.Basis.Phases.{phase_net, real_arcs}
use Rattle.np_model.specs.Basis.Pieces.{PieceLists}
use Rattle.np_model.specs.Basis.Sound.{values_in, AreSound}
use Rattle.np_model.specs.Rows.Prices.{price_of}
use Rattle.np_basis.specs.PivotLaws.{HasRealArcs}

-- no operation of the price of the arc overflows, and the arc may not enter
abbrev pub IsRefused : Network → ℕ → List PieceLists → ℕ → Type 0
IsRefused net real pieces arc = PriceFits net real pieces arc × (¬ IsEligible net real (values_in net pieces) arc)

-- the steps of an attempt: the price, by row A2; the direction, by A3 and A4; how far, by A5; the new flows, by A6; the potentials, by A3 and A7
pub data AttemptStep : Type 0 where
  pricing : AttemptStep
  directing : AttemptStep
  limiting : AttemptStep
  moving : AttemptStep
  settling : AttemptStep

-- the operations of this step are made in one order, and the first that overflows is told
abbrev pub TellsFirst : AttemptStep → Type 0
TellsFirst pricing = ⊤
TellsFirst directing = ⊥
TellsFirst limiting = ⊤
TellsFirst moving = ⊤
TellsFirst settling = ⊥

-- the step is reached, and this operation of it overflows
abbrev pub OverflowsAt : Network → ℕ → List PieceLists → ℕ → AttemptStep → Overflow → Type 0
OverflowsAt net real pieces arc pricing o = price_of net (values_in net pieces).potential arc ≡ Err o
OverflowsAt net real pieces arc directing o =
    PriceFits net real pieces arc × IsEligible net real (values_in net pieces) arc × DirectionOverflows net real pieces arc o
OverflowsAt net real pieces arc limiting o =
    (direction : Direction) × IsAimed net real pieces arc direction × LimitsOverflow net pieces direction o
OverflowsAt net real pieces arc moving o =
    (direction : Direction) × (entry : Entry) × (t : Ratio) × IsFollowed net real pieces arc direction entry t
    × FlowsOverflow net pieces entry.enter direction.steps t o
OverflowsAt net real pieces arc settling o =
    (direction : Direction) × (entry : Entry) × (t : Ratio) × IsFollowed net real pieces arc direction entry t
    × FlowsFit net pieces direction.steps t × PotentialsOverflow net pieces entry o

-- an overflow, a refusal, a ray and a pivot exclude each other; the ray is one direction, and the pivot one entry with one list of pieces
-- after it: an attempt has at most one of these answers. An overflow is of one step, and of the price, of how far and of the new flows it is one
-- operation; which of several is told of the direction and of the potentials is open.
pub record HasOneAnswer (net : Network) (real : ℕ) (pieces : List PieceLists) (arc : ℕ) : Type 0 where
  pub overflow_or_refusal : (o : Overflow) → FirstOverflow net real pieces arc o → ¬ IsRefused net real pieces arc
  pub overflow_or_ray : (o : Overflow) (ray : Direction) → FirstOverflow net real pieces arc o → ¬ IsRay net real pieces arc ray
  pub overflow_or_pivot : (o : Overflow) (entry : Entry) (after : List PieceLists) → FirstOverflow net real pieces arc o
      → ¬ IsPivoted net real pieces arc entry after
  pub refusal_or_ray : (ray : Direction) → IsRefused net real pieces arc → ¬ IsRay net real pieces arc ray
  pub refusal_or_pivot : (entry : Entry) (after : List PieceLists) → IsRefused net real pieces arc → ¬ IsPivoted net real pieces arc entry after
  pub ray_or_pivot : (ray : Direction) (entry : Entry) (after : List PieceLists) → IsRay net real pieces arc ray
      → ¬ IsPivoted net real pieces arc entry after
  pub one_ray : (ray same : Direction) → IsRay net real pieces arc ray → IsRay net real pieces arc same → ray ≡ same
  pub one_pivot : (entry same : Entry) (after others : List PieceLists) → IsPivoted net real pieces arc entry after
      → IsPivoted net real pieces arc same others → (entry ≡ same) × (after ≡ others)
  pub of_a_step : (o : Overflow) → FirstOverflow net real pieces arc o ↔ ((step : AttemptStep) × OverflowsAt net real pieces arc step o)
  pub one_step : (step same : AttemptStep) (o p : Overflow) → OverflowsAt net real pieces arc step o → OverflowsAt net real pieces arc same p
      → step ≡ same
  pub one_operation : (step : AttemptStep) (o p : Overflow) → TellsFirst step → OverflowsAt net real pieces arc step o
      → OverflowsAt net real pieces arc step p → o ≡ p

-- so it is on the sound pieces that the arc needs
abbrev pub AnswersExclude : Type 0
AnswersExclude = (net : Network) (real : ℕ) (pieces : List PieceLists) (arc : ℕ) → HasRealArcs net real → AreSound net pieces
    → AreNeededFor pieces (ends_at net.arcs arc) → HasOneAnswer net real pieces arc

-- in stage one, where no arc costs less than 0, no answer is a ray
abbrev pub NoRayInStageOne : Type 0
NoRayInStageOne = (full : FullNet) (pieces : List PieceLists) (arc : ℕ) (ray : Direction) → AreSound (phase_net One full) pieces
    → AreNeededFor pieces (ends_at (phase_net One full).arcs arc) → ¬ IsRay (phase_net One full) (real_arcs full) pieces arc ray
