-- The laws of the five verdicts: what an outcome certifies, and that verdicts exclude each other.
use Rattle.std.specs.Prelude.{◌≡◌, ◌≢◌, ℕ, ◌<◌, ◌≤◌, List, [], ◌∷◌, length, None}
use Rattle.np_frac.specs.Ratio.{Ratio, zero_ratio, total}
use Rattle.np_frac.specs.Fits.{Fits}
use Rattle.np_model.specs.declared.log.Log.{Log}
use Rattle.np_model.specs.declared.outcome.Outcome.{Outcome}
use Rattle.np_model.specs.declared.outcome.Outcome.TheVariants as outcome
use Rattle.np_model.specs.declared.phase.Phase.TheVariants.{One}
use Rattle.np_model.specs.declared.piece.Direction.{Direction}
use Rattle.np_model.specs.declared.plan.Verdict.{Verdict}
use Rattle.np_model.specs.declared.plan.Verdict.TheVariants as verdict
use Rattle.np_model.specs.declared.rows.Overflow.{Overflow}
use Rattle.np_model.specs.Network.Flows.{Network, at, Feasible, Least}
use Rattle.np_model.specs.Network.Duality.{Shows, Impossible, Ray, gap}
use Rattle.np_model.specs.Network.Nets.{IsNet}
use Rattle.np_model.specs.Basis.Pieces.{beside}
use Rattle.np_model.specs.Basis.Starts.{start_net, start_potential, ResidualsFit}
use Rattle.np_model.specs.Basis.States.{State, values_of, IsState}
use Rattle.np_model.specs.Scheme.Fits.{IsShortNumber, LogFits, PlaceFits}
use Rattle.np_basis.specs.Laws.{HasSoundArcs, node_alone}
use Rattle.np_basis.specs.PivotLaws.{HasRealArcs}
use Rattle.np_runs.specs.Certified.{artificial_flows, IsEndless}
use Rattle.np_runs.specs.Ended.{AttemptFindsRay, AttemptOverflows, StartFits, EndsOptimal, EndsInfeasible, EndsUnbounded, IsEnded}

-- ---- the start

-- the supplies fit fractions, as those of a `Net` do
abbrev pub SuppliesFit : Network → Type 0
SuppliesFit net = (v : ℕ) → v < length net.supply → Fits (at net.supply v)

-- where no residual overflows, the residuals fit
abbrev pub StartGivesResiduals : Type 0
StartGivesResiduals = (net : Network) → SuppliesFit net → StartFits net → ResidualsFit net

-- ---- attempts

-- the direction of a ray that an attempt finds in a state is endless over the whole network, with 0 on every arc that has no step
abbrev pub RayIsEndless : Type 0
RayIsEndless = (net : Network) (real : ℕ) (s : State) (arc : ℕ) (direction : Direction) → HasRealArcs net real → IsState net s
    → AttemptFindsRay net real (values_of s) arc direction
    → (d : ℕ → Ratio) × IsEndless net real s arc d × ((a : ℕ) → a < length net.arcs → d a ≡ beside zero_ratio direction.steps a)

-- so in stage one no attempt finds one
abbrev pub NoneFindsRayInStageOne : Type 0
NoneFindsRayInStageOne = (net : Network) (s : State) (arc : ℕ) (direction : Direction) → HasSoundArcs net → IsState (start_net One net) s
    → ¬ AttemptFindsRay (start_net One net) (length net.arcs) (values_of s) arc direction

-- where an attempt with an arc finds a ray, none with it overflows
abbrev pub RaysExcludeOverflows : Type 0
RaysExcludeOverflows = (net : Network) (real : ℕ) (s : State) (arc : ℕ) (direction : Direction) (overflow : Overflow) → HasRealArcs net real
    → IsState net s → AttemptFindsRay net real (values_of s) arc direction → ¬ AttemptOverflows net real (values_of s) arc overflow

-- ---- certificates

-- what ends optimal is a least flow that its potentials show
abbrev pub OptimalCertifies : Type 0
OptimalCertifies = (net : Network) (budget : ℕ) (flows potentials : List Ratio) (log : Log) → HasSoundArcs net → SuppliesFit net
    → EndsOptimal net budget flows potentials log → Feasible net flows × Shows net potentials flows × Least net flows

-- what ends infeasible certifies that there is no plan, and the gap is what the artificial arcs carry in the end
abbrev pub InfeasibleCertifies : Type 0
InfeasibleCertifies = (net : Network) (budget : ℕ) (potentials : List Ratio) (log : Log) → HasSoundArcs net → SuppliesFit net
    → (ends : EndsInfeasible net budget potentials log)
    → Impossible net potentials × (gap net potentials ≡ total (λ flow. flow) (artificial_flows net ends.last))

-- what ends unbounded is a feasible flow and a ray from it
abbrev pub UnboundedCertifies : Type 0
UnboundedCertifies = (net : Network) (budget : ℕ) (flows ray : List Ratio) (log : Log) → HasSoundArcs net → SuppliesFit net
    → EndsUnbounded net budget flows ray log → Ray net flows ray

-- ---- verdicts

-- the log of an outcome, and its verdict
abbrev pub log_of : Outcome → Log
log_of (outcome.Optimal flows potentials log) = log
log_of (outcome.Infeasible potentials log) = log
log_of (outcome.Unbounded flows ray log) = log
log_of (outcome.Budget arc log) = log
log_of (outcome.Overflow overflow log) = log

abbrev pub verdict_of : Outcome → Verdict
verdict_of (outcome.Optimal flows potentials log) = verdict.Optimal
verdict_of (outcome.Infeasible potentials log) = verdict.Infeasible
verdict_of (outcome.Unbounded flows ray log) = verdict.Unbounded
verdict_of (outcome.Budget arc log) = verdict.Budget
verdict_of (outcome.Overflow overflow log) = verdict.Overflow

-- two outcomes of one network and budget with the same log have the same verdict
abbrev pub VerdictsExclude : Type 0
VerdictsExclude = (net : Network) (budget : ℕ) (x y : Outcome) → HasSoundArcs net → SuppliesFit net → IsEnded net budget x → IsEnded net budget y
    → log_of x ≡ log_of y → verdict_of x ≡ verdict_of y

-- ---- parts

-- the lists of an outcome have one entry for each arc or node, its numbers at most nine digits, and an overflow is told at a place of its row
abbrev pub PartsFit : Network → Outcome → Type 0
PartsFit net (outcome.Optimal flows potentials log) = (length flows ≡ length net.arcs) × (length potentials ≡ length net.supply)
PartsFit net (outcome.Infeasible potentials log) = length potentials ≡ length net.supply
PartsFit net (outcome.Unbounded flows ray log) = (length flows ≡ length net.arcs) × (length ray ≡ length net.arcs)
PartsFit net (outcome.Budget arc log) = IsShortNumber arc
PartsFit net (outcome.Overflow overflow log) = PlaceFits overflow.row overflow.place

-- so it is of a run that has ended, in a network that is not too large; and where its budget is at most a million pivots, its log fits a text
abbrev pub EndedFits : Type 0
EndedFits = (net : Network) (budget : ℕ) (x : Outcome) → IsNet net.supply net.arcs → SuppliesFit net → IsEnded net budget x
    → PartsFit net x × (budget ≤ 1000000 → LogFits (log_of x))

-- ---- an example

-- a node alone with a supply that fits and is not 0 ends infeasible at once, whatever the budget
abbrev pub NodeAloneEnds : Type 0
NodeAloneEnds = (supply : Ratio) (budget : ℕ) → Fits supply → supply ≢ zero_ratio
    → IsEnded (node_alone supply) budget (outcome.Infeasible (start_potential (node_alone supply) 0 ∷ []) (record { turned = None; entries = [] }))
