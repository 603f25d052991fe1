-- The plan of what a run has ended in: what it shows, in the parts of a plan, and which operation of its sums overflows. (This project's
-- own.)
use Rattle.std.specs.Prelude.{◌≡◌, ℕ, ◌≤◌, ⊤, Some, None, Result, Ok, Err, List, []}
use Rattle.np_frac.specs.Ratio.{Ratio}
use Rattle.np_frac.specs.declared.frac.Past.{Past}
use Rattle.np_model.specs.declared.log.Log.{Log}
use Rattle.np_model.specs.declared.outcome.Outcome.{Outcome}
use Rattle.np_model.specs.declared.outcome.Outcome.TheVariants as outcome
use Rattle.np_model.specs.declared.plan.Plan.{Plan}
use Rattle.np_model.specs.declared.plan.Verdict.{Verdict}
use Rattle.np_model.specs.declared.plan.Verdict.TheVariants as verdict
use Rattle.np_model.specs.declared.rows.CheckRow.{CheckRow}
use Rattle.np_model.specs.declared.rows.CheckRow.TheVariants.{C0}
use Rattle.np_model.specs.declared.rows.Overflow.{Overflow}
use Rattle.np_model.specs.declared.rows.Place.TheVariants.{Check}
use Rattle.np_model.specs.declared.rows.Row.TheVariants.{A8}
use Rattle.np_model.specs.declared.scheme.Scheme.{Scheme}
use Rattle.np_model.specs.Scheme.Fits.{LogFits}
use Rattle.np_model.specs.Scheme.Plans.{staged, scheme_cost, price_gap, IsFeasiblePlan, PricesShow, PricesForbid, FallsAlong}
use Rattle.np_runs.specs.Ended.{IsEnded}
use Rattle.np_runs.specs.Verdicts.{PartsFit, log_of}
use Rattle.convex_arcs.specs.Gathered.{gathered}
use Rattle.convex_arcs.specs.Schemes.{net_of, gathered_plan}
use Rattle.cert_checker.specs.Walk.{walk}
use Rattle.cert_checker.specs.declared.answer.Checked.{Checked}
use Rattle.cert_checker.specs.declared.answer.Checked.TheVariants as checked
use Rattle.cert_checker.specs.declared.answer.CheckRefusal.{CheckRefusal}
use Rattle.cert_checker.specs.declared.answer.CheckRefusal.TheVariants as refusal
use Rattle.certificates.specs.declared.certifying.TextRefusal.{TextRefusal}
use Rattle.certificates.specs.declared.certifying.TextRefusal.TheVariants as text

-- a run over the expanded network of the scheme has ended in it
abbrev pub HasEnded : Scheme → Outcome → Type 0
HasEnded scheme outcome = (budget : ℕ) × IsEnded (net_of scheme) budget outcome

-- one with a budget of at most so many pivots has
abbrev pub HasEndedWithin : ℕ → Scheme → Outcome → Type 0
HasEndedWithin most scheme outcome = (budget : ℕ) × (budget ≤ most) × IsEnded (net_of scheme) budget outcome

-- ---- the parts of its plan

-- flows of the staged arcs with their exact cost, and the prices that show them
abbrev pub optimal_plan : Scheme → List Ratio → List Ratio → Log → Plan
optimal_plan scheme flows prices log =
    record { verdict = verdict.Optimal; amount = Some (scheme_cost scheme flows); flows = flows; prices = prices; ray = []; arc = None; overflow = None; log = log }

-- prices, and their exact gap
abbrev pub infeasible_plan : Scheme → List Ratio → Log → Plan
infeasible_plan scheme prices log =
    record { verdict = verdict.Infeasible; amount = Some (price_gap scheme prices); flows = []; prices = prices; ray = []; arc = None; overflow = None; log = log }

-- flows, and a ray from them
abbrev pub unbounded_plan : List Ratio → List Ratio → Log → Plan
unbounded_plan flows ray log =
    record { verdict = verdict.Unbounded; amount = None; flows = flows; prices = []; ray = ray; arc = None; overflow = None; log = log }

-- the arc that may still enter
abbrev pub budget_plan : ℕ → Log → Plan
budget_plan arc log =
    record { verdict = verdict.Budget; amount = None; flows = []; prices = []; ray = []; arc = Some arc; overflow = None; log = log }

-- the operation that overflowed
abbrev pub overflow_plan : Overflow → Log → Plan
overflow_plan overflow log =
    record { verdict = verdict.Overflow; amount = None; flows = []; prices = []; ray = []; arc = None; overflow = Some overflow; log = log }

-- ---- row A8

-- an operation of the finished plan that overflows, in this row of the checker's
abbrev pub total_overflow : CheckRow → Past → Overflow
total_overflow row past = record { row = A8; place = Check row; past = past }

-- go on with the amounts that are gathered, or tell the first addition of them that overflows
abbrev pub with_amounts : Result (List Ratio) Past → (List Ratio → Result Plan Overflow) → Result Plan Overflow
with_amounts (Ok amounts) plan = plan amounts
with_amounts (Err past) plan = Err (total_overflow C0 past)

-- the plan that the walk answers this of, or the first operation of the walk that overflows
abbrev pub unless_overflow : Result Checked CheckRefusal → Plan → Result Plan Overflow
unless_overflow (Ok answer) plan = Ok plan
unless_overflow (Err (refusal.Past row past)) plan = Err (total_overflow row past)
unless_overflow (Err (refusal.Reject clause name period)) plan = Ok plan
unless_overflow (Err refusal.Memory) plan = Ok plan

abbrev pub unless_walk_overflows : Scheme → Plan → Result Plan Overflow
unless_walk_overflows scheme plan = unless_overflow (walk scheme plan) plan

-- ---- the plan of an outcome

-- its flows and its ray are gathered, in this order, and then the walk is made over the plan of them; what shows nothing is not walked
abbrev pub certificate : Scheme → Outcome → Result Plan Overflow
certificate scheme (outcome.Optimal flows potentials log) =
    with_amounts (gathered (staged scheme) flows) (λ x. unless_walk_overflows scheme (optimal_plan scheme x potentials log))
certificate scheme (outcome.Infeasible potentials log) = unless_walk_overflows scheme (infeasible_plan scheme potentials log)
certificate scheme (outcome.Unbounded flows ray log) =
    with_amounts (gathered (staged scheme) flows) (λ x.
    with_amounts (gathered (staged scheme) ray) (λ d. unless_walk_overflows scheme (unbounded_plan x d log)))
certificate scheme (outcome.Budget arc log) = Ok (budget_plan arc log)
certificate scheme (outcome.Overflow overflow log) = Ok (overflow_plan overflow log)

-- an answer that is this, or want of memory
abbrev pub Certifies : Result Plan TextRefusal → Result Plan Overflow → Type 0
Certifies (Ok plan) meant = meant ≡ Ok plan
Certifies (Err (text.Past overflow)) meant = meant ≡ Err overflow
Certifies (Err text.Memory) meant = Unit {0}

-- ---- what the checker says of it

-- the walk accepts it, as least with its cost, as impossible with its gap, or as without a least; a plan that shows nothing makes no claim
abbrev pub IsAcceptedAs : Verdict → Scheme → Plan → Type 0
IsAcceptedAs verdict.Optimal scheme plan = walk scheme plan ≡ Ok (checked.Optimal (scheme_cost scheme plan.flows))
IsAcceptedAs verdict.Infeasible scheme plan = walk scheme plan ≡ Ok (checked.Infeasible (price_gap scheme plan.prices))
IsAcceptedAs verdict.Unbounded scheme plan = walk scheme plan ≡ Ok checked.Unbounded
IsAcceptedAs verdict.Budget scheme plan = ⊤
IsAcceptedAs verdict.Overflow scheme plan = ⊤

abbrev pub IsAccepted : Scheme → Plan → Type 0
IsAccepted scheme plan = IsAcceptedAs plan.verdict scheme plan

-- ---- what an outcome that has ended shows of the scheme

-- the amounts that its flows are gathered to are a feasible plan, as its potentials show
abbrev pub OptimalShows : Type 0
OptimalShows =
    (scheme : Scheme) (flows potentials : List Ratio) (log : Log) → HasEnded scheme (outcome.Optimal flows potentials log) →
    IsFeasiblePlan scheme (gathered_plan scheme flows) × PricesShow scheme potentials (gathered_plan scheme flows)

-- its potentials certify that there is no plan
abbrev pub InfeasibleForbids : Type 0
InfeasibleForbids =
    (scheme : Scheme) (potentials : List Ratio) (log : Log) → HasEnded scheme (outcome.Infeasible potentials log) → PricesForbid scheme potentials

-- the amounts that its flows and its ray are gathered to certify that every cost has a cheaper plan
abbrev pub UnboundedFalls : Type 0
UnboundedFalls =
    (scheme : Scheme) (flows ray : List Ratio) (log : Log) → HasEnded scheme (outcome.Unbounded flows ray log) →
    FallsAlong scheme (gathered_plan scheme flows) (gathered_plan scheme ray)

-- its parts fit a plan
abbrev pub EndedPartsFit : Type 0
EndedPartsFit = (scheme : Scheme) (o : Outcome) → HasEnded scheme o → PartsFit (net_of scheme) o

-- and so does its log, where the budget is at most a million pivots
abbrev pub EndedLogFits : Type 0
EndedLogFits = (scheme : Scheme) (o : Outcome) → HasEndedWithin 1000000 scheme o → LogFits (log_of o)
