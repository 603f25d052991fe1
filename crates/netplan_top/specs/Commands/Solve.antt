-- What `solve` says of an input: a network text alone.
use Rattle.std.specs.Prelude.{◌≡◌, ℕ, ◌≤◌, ◌⊎◌, Bool, true, Ok, Err, List}
use Rattle.np_frac.specs.Ratio.{Ratio}
use Rattle.np_records.specs.Records.{records_of}
use Rattle.np_records.specs.Texts.{records_text}
use Rattle.np_model.specs.declared.log.Log.{Log}
use Rattle.np_model.specs.declared.outcome.Outcome.{Outcome}
use Rattle.np_model.specs.declared.plan.Plan.{Plan}
use Rattle.np_model.specs.declared.plan.Verdict.{Verdict}
use Rattle.np_model.specs.declared.plan.Verdict.TheVariants as verdict
use Rattle.np_model.specs.declared.rows.Overflow.{Overflow}
use Rattle.np_model.specs.declared.scheme.Scheme.{Scheme}
use Rattle.np_model.specs.Scheme.Fits.{PlanFits}
use Rattle.np_model.specs.Scheme.Plans.{scheme_cost, price_gap}
use Rattle.np_runs.specs.Ended.{EndsOptimal, EndsInfeasible, EndsUnbounded, EndsBudget, EndsOverflow, IsEnded}
use Rattle.np_runs.specs.Verdicts.{log_of}
use Rattle.convex_arcs.specs.Schemes.{net_of, gathered_plan}
use Rattle.cert_checker.specs.Walk.{walk}
use Rattle.cert_checker.specs.Proves.{ProvesOptimal, ProvesInfeasible, ProvesUnbounded}
use Rattle.cert_checker.specs.declared.answer.Checked.TheVariants as checked
use Rattle.net_csv.specs.declared.refused.Tail.TheVariants as tail
use Rattle.certificates.specs.Certificates.{optimal_plan, infeasible_plan, unbounded_plan, budget_plan, overflow_plan, certificate}
use Rattle.certificates.specs.Reading.{IsReadAs}
use Rattle.certificates.specs.Writing.{plan_rows, told, HasFractions}
use Rattle.netplan_top.specs.declared.words.Job.{Job}
use Rattle.netplan_top.specs.Commands.Faults.{IsFaulty}
use Rattle.netplan_top.specs.Commands.Expand.{IsNetwork}

-- ---- what a run over the expanded network of a scheme has ended in, and its plan

-- a run within the budget has ended optimal, and these are its gathered flows with their exact cost, and its potentials as prices. The
-- checker accepts the plan, and it is what it says: no feasible list of ratios costs less
pub record IsOptimal (job : Job) (scheme : Scheme) (plan : Plan) : Type 0 where
  pub flows : List Ratio
  pub potentials : List Ratio
  pub log : Log
  pub ended : EndsOptimal (net_of scheme) job.budget flows potentials log
  pub plan_is : plan ≡ optimal_plan scheme (gathered_plan scheme flows) potentials log
  pub accepted : walk scheme plan ≡ Ok (checked.Optimal (scheme_cost scheme plan.flows))
  pub proved : ProvesOptimal scheme plan (scheme_cost scheme plan.flows)

-- it has ended infeasible, and these are its potentials as prices with their exact gap: there is no feasible list of ratios
pub record IsInfeasible (job : Job) (scheme : Scheme) (plan : Plan) : Type 0 where
  pub potentials : List Ratio
  pub log : Log
  pub ended : EndsInfeasible (net_of scheme) job.budget potentials log
  pub plan_is : plan ≡ infeasible_plan scheme potentials log
  pub accepted : walk scheme plan ≡ Ok (checked.Infeasible (price_gap scheme plan.prices))
  pub proved : ProvesInfeasible scheme plan (price_gap scheme plan.prices)

-- it has ended unbounded, and these are its gathered flows and ray: every cost is undercut by a feasible list of ratios
pub record IsUnbounded (job : Job) (scheme : Scheme) (plan : Plan) : Type 0 where
  pub flows : List Ratio
  pub ray : List Ratio
  pub log : Log
  pub ended : EndsUnbounded (net_of scheme) job.budget flows ray log
  pub plan_is : plan ≡ unbounded_plan (gathered_plan scheme flows) (gathered_plan scheme ray) log
  pub accepted : walk scheme plan ≡ Ok checked.Unbounded
  pub proved : ProvesUnbounded scheme plan

-- it has made as many pivots as the budget allows, and this arc may still enter
pub record IsOutOfBudget (job : Job) (scheme : Scheme) (plan : Plan) : Type 0 where
  pub arc : ℕ
  pub log : Log
  pub ended : EndsBudget (net_of scheme) job.budget arc log
  pub plan_is : plan ≡ budget_plan arc log

-- this operation of the run overflows
pub record OverflowsInRun (job : Job) (scheme : Scheme) (plan : Plan) : Type 0 where
  pub overflow : Overflow
  pub log : Log
  pub ended : EndsOverflow (net_of scheme) job.budget overflow log
  pub plan_is : plan ≡ overflow_plan overflow log

-- the run has ended, and this is the first operation that overflows in the sums of its plan
pub record OverflowsInPlan (job : Job) (scheme : Scheme) (plan : Plan) : Type 0 where
  pub outcome : Outcome
  pub ended : IsEnded (net_of scheme) job.budget outcome
  pub overflow : Overflow
  pub first : certificate scheme outcome ≡ Err overflow
  pub plan_is : plan ≡ overflow_plan overflow (log_of outcome)

abbrev pub IsOverflow : Job → Scheme → Plan → Type 0
IsOverflow job scheme plan = OverflowsInRun job scheme plan ⊎ OverflowsInPlan job scheme plan

-- ---- its text

-- the log is printed where it is asked for, and always where the plan shows nothing
abbrev pub prints_log : Bool → Verdict → Bool
prints_log asked verdict.Budget = true
prints_log asked verdict.Overflow = true
prints_log asked _ = asked

-- the text of a plan, for a job
abbrev pub solved_text : Job → Scheme → Plan → List ℕ
solved_text job scheme plan = records_text (plan_rows scheme plan (prints_log job.log plan.verdict))

-- ---- what is said of an input

-- the input is the network text of a scheme, and the text that of a plan of which this is so; it can be read again, and tells that plan then
pub record Solves (claim : Job → Scheme → Plan → Type 0) (job : Job) (input : List ℕ) (text : List ℕ) : Type 0 where
  pub scheme : Scheme
  pub network : IsNetwork input scheme
  pub plan : Plan
  pub plan_is : claim job scheme plan
  pub text_is : text ≡ solved_text job scheme plan
  pub fits : PlanFits scheme plan
  pub fractions : HasFractions (told plan (prints_log job.log plan.verdict))
  pub read_back : IsReadAs scheme (records_of text) (told plan (prints_log job.log plan.verdict))

-- the text is what `solve` says of the input with this status
pub record IsSolveAnswer (job : Job) (input : List ℕ) (status : ℕ) (text : List ℕ) : Type 0 where
  pub optimal : status ≡ 0 → Solves IsOptimal job input text
  pub infeasible : status ≡ 1 → Solves IsInfeasible job input text
  pub unbounded : status ≡ 2 → Solves IsUnbounded job input text
  pub out_of_budget : status ≡ 3 → Solves IsOutOfBudget job input text
  pub overflows : status ≡ 4 → Solves IsOverflow job input text
  pub refuses : status ≡ 5 → IsFaulty tail.Nothing input text
  pub known : status ≤ 5
