-- What a run makes of a scheme that was read.
use Rattle.std.specs.Prelude.{◌≡◌, ℕ, ⊤, List}
use Rattle.np_records.specs.Records.{records_of}
use Rattle.np_model.specs.declared.plan.Plan.{Plan}
use Rattle.np_model.specs.declared.plan.Verdict.{Verdict}
use Rattle.np_model.specs.declared.plan.Verdict.TheVariants as verdict
use Rattle.np_model.specs.declared.scheme.Scheme.{Scheme}
use Rattle.np_model.specs.Scheme.Fits.{PlanFits}
use Rattle.certificates.specs.Reading.{IsReadAs}
use Rattle.certificates.specs.Writing.{told, HasFractions}
use Rattle.simplex_driver.specs.Budgets.{IsCrew, IsBudget}
use Rattle.netplan_top.specs.declared.words.Job.{Job}
use Rattle.netplan_top.specs.declared.words.Command.{Command}
use Rattle.netplan_top.specs.declared.words.Command.TheVariants.{Check, Expand, Solve}
use Rattle.netplan_top.specs.Commands.Solve.{IsOptimal, IsInfeasible, IsUnbounded, IsOutOfBudget, IsOverflow, prints_log, solved_text}

-- the status that goes with a verdict
abbrev pub verdict_status : Verdict → ℕ
verdict_status verdict.Optimal = 0
verdict_status verdict.Infeasible = 1
verdict_status verdict.Unbounded = 2
verdict_status verdict.Budget = 3
verdict_status verdict.Overflow = 4

-- what a plan of this verdict is
abbrev pub IsFoundAs : Verdict → Job → Scheme → Plan → Type 0
IsFoundAs verdict.Optimal = IsOptimal
IsFoundAs verdict.Infeasible = IsInfeasible
IsFoundAs verdict.Unbounded = IsUnbounded
IsFoundAs verdict.Budget = IsOutOfBudget
IsFoundAs verdict.Overflow = IsOverflow

-- the status and the text of a plan
pub record IsTold (job : Job) (scheme : Scheme) (plan : Plan) (status : ℕ) (text : List ℕ) : Type 0 where
  pub status_is : status ≡ verdict_status plan.verdict
  pub text_is : text ≡ solved_text job scheme plan
  pub fractions : HasFractions (told plan (prints_log job.log plan.verdict))
  pub read_back : IsReadAs scheme (records_of text) (told plan (prints_log job.log plan.verdict))

-- what is said of a scheme with this status
pub record IsSolved (job : Job) (scheme : Scheme) (status : ℕ) (text : List ℕ) : Type 0 where
  pub plan : Plan
  pub found : IsFoundAs plan.verdict job scheme plan
  pub status_is : status ≡ verdict_status plan.verdict
  pub text_is : text ≡ solved_text job scheme plan
  pub fits : PlanFits scheme plan
  pub fractions : HasFractions (told plan (prints_log job.log plan.verdict))
  pub read_back : IsReadAs scheme (records_of text) (told plan (prints_log job.log plan.verdict))

-- the numbers of a command are those that a solver takes
abbrev pub IsWithinLimits : Command → Type 0
IsWithinLimits (Solve job) = IsCrew job.workers × IsBudget job.budget
IsWithinLimits Check = ⊤
IsWithinLimits Expand = ⊤
