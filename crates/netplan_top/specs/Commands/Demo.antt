-- What `demo` says: it reads nothing, and solves the demo network of a number.
use Rattle.std.specs.Prelude.{◌≡◌, ℕ, ◌⊎◌, true, List, length}
use Rattle.np_records.specs.Records.{records_of}
use Rattle.np_model.specs.declared.plan.Plan.{Plan}
use Rattle.np_model.specs.declared.scheme.Scheme.{Scheme}
use Rattle.np_model.specs.Scheme.Fits.{PlanFits}
use Rattle.np_model.specs.Scheme.Plans.{staged, scheme_cost}
use Rattle.convex_arcs.specs.Segments.{flat_arcs}
use Rattle.certificates.specs.Reading.{IsReadAs}
use Rattle.certificates.specs.Writing.{told, HasFractions}
use Rattle.demo_network.specs.Demo.{IsDemo}
use Rattle.netplan_top.specs.declared.words.Job.{Job}
use Rattle.netplan_top.specs.Commands.Solve.{IsOptimal, IsOutOfBudget, IsOverflow, prints_log, solved_text}
use Rattle.netplan_top.specs.Texts.Demo.{summary_text}

-- 4 workers and 200,000 pivots
abbrev pub demo_job : Job
demo_job = record { workers = 4; budget = 200000; log = true }

-- the summary of a scheme over its expanded network, with this cost
abbrev pub summary_of : ℕ → Scheme → Plan → List ℕ
summary_of n scheme plan = summary_text n (length scheme.supply) (length (flat_arcs (staged scheme))) (scheme_cost scheme plan.flows)

-- a run over its expanded network has ended optimal, and the text is the summary with the cost of that plan: no feasible list of ratios
-- costs less
pub record SumsUp (n : ℕ) (text : List ℕ) : Type 0 where
  pub scheme : Scheme
  pub is_demo : IsDemo n scheme
  pub plan : Plan
  pub plan_is : IsOptimal demo_job scheme plan
  pub text_is : text ≡ summary_of n scheme plan

-- a run has ended so, and the text is that of its plan, with its log; it can be read again, and tells that plan then
pub record TellsPlan (claim : Job → Scheme → Plan → Type 0) (n : ℕ) (text : List ℕ) : Type 0 where
  pub scheme : Scheme
  pub is_demo : IsDemo n scheme
  pub plan : Plan
  pub plan_is : claim demo_job scheme plan
  pub text_is : text ≡ solved_text demo_job scheme plan
  pub fits : PlanFits scheme plan
  pub fractions : HasFractions (told plan (prints_log true plan.verdict))
  pub read_back : IsReadAs scheme (records_of text) (told plan (prints_log true plan.verdict))

-- the text is what `demo` says of the number with this status: never that there is no plan, or that none is least
pub record IsDemoAnswer (n : ℕ) (status : ℕ) (text : List ℕ) : Type 0 where
  pub optimal : status ≡ 0 → SumsUp n text
  pub out_of_budget : status ≡ 3 → TellsPlan IsOutOfBudget n text
  pub overflows : status ≡ 4 → TellsPlan IsOverflow n text
  pub known : (status ≡ 0) ⊎ (status ≡ 3) ⊎ (status ≡ 4)
