-- What is said of a scheme and a plan that were read, or of an input that was not.
use Rattle.std.specs.Prelude.{◌≡◌, ℕ, ◌⊎◌, List}
use Rattle.np_model.specs.declared.plan.Plan.{Plan}
use Rattle.np_model.specs.declared.scheme.Scheme.{Scheme}
use Rattle.np_model.specs.Scheme.Fits.{PlanFits}
use Rattle.net_csv.specs.Words.{code_word}
use Rattle.net_csv.specs.declared.refused.Tail.TheVariants as tail
use Rattle.certificates.specs.Words.{plan_code_word}
use Rattle.cert_checker.specs.declared.answer.CheckRefusal.{CheckRefusal}
use Rattle.cert_checker.specs.declared.answer.CheckRefusal.TheVariants as refusal
use Rattle.netplan_top.specs.Texts.Frame.{refused_text}
use Rattle.netplan_top.specs.Texts.Checked.{check_text, rejected_line, past_line}
use Rattle.netplan_top.specs.Commands.Faults.{IsFault}
use Rattle.netplan_top.specs.Commands.Check.{StandsFor, IsPlanFault, Accepts, Rejects, Overflows}
use Rattle.netplan_top.specs.declared.commands.stop.Stop.{Stop}
use Rattle.netplan_top.specs.declared.commands.stop.Stop.TheVariants as stop

-- ---- what reading gives

-- the scheme and the plan that the bytes stand for, which the checker takes
pub record IsInputRead (bytes : List ℕ) (scheme : Scheme) (plan : Plan) : Type 0 where
  pub reads : StandsFor bytes scheme plan
  pub fits : PlanFits scheme plan

-- reading an input stopped for this reason
abbrev pub IsStopOf : Stop → List ℕ → Type 0
IsStopOf (stop.Network place code) input = IsFault tail.Plan input place code
IsStopOf (stop.Plan place code) input = IsPlanFault input place code
IsStopOf stop.Memory input = Unit {0}

-- ---- what is said then

-- why the checker did not accept, with the status and the text of it
abbrev pub IsNotAccepted : Scheme → CheckRefusal → ℕ → List ℕ → Type 0
IsNotAccepted scheme (refusal.Reject clause name period) status text = (status ≡ 10) × (text ≡ check_text (rejected_line scheme clause name period))
IsNotAccepted scheme (refusal.Past row past) status text = (status ≡ 4) × (text ≡ check_text (past_line row past))
IsNotAccepted scheme refusal.Memory status text = ⊥

-- what the checker says of a scheme and a plan
pub record IsJudged (scheme : Scheme) (plan : Plan) (status : ℕ) (text : List ℕ) : Type 0 where
  pub accepts : status ≡ 0 → Accepts scheme plan text
  pub overflows : status ≡ 4 → Overflows scheme plan text
  pub rejects : status ≡ 10 → Rejects scheme plan text
  pub known : (status ≡ 0) ⊎ (status ≡ 4) ⊎ (status ≡ 10)

-- why the input was not read, with the status and the text of it
abbrev pub IsStopped : Stop → ℕ → List ℕ → Type 0
IsStopped (stop.Network place code) status text = (status ≡ 5) × (text ≡ refused_text place (code_word code))
IsStopped (stop.Plan place code) status text = (status ≡ 5) × (text ≡ refused_text place (plan_code_word code))
IsStopped stop.Memory status text = ⊥
