-- What `check` says of an input: a network text with a plan text behind it.
use Rattle.std.specs.Prelude.{◌≡◌, ℕ, ◌⊎◌, Option, Some, None, Ok, Err, List, length, drop}
use Rattle.np_frac.specs.declared.frac.Past.{Past}
use Rattle.np_records.specs.Records.{records_of}
use Rattle.np_model.specs.declared.rows.CheckRow.{CheckRow}
use Rattle.np_model.specs.declared.plan.Plan.{Plan}
use Rattle.np_model.specs.declared.scheme.Scheme.{Scheme}
use Rattle.net_csv.specs.Grammar.{read_records, IsSchemeOf}
use Rattle.net_csv.specs.declared.refused.Tail.TheVariants as tail
use Rattle.net_csv.specs.Writing.{rows_of}
use Rattle.certificates.specs.Reading.{IsReadAs}
use Rattle.certificates.specs.Claims.{outline_of}
use Rattle.certificates.specs.Grammar.{plan_fault, IsPlanOf}
use Rattle.certificates.specs.Words.{plan_code_word}
use Rattle.certificates.specs.declared.refused.PlanCode.{PlanCode}
use Rattle.cert_checker.specs.Walk.{walk}
use Rattle.cert_checker.specs.Proves.{Proves}
use Rattle.cert_checker.specs.declared.answer.Clause.{Clause}
use Rattle.cert_checker.specs.declared.answer.Checked.{Checked}
use Rattle.cert_checker.specs.declared.answer.CheckRefusal.TheVariants as refusal
use Rattle.netplan_top.specs.Texts.Frame.{refused_text}
use Rattle.netplan_top.specs.Texts.Checked.{check_text, accepted_line, rejected_line, past_line}
use Rattle.netplan_top.specs.Commands.Faults.{IsFaulty}

-- ---- what an input stands for

-- the input begins with the network text of this scheme, which has so many records
pub record HasNetwork (input : List ℕ) (scheme : Scheme) (count : ℕ) : Type 0 where
  pub network : read_records tail.Plan (records_of input) ≡ Ok count
  pub scheme_is : IsSchemeOf (records_of input) scheme

-- the records behind so many
abbrev pub rest_of : List ℕ → ℕ → List (List (List ℕ))
rest_of input count = drop count (records_of input)

-- the input stands for this scheme and this plan
pub record StandsFor (input : List ℕ) (scheme : Scheme) (plan : Plan) : Type 0 where
  pub count : ℕ
  pub network : HasNetwork input scheme count
  pub whole : plan_fault count (outline_of scheme) (rest_of input count) ≡ None
  pub plan_is : IsPlanOf scheme (rest_of input count) plan

-- the network text has no fault, and the plan text behind it has this first one, at this record of the whole input
pub record IsPlanFault (input : List ℕ) (place : ℕ) (code : PlanCode) : Type 0 where
  pub scheme : Scheme
  pub count : ℕ
  pub network : HasNetwork input scheme count
  pub fault : plan_fault count (outline_of scheme) (rest_of input count) ≡ Some (place, code)

-- the records of this scheme stand first and are read as its own, and those behind them as this plan
pub record IsReadBehind (scheme : Scheme) (rows : List (List (List ℕ))) (plan : Plan) : Type 0 where
  pub network : read_records tail.Plan rows ≡ Ok (length (rows_of scheme))
  pub scheme_is : IsSchemeOf rows scheme
  pub rest : IsReadAs scheme (drop (length (rows_of scheme)) rows) plan

-- ---- what is said of a scheme and a plan, and the text that says it

-- the walk accepts the plan, and the plan is what the text says: no feasible list of ratios costs less than an
-- optimal one, there is none, or every cost is undercut by one
pub record Accepts (scheme : Scheme) (plan : Plan) (text : List ℕ) : Type 0 where
  pub answer : Checked
  pub walked : walk scheme plan ≡ Ok answer
  pub proved : Proves scheme plan answer
  pub text_is : text ≡ check_text (accepted_line answer)

-- this clause is the first thing in the walk that does not hold
pub record Rejects (scheme : Scheme) (plan : Plan) (text : List ℕ) : Type 0 where
  pub clause : Clause
  pub name : Option ℕ
  pub period : ℕ
  pub walked : walk scheme plan ≡ Err (refusal.Reject clause name period)
  pub text_is : text ≡ check_text (rejected_line scheme clause name period)

-- this operation is the first thing in the walk that does not fit
pub record Overflows (scheme : Scheme) (plan : Plan) (text : List ℕ) : Type 0 where
  pub row : CheckRow
  pub past : Past
  pub walked : walk scheme plan ≡ Err (refusal.Past row past)
  pub text_is : text ≡ check_text (past_line row past)

-- ---- what is said of an input

-- the input stands for a scheme and a plan, of which the text says this
pub record Says (claim : Scheme → Plan → List ℕ → Type 0) (input : List ℕ) (text : List ℕ) : Type 0 where
  pub scheme : Scheme
  pub plan : Plan
  pub reads : StandsFor input scheme plan
  pub says : claim scheme plan text

-- the network text has none, and the plan text behind it has a first fault, which the text names
pub record IsPlanFaulty (input : List ℕ) (text : List ℕ) : Type 0 where
  pub place : ℕ
  pub code : PlanCode
  pub fault : IsPlanFault input place code
  pub text_is : text ≡ refused_text place (plan_code_word code)

-- the text is what `check` says of the input with this status
pub record IsCheckAnswer (input : List ℕ) (status : ℕ) (text : List ℕ) : Type 0 where
  pub accepts : status ≡ 0 → Says Accepts input text
  pub overflows : status ≡ 4 → Says Overflows input text
  pub refuses : status ≡ 5 → IsFaulty tail.Plan input text ⊎ IsPlanFaulty input text
  pub rejects : status ≡ 10 → Says Rejects input text
  pub known : (status ≡ 0) ⊎ (status ≡ 4) ⊎ (status ≡ 5) ⊎ (status ≡ 10)
