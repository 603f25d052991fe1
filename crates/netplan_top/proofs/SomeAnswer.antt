-- Each input has an answer of each command.
use Rattle.std.specs.Prelude.{◌≡◌, ℕ, ◌+◌, ◌*◌, ◌≤◌, ◌<◌, ◌^◌, Option, Some, None, Result, Ok, Err, List, length}
use Rattle.std.proofs.Common.{refl, sym, arith}
use Rattle.np_records.specs.Records.{records_of}
use Rattle.np_model.specs.declared.plan.Plan.{Plan}
use Rattle.np_model.specs.declared.scheme.Scheme.{Scheme}
use Rattle.np_model.specs.Scheme.Fits.{PlanFits}
use Rattle.net_csv.specs.Grammar.{read_records, StandsForAScheme}
use Rattle.net_csv.specs.Words.{code_word}
use Rattle.net_csv.specs.declared.refused.Code.{Code}
use Rattle.net_csv.specs.declared.refused.Tail.{Tail}
use Rattle.net_csv.specs.declared.refused.Tail.TheVariants as tail
use Rattle.certificates.specs.Claims.{outline_of}
use Rattle.certificates.specs.Grammar.{plan_fault}
use Rattle.certificates.specs.Reading.{StandsForAPlan}
use Rattle.certificates.specs.Words.{plan_code_word}
use Rattle.certificates.specs.declared.refused.PlanCode.{PlanCode}
use Rattle.cert_checker.specs.Walk.{walk}
use Rattle.cert_checker.specs.Laws.{WalkProves, WalkEnds}
use Rattle.cert_checker.specs.declared.answer.Checked.{Checked}
use Rattle.cert_checker.specs.declared.answer.CheckRefusal.{CheckRefusal}
use Rattle.cert_checker.specs.declared.answer.CheckRefusal.TheVariants as refusal
use Rattle.netplan_top.specs.declared.words.Command.{Command}
use Rattle.netplan_top.specs.declared.words.Command.TheVariants.{Check, Expand, Solve}
use Rattle.netplan_top.specs.Texts.Checked.{check_text, accepted_line, rejected_line, past_line}
use Rattle.netplan_top.specs.Texts.Frame.{refused_text}
use Rattle.netplan_top.specs.Texts.Network.{net_text}
use Rattle.netplan_top.specs.Commands.Check.{HasNetwork, rest_of}
use Rattle.netplan_top.specs.Commands.Answers.{longest, HasAnswer, MakesNoRun}
use Rattle.netplan_top.specs.Steps.Judged.{IsJudged}
use Rattle.netplan_top.specs.declared.commands.stop.Stop.TheVariants as stop
use Rattle.netplan_top.proofs.AnswerFacts.{judged_accepted, judged_not_accepted, answer_judged, answer_stopped, expand_made, expand_stopped}
use Rattle.net_csv.specs.declared.refused.Refused.TheVariants as refused

-- few bytes have few records
few_records : ((bytes : List ℕ) → 2 * length (records_of bytes) ≤ length bytes + 1) → (input : List ℕ) → length input ≤ longest → length (records_of input) < 2 ^ 32
few_records law input short = let few = law input in omega arith

-- ---- what the checker says of a plan

judged_answer : WalkProves → WalkEnds → (scheme : Scheme) (plan : Plan) → PlanFits scheme plan → (r : Result Checked CheckRefusal) → walk scheme plan ≡ r → (status : ℕ) × (text : List ℕ) × IsJudged scheme plan status text
judged_answer proves ends scheme plan fits (Ok answer) walked =
    (0, check_text (accepted_line answer), judged_accepted scheme plan answer (check_text (accepted_line answer)) (sym walked) (proves scheme plan answer fits walked) refl)
judged_answer proves ends scheme plan fits (Err (refusal.Reject clause name period)) walked =
    (10, check_text (rejected_line scheme clause name period), judged_not_accepted scheme plan (refusal.Reject clause name period) 10 (check_text (rejected_line scheme clause name period)) (sym walked) (refl, refl))
judged_answer proves ends scheme plan fits (Err (refusal.Past row past)) walked =
    (4, check_text (past_line row past), judged_not_accepted scheme plan (refusal.Past row past) 4 (check_text (past_line row past)) (sym walked) (refl, refl))
judged_answer proves ends scheme plan fits (Err refusal.Memory) walked = absurd (ends scheme plan walked)

-- ---- `check`

abbrev PlansAreThere : Type 0
PlansAreThere = (skip : ℕ) (scheme : Scheme) (rows : List (List (List ℕ))) → plan_fault skip (outline_of scheme) rows ≡ None → StandsForAPlan scheme rows

abbrev SchemesAreThere : Type 0
SchemesAreThere = (tail : Tail) (rows : List (List (List ℕ))) (count : ℕ) → length rows < 2 ^ 32 → read_records tail rows ≡ Ok count → StandsForAScheme rows

module _ (plans : PlansAreThere) (proves : WalkProves) (ends : WalkEnds) (input : List ℕ) where
  plan_answer : (scheme : Scheme) (count : ℕ) → HasNetwork input scheme count → (fault : Option (ℕ × PlanCode)) → plan_fault count (outline_of scheme) (rest_of input count) ≡ fault → HasAnswer Check input
  plan_answer scheme count network None e =
      let there = plans count scheme (rest_of input count) e in
      let judged = judged_answer proves ends scheme there.plan there.fits (walk scheme there.plan) refl in
      (judged.0, judged.1, answer_judged input scheme there.plan judged.0 judged.1 (record { count = count; network = network; whole = e; plan_is = there.is_its_plan }) judged.2)
  plan_answer scheme count network (Some (place, code)) e = (
    5,
    refused_text place (plan_code_word code),
    answer_stopped input (stop.Plan place code) 5 (refused_text place (plan_code_word code)) (record { scheme = scheme; count = count; network = network; fault = e }) (refl, refl),
  )

  check_answer : SchemesAreThere → length (records_of input) < 2 ^ 32 → (r : Result ℕ (ℕ × Code)) → read_records tail.Plan (records_of input) ≡ r → HasAnswer Check input
  check_answer schemes few (Ok count) e =
      let there = schemes tail.Plan (records_of input) count few e in
      plan_answer there.0 count (record { network = e; scheme_is = there.1 }) (plan_fault count (outline_of there.0) (rest_of input count)) refl
  check_answer schemes few (Err (place, code)) e = (5, refused_text place (code_word code), answer_stopped input (stop.Network place code) 5 (refused_text place (code_word code)) e (refl, refl))

-- ---- `expand`

expand_answer : SchemesAreThere → (input : List ℕ) → length (records_of input) < 2 ^ 32 → (r : Result ℕ (ℕ × Code)) → read_records tail.Nothing (records_of input) ≡ r → HasAnswer Expand input
expand_answer schemes input few (Ok count) e =
    let there = schemes tail.Nothing (records_of input) count few e in
    (0, net_text there.0, expand_made input there.0 count 0 (net_text there.0) (e, there.1) refl refl)
expand_answer schemes input few (Err (place, code)) e =
    (5, refused_text place (code_word code), expand_stopped input (refused.Fault place code) 5 (refused_text place (code_word code)) e (refl, refl))

pub has_answer : ((bytes : List ℕ) → 2 * length (records_of bytes) ≤ length bytes + 1) → SchemesAreThere → PlansAreThere → WalkProves → WalkEnds → (command : Command) (input : List ℕ) → MakesNoRun command → length input ≤ longest → HasAnswer command input
has_answer law schemes plans proves ends (Solve job) input none short = absurd none
has_answer law schemes plans proves ends Check input none short =
    check_answer plans proves ends input schemes (few_records law input short) (read_records tail.Plan (records_of input)) refl
has_answer law schemes plans proves ends Expand input none short = expand_answer schemes input (few_records law input short) (read_records tail.Nothing (records_of input)) refl
