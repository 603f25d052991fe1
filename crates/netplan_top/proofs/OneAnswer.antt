-- What is said of an input is one status and one text.
use Rattle.std.proofs.Common.{◌≡◌, ℕ, List, sym, ap, ◌∙◌, inl, inr}
use Rattle.std.specs.Prelude.{[], Ok, Err, Result, Option, Some, None}
use Rattle.net_csv.specs.Words.{code_word}
use Rattle.net_csv.specs.declared.refused.Code.{Code}
use Rattle.certificates.specs.Claims.{outline_of}
use Rattle.certificates.specs.Grammar.{plan_fault}
use Rattle.certificates.specs.Words.{plan_code_word}
use Rattle.certificates.specs.declared.refused.PlanCode.{PlanCode}
use Rattle.np_model.specs.declared.scheme.Scheme.{Scheme}
use Rattle.np_model.specs.declared.plan.Plan.{Plan}
use Rattle.cert_checker.specs.Walk.{walk}
use Rattle.cert_checker.specs.declared.answer.Checked.{Checked}
use Rattle.cert_checker.specs.declared.answer.CheckRefusal.{CheckRefusal}
use Rattle.cert_checker.specs.declared.answer.CheckRefusal.TheVariants as refusal
use Rattle.net_csv.specs.declared.refused.Tail.{Tail}
use Rattle.net_csv.specs.declared.refused.Tail.TheVariants as tail
use Rattle.netplan_top.specs.declared.words.Command.{Command}
use Rattle.netplan_top.specs.declared.words.Command.TheVariants.{Check, Expand, Solve}
use Rattle.netplan_top.specs.Commands.Check.{HasNetwork, StandsFor, IsPlanFault, rest_of, Accepts, Rejects, Overflows, IsCheckAnswer}
use Rattle.netplan_top.specs.Commands.Faults.{IsFault}
use Rattle.netplan_top.specs.Commands.Expand.{IsNetwork, IsExpandAnswer}
use Rattle.netplan_top.specs.Commands.Answers.{AnswerOf, MakesNoRun}
use Rattle.netplan_top.specs.Texts.Network.{net_text}
use Rattle.netplan_top.specs.Texts.Frame.{refused_text}
use Rattle.netplan_top.specs.Texts.Checked.{check_text, accepted_line, rejected_line, past_line}
use Rattle.netplan_top.proofs.OneReading.{OneScheme, OnePlan, scheme_is, plan_is, count_is}

abbrev said : ℕ → List ℕ → ℕ × List ℕ
said status text = (status, text)

-- the status and the text that a walk gives
told : Scheme → Result Checked CheckRefusal → ℕ × List ℕ
told scheme (Ok answer) = (0, check_text (accepted_line answer))
told scheme (Err (refusal.Reject clause name period)) = (10, check_text (rejected_line scheme clause name period))
told scheme (Err (refusal.Past row past)) = (4, check_text (past_line row past))
told scheme (Err refusal.Memory) = (9, [])

accepts_told : (s : Scheme) (p : Plan) (x : List ℕ) → Accepts s p x → said 0 x ≡ told s (walk s p)
unfolding told
accepts_told s p x h = ap (said 0) h.text_is ∙ sym (ap (told s) h.walked)

rejects_told : (s : Scheme) (p : Plan) (x : List ℕ) → Rejects s p x → said 10 x ≡ told s (walk s p)
unfolding told
rejects_told s p x h = ap (said 10) h.text_is ∙ sym (ap (told s) h.walked)

overflows_told : (s : Scheme) (p : Plan) (x : List ℕ) → Overflows s p x → said 4 x ≡ told s (walk s p)
unfolding told
overflows_told s p x h = ap (said 4) h.text_is ∙ sym (ap (told s) h.walked)

-- ---- what stands behind an answer, and that each of these leaves no room for another

record IsFaultTold (behind : Tail) (input : List ℕ) (status : ℕ) (text : List ℕ) : Type 0 where
  pub place : ℕ
  pub code : Code
  pub fault : IsFault behind input place code
  pub answer : said status text ≡ said 5 (refused_text place (code_word code))

record IsPlanFaultTold (input : List ℕ) (status : ℕ) (text : List ℕ) : Type 0 where
  pub place : ℕ
  pub code : PlanCode
  pub fault : IsPlanFault input place code
  pub answer : said status text ≡ said 5 (refused_text place (plan_code_word code))

record IsTold (input : List ℕ) (status : ℕ) (text : List ℕ) : Type 0 where
  pub scheme : Scheme
  pub plan : Plan
  pub reads : StandsFor input scheme plan
  pub answer : said status text ≡ told scheme (walk scheme plan)

data Cause (input : List ℕ) (status : ℕ) (text : List ℕ) : Type 0 where
  fault : IsFaultTold tail.Plan input status text → Cause input status text
  faulty_plan : IsPlanFaultTold input status text → Cause input status text
  walked : IsTold input status text → Cause input status text

cause_of : (input : List ℕ) (status : ℕ) (text : List ℕ) → IsCheckAnswer input status text → Cause input status text
cause_of input status text a =
    elim a.known [
      | inl e ↦ let h = a.accepts e in
          Cause.walked (record { scheme = h.scheme; plan = h.plan; reads = h.reads; answer = ap (λ n. said n text) e ∙ accepts_told _ _ _ h.says })
      | inr rest ↦ elim rest [
        | inl e ↦ let h = a.overflows e in
            Cause.walked (record { scheme = h.scheme; plan = h.plan; reads = h.reads; answer = ap (λ n. said n text) e ∙ overflows_told _ _ _ h.says })
        | inr more ↦ elim more [
          | inl e ↦ elim (a.refuses e) [
            | inl h ↦ Cause.fault (record { place = h.place; code = h.code; fault = h.fault; answer = ap (λ n. said n text) e ∙ ap (said 5) h.text_is })
            | inr h ↦ Cause.faulty_plan (record { place = h.place; code = h.code; fault = h.fault; answer = ap (λ n. said n text) e ∙ ap (said 5) h.text_is })
          ]
          | inr e ↦ let h = a.rejects e in
              Cause.walked (record { scheme = h.scheme; plan = h.plan; reads = h.reads; answer = ap (λ n. said n text) e ∙ rejects_told _ _ _ h.says })
        ]
      ]
    ]

-- what the grammar tells of an input
fault_of : Result ℕ (ℕ × Code) → List ℕ
fault_of (Ok count) = []
fault_of (Err (place, code)) = refused_text place (code_word code)

both_faults : (behind : Tail) (input : List ℕ) (s t : ℕ) (x y : List ℕ) → IsFaultTold behind input s x → IsFaultTold behind input t y → said s x ≡ said t y
unfolding fault_of
both_faults behind input s t x y a b = a.answer ∙ ap (said 5) (sym (ap fault_of a.fault) ∙ ap fault_of b.fault) ∙ sym b.answer

no_fault : (x : Result ℕ (ℕ × Code)) (count place : ℕ) (code : Code) → x ≡ Ok count → x ≡ Err (place, code) → ⊥
no_fault x count place code a b = cc

-- what the grammar tells of the plan behind a network
abbrev plan_fault_in : List ℕ → Scheme → ℕ → Option (ℕ × PlanCode)
plan_fault_in input scheme count = plan_fault count (outline_of scheme) (rest_of input count)

same_fault_in : OneScheme → (input : List ℕ) (s t : Scheme) (k l : ℕ) → HasNetwork input s k → HasNetwork input t l → plan_fault_in input s k ≡ plan_fault_in input t l
same_fault_in law input s t k l a b =
    let e : s ≡ t = law _ s t a.scheme_is b.scheme_is in
    let f : k ≡ l = count_is input s t k l a b in
    λ i. plan_fault_in input (e i) (f i)

refusal_of : Option (ℕ × PlanCode) → List ℕ
refusal_of None = []
refusal_of (Some (place, code)) = refused_text place (plan_code_word code)

both_plan_faults : OneScheme → (input : List ℕ) (s t : ℕ) (x y : List ℕ) → IsPlanFaultTold input s x → IsPlanFaultTold input t y → said s x ≡ said t y
unfolding refusal_of
both_plan_faults law input s t x y a b =
    let e = same_fault_in law input a.fault.scheme b.fault.scheme a.fault.count b.fault.count a.fault.network b.fault.network in
    a.answer ∙ ap (said 5) (sym (ap refusal_of a.fault.fault) ∙ ap refusal_of e ∙ ap refusal_of b.fault.fault) ∙ sym b.answer

none_some : (x y : Option (ℕ × PlanCode)) (z : ℕ × PlanCode) → x ≡ y → x ≡ None → y ≡ Some z → ⊥
none_some x y z e a b = cc

-- a plan that was read has no fault
no_plan_fault : OneScheme → (input : List ℕ) (place : ℕ) (code : PlanCode) (s : Scheme) (p : Plan) → IsPlanFault input place code → StandsFor input s p → ⊥
no_plan_fault law input place code s p h reads =
    none_some _ _ (place, code) (same_fault_in law input s h.scheme reads.count h.count reads.network h.network) reads.whole h.fault

both_told : OneScheme → OnePlan → (input : List ℕ) (s t : ℕ) (x y : List ℕ) → IsTold input s x → IsTold input t y → said s x ≡ said t y
both_told law plans input s t x y a b =
    let e : a.scheme ≡ b.scheme = scheme_is law input a.scheme b.scheme a.plan b.plan a.reads b.reads in
    let f : a.plan ≡ b.plan = plan_is law plans input a.scheme b.scheme a.plan b.plan a.reads b.reads in
    a.answer ∙ (λ i. told (e i) (walk (e i) (f i))) ∙ sym b.answer

same_cause : OneScheme → OnePlan → (input : List ℕ) (s t : ℕ) (x y : List ℕ) → Cause input s x → Cause input t y → said s x ≡ said t y
same_cause law plans input s t x y (Cause.fault a) (Cause.fault b) = both_faults tail.Plan input s t x y a b
same_cause law plans input s t x y (Cause.fault a) (Cause.faulty_plan b) = absurd (no_fault _ _ _ _ b.fault.network.network a.fault)
same_cause law plans input s t x y (Cause.fault a) (Cause.walked b) = absurd (no_fault _ _ _ _ b.reads.network.network a.fault)
same_cause law plans input s t x y (Cause.faulty_plan a) (Cause.fault b) = absurd (no_fault _ _ _ _ a.fault.network.network b.fault)
same_cause law plans input s t x y (Cause.faulty_plan a) (Cause.faulty_plan b) = both_plan_faults law input s t x y a b
same_cause law plans input s t x y (Cause.faulty_plan a) (Cause.walked b) = absurd (no_plan_fault law input a.place a.code b.scheme b.plan a.fault b.reads)
same_cause law plans input s t x y (Cause.walked a) (Cause.fault b) = absurd (no_fault _ _ _ _ a.reads.network.network b.fault)
same_cause law plans input s t x y (Cause.walked a) (Cause.faulty_plan b) = absurd (no_plan_fault law input b.place b.code a.scheme a.plan b.fault a.reads)
same_cause law plans input s t x y (Cause.walked a) (Cause.walked b) = both_told law plans input s t x y a b

same_pair : OneScheme → OnePlan → (input : List ℕ) (s t : ℕ) (x y : List ℕ) → IsCheckAnswer input s x → IsCheckAnswer input t y → said s x ≡ said t y
same_pair law plans input s t x y a b = same_cause law plans input s t x y (cause_of input s x a) (cause_of input t y b)

-- ---- what `expand` says

record IsExpansionTold (input : List ℕ) (status : ℕ) (text : List ℕ) : Type 0 where
  pub scheme : Scheme
  pub network : IsNetwork input scheme
  pub answer : said status text ≡ said 0 (net_text scheme)

data ExpandCause (input : List ℕ) (status : ℕ) (text : List ℕ) : Type 0 where
  fault : IsFaultTold tail.Nothing input status text → ExpandCause input status text
  expanded : IsExpansionTold input status text → ExpandCause input status text

expand_cause_of : (input : List ℕ) (status : ℕ) (text : List ℕ) → IsExpandAnswer input status text → ExpandCause input status text
expand_cause_of input status text a =
    elim a.known [
      | inl e ↦ let h = a.expands e in
          ExpandCause.expanded (record { scheme = h.scheme; network = h.network; answer = ap (λ n. said n text) e ∙ ap (said 0) h.text_is })
      | inr e ↦ let h = a.refuses e in
          ExpandCause.fault (record { place = h.place; code = h.code; fault = h.fault; answer = ap (λ n. said n text) e ∙ ap (said 5) h.text_is })
    ]

both_expanded : OneScheme → (input : List ℕ) (s t : ℕ) (x y : List ℕ) → IsExpansionTold input s x → IsExpansionTold input t y → said s x ≡ said t y
both_expanded law input s t x y a b =
    let e : a.scheme ≡ b.scheme = law _ a.scheme b.scheme a.network.scheme_is b.network.scheme_is in
    a.answer ∙ ap (λ (z : Scheme). said 0 (net_text z)) e ∙ sym b.answer

same_expand_cause : OneScheme → (input : List ℕ) (s t : ℕ) (x y : List ℕ) → ExpandCause input s x → ExpandCause input t y → said s x ≡ said t y
same_expand_cause law input s t x y (ExpandCause.fault a) (ExpandCause.fault b) = both_faults tail.Nothing input s t x y a b
same_expand_cause law input s t x y (ExpandCause.fault a) (ExpandCause.expanded b) = absurd (no_fault _ _ _ _ b.network.network a.fault)
same_expand_cause law input s t x y (ExpandCause.expanded a) (ExpandCause.fault b) = absurd (no_fault _ _ _ _ a.network.network b.fault)
same_expand_cause law input s t x y (ExpandCause.expanded a) (ExpandCause.expanded b) = both_expanded law input s t x y a b

-- ---- what a command says

same_said : OneScheme → OnePlan → (command : Command) (input : List ℕ) (s t : ℕ) (x y : List ℕ) → MakesNoRun command → AnswerOf command input s x → AnswerOf command input t y → said s x ≡ said t y
same_said law plans (Solve job) input s t x y none a b = absurd none
same_said law plans Check input s t x y none a b = same_pair law plans input s t x y a b
same_said law plans Expand input s t x y none a b = same_expand_cause law input s t x y (expand_cause_of input s x a) (expand_cause_of input t y b)

pub status_is : OneScheme → OnePlan → (command : Command) (input : List ℕ) (s t : ℕ) (x y : List ℕ) → MakesNoRun command → AnswerOf command input s x → AnswerOf command input t y → s ≡ t
status_is law plans command input s t x y none a b = ap (λ p. p.0) (same_said law plans command input s t x y none a b)

pub text_is : OneScheme → OnePlan → (command : Command) (input : List ℕ) (s t : ℕ) (x y : List ℕ) → MakesNoRun command → AnswerOf command input s x → AnswerOf command input t y → x ≡ y
text_is law plans command input s t x y none a b = ap (λ p. p.1) (same_said law plans command input s t x y none a b)
