-- From what the parts answer to what is said of an input.
use Rattle.std.specs.Prelude.{◌≡◌, ℕ, ◌⊎◌, Ok, Err, List}
use Rattle.std.proofs.Common.{sym, inl, inr, arith, refl}
use Rattle.np_model.specs.declared.plan.Plan.{Plan}
use Rattle.np_model.specs.declared.scheme.Scheme.{Scheme}
use Rattle.cert_checker.specs.Walk.{walk, UnlessMemory}
use Rattle.cert_checker.specs.Proves.{Proves}
use Rattle.cert_checker.specs.declared.answer.Checked.{Checked}
use Rattle.cert_checker.specs.declared.answer.CheckRefusal.{CheckRefusal}
use Rattle.cert_checker.specs.declared.answer.CheckRefusal.TheVariants as refusal
use Rattle.np_records.specs.Records.{records_of}
use Rattle.net_csv.specs.Reading.{ReadsScheme}
use Rattle.net_csv.specs.declared.refused.Refused.{Refused}
use Rattle.net_csv.specs.declared.refused.Refused.TheVariants as refused
use Rattle.net_csv.specs.declared.refused.Tail.TheVariants as tail
use Rattle.netplan_top.specs.Commands.Check.{StandsFor, IsPlanFaulty, IsCheckAnswer}
use Rattle.netplan_top.specs.Steps.Judged.{IsStopOf, IsStopped, IsJudged, IsNotAccepted}
use Rattle.netplan_top.specs.Steps.Stops.{network_stop}
use Rattle.netplan_top.specs.declared.commands.stop.Stop.{Stop}
use Rattle.netplan_top.specs.declared.commands.stop.Stop.TheVariants as stop
use Rattle.netplan_top.specs.Texts.Checked.{check_text, accepted_line}
use Rattle.netplan_top.specs.Commands.Faults.{IsFaulty}
use Rattle.netplan_top.specs.Commands.Expand.{IsExpandAnswer}
use Rattle.netplan_top.specs.Texts.Network.{net_text}

-- ---- what the checker answers

pub judged_accepted : (scheme : Scheme) (plan : Plan) (x : Checked) (text : List ℕ) → Ok x ≡ walk scheme plan → Proves scheme plan x → text ≡ check_text (accepted_line x) → IsJudged scheme plan 0 text
judged_accepted scheme plan x text walked proved text_is = record {
  accepts = λ _. record { answer = x; walked = sym walked; proved = proved; text_is = text_is };
  overflows = λ e. absurd (omega arith);
  rejects = λ e. absurd (omega arith);
  known = inl refl;
}

pub judged_not_accepted : (scheme : Scheme) (plan : Plan) (why : CheckRefusal) (status : ℕ) (text : List ℕ) → UnlessMemory (Err why) (walk scheme plan) → IsNotAccepted scheme why status text → IsJudged scheme plan status text
judged_not_accepted scheme plan (refusal.Reject clause name period) status text walked told =
    let is = told.0 in
    record {
      accepts = λ e. absurd (omega arith);
      overflows = λ e. absurd (omega arith);
      rejects = λ _. record { clause = clause; name = name; period = period; walked = sym walked; text_is = told.1 };
      known = inr (inr is);
    }
judged_not_accepted scheme plan (refusal.Past row past) status text walked told =
    let is = told.0 in
    record {
      accepts = λ e. absurd (omega arith);
      overflows = λ _. record { row = row; past = past; walked = sym walked; text_is = told.1 };
      rejects = λ e. absurd (omega arith);
      known = inr (inl is);
    }
judged_not_accepted scheme plan refusal.Memory status text walked told = absurd told

-- what is said of the scheme and the plan is said of the input that stands for them
pub answer_judged : (input : List ℕ) (scheme : Scheme) (plan : Plan) (status : ℕ) (text : List ℕ) → StandsFor input scheme plan → IsJudged scheme plan status text → IsCheckAnswer input status text
answer_judged input scheme plan status text reads judged = record {
  accepts = λ e. record { scheme = scheme; plan = plan; reads = reads; says = judged.accepts e };
  overflows = λ e. record { scheme = scheme; plan = plan; reads = reads; says = judged.overflows e };
  refuses = λ e. absurd (elim judged.known [ inl a ↦ omega arith | inr b ↦ elim b [ inl a ↦ omega arith | inr a ↦ omega arith ] ]);
  rejects = λ e. record { scheme = scheme; plan = plan; reads = reads; says = judged.rejects e };
  known = elim judged.known [ inl a ↦ inl a | inr b ↦ elim b [ inl a ↦ inr (inl a) | inr a ↦ inr (inr (inr a)) ] ];
}

answer_refused : (input : List ℕ) (status : ℕ) (text : List ℕ) → status ≡ 5 → IsFaulty tail.Plan input text ⊎ IsPlanFaulty input text → IsCheckAnswer input status text
answer_refused input status text is why = record {
  accepts = λ e. absurd (omega arith);
  overflows = λ e. absurd (omega arith);
  refuses = λ _. why;
  rejects = λ e. absurd (omega arith);
  known = inr (inr (inl is));
}

-- what is said where the input was not read
pub answer_stopped : (input : List ℕ) (why : Stop) (status : ℕ) (text : List ℕ) → IsStopOf why input → IsStopped why status text → IsCheckAnswer input status text
answer_stopped input (stop.Network place code) status text read told = let is = told.0 in answer_refused input status text is (inl (record { place = place; code = code; fault = read; text_is = told.1 }))
answer_stopped input (stop.Plan place code) status text read told = let is = told.0 in answer_refused input status text is (inr (record { place = place; code = code; fault = read; text_is = told.1 }))
answer_stopped input stop.Memory status text read told = absurd told

-- ---- what `expand` answers

pub expand_made : (input : List ℕ) (scheme : Scheme) (count status : ℕ) (text : List ℕ) → ReadsScheme tail.Nothing (records_of input) (Ok (scheme, count)) → status ≡ 0 → text ≡ net_text scheme
    → IsExpandAnswer input status text
expand_made input scheme count status text read is made = record {
  expands = λ _. record { scheme = scheme; network = record { count = count; network = read.0; scheme_is = read.1 }; text_is = made };
  refuses = λ e. absurd (omega arith);
  known = inl is;
}

pub expand_stopped : (input : List ℕ) (why : Refused) (status : ℕ) (text : List ℕ) → ReadsScheme tail.Nothing (records_of input) (Err why) → IsStopped (network_stop why) status text
    → IsExpandAnswer input status text
expand_stopped input (refused.Fault place code) status text read told =
    let is = told.0 in
    record {
      expands = λ e. absurd (omega arith);
      refuses = λ _. record { place = place; code = code; fault = read; text_is = told.1 };
      known = inr is;
    }
expand_stopped input refused.Memory status text read told = absurd told
