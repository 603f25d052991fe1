-- From what a run has ended in to what `solve` says.
use Rattle.std.specs.Prelude.{◌≡◌, ℕ, ◌≤◌, Result, Ok, Err, List}
use Rattle.std.proofs.Common.{refl, sym, ap, subst, ◌∙◌, inl, inr, arith}
use Rattle.np_frac.specs.Ratio.{Ratio}
use Rattle.np_frac.specs.declared.frac.Past.{Past}
use Rattle.np_model.specs.declared.log.Log.{Log}
use Rattle.np_model.specs.declared.network.Net.{Net}
use Rattle.np_model.specs.declared.outcome.Outcome.{Outcome}
use Rattle.np_model.specs.declared.outcome.Outcome.TheVariants as outcome
use Rattle.np_model.specs.declared.plan.Plan.{Plan}
use Rattle.np_model.specs.declared.plan.Verdict.{Verdict}
use Rattle.np_model.specs.declared.plan.Verdict.TheVariants as verdict
use Rattle.np_model.specs.declared.rows.CheckRow.{CheckRow}
use Rattle.np_model.specs.declared.rows.CheckRow.TheVariants.{C0}
use Rattle.np_model.specs.declared.rows.Overflow.{Overflow}
use Rattle.np_model.specs.declared.scheme.Scheme.{Scheme}
use Rattle.np_model.specs.Basis.Phases.{network_of}
use Rattle.np_model.specs.Network.Flows.{Network}
use Rattle.np_model.specs.Scheme.Fits.{PlaceFits, PlanFits}
use Rattle.np_model.specs.Scheme.Plans.{staged, scheme_cost, price_gap}
use Rattle.np_runs.specs.Ended.{IsEnded}
use Rattle.np_runs.specs.Verdicts.{log_of}
use Rattle.convex_arcs.specs.Gathered.{gathered, GatheredIsExact}
use Rattle.convex_arcs.specs.Schemes.{net_of, gathered_plan}
use Rattle.convex_arcs.specs.Segments.{flat_arcs}
use Rattle.cert_checker.specs.Laws.{WalkProves}
use Rattle.cert_checker.specs.Walk.{walk}
use Rattle.cert_checker.specs.declared.answer.Checked.{Checked}
use Rattle.cert_checker.specs.declared.answer.Checked.TheVariants as checked
use Rattle.cert_checker.specs.declared.answer.CheckRefusal.{CheckRefusal}
use Rattle.cert_checker.specs.declared.answer.CheckRefusal.TheVariants as refusal
use Rattle.net_csv.specs.Reading.{ReadsScheme}
use Rattle.net_csv.specs.declared.refused.Refused.{Refused}
use Rattle.net_csv.specs.declared.refused.Refused.TheVariants as refused
use Rattle.net_csv.specs.declared.refused.Tail.TheVariants as tail
use Rattle.np_records.specs.Records.{records_of}
use Rattle.certificates.specs.Certificates.{EndedLogFits, optimal_plan, unbounded_plan, budget_plan, overflow_plan, total_overflow, with_amounts, unless_overflow, certificate, Certifies, IsAccepted, IsAcceptedAs}
use Rattle.certificates.specs.declared.certifying.TextRefusal.{TextRefusal}
use Rattle.certificates.specs.declared.certifying.TextRefusal.TheVariants as text_refusal
use Rattle.netplan_top.specs.declared.words.Job.{Job}
use Rattle.netplan_top.specs.Commands.Expand.{IsNetwork}
use Rattle.netplan_top.specs.Commands.Solve.{IsOverflow, Solves, IsSolveAnswer}
use Rattle.netplan_top.specs.Steps.Judged.{IsStopped}
use Rattle.netplan_top.specs.Steps.Solved.{IsFoundAs, IsSolved, verdict_status}
use Rattle.netplan_top.specs.Steps.Stops.{network_stop}

-- ---- the network of a scheme

pub same_net : (net : Net) (scheme : Scheme) → net.supply ≡ scheme.supply → net.arcs ≡ flat_arcs (staged scheme) → network_of net ≡ net_of scheme
same_net net scheme e f = λ i. record { supply = e i; arcs = f i }

pub ended_of : (net : Net) (scheme : Scheme) (budget : ℕ) (o : Outcome) → net.supply ≡ scheme.supply → net.arcs ≡ flat_arcs (staged scheme) → IsEnded (network_of net) budget o → IsEnded (net_of scheme) budget o
ended_of net scheme budget o e f h = subst (λ (n : Network). IsEnded n budget o) (same_net net scheme e f) h

-- ---- a plan that came out

kept : (walked : Result Checked CheckRefusal) (own plan : Plan) → unless_overflow walked own ≡ Ok plan → plan ≡ own
kept (Ok answer) own plan e = cc (sym e)
kept (Err (refusal.Past row past)) own plan e = absurd (cc e)
kept (Err (refusal.Reject clause name period)) own plan e = cc (sym e)
kept (Err refusal.Memory) own plan e = cc (sym e)

amounts_there : (found : Result (List Ratio) Past) (go : List Ratio → Result Plan Overflow) (plan : Plan) → with_amounts found go ≡ Ok plan → (x : List Ratio) × (found ≡ Ok x) × (go x ≡ Ok plan)
amounts_there (Ok x) go plan e = (x, refl, e)
amounts_there (Err past) go plan e = absurd (cc e)

module _ (exact : GatheredIsExact) (proves : WalkProves) (job : Job) (scheme : Scheme) (plan : Plan) (accepted : IsAccepted scheme plan) (fits : PlanFits scheme plan) where
  accepted_as : (v : Verdict) → plan.verdict ≡ v → IsAcceptedAs v scheme plan
  accepted_as v e = subst (λ (w : Verdict). IsAcceptedAs w scheme plan) e accepted

  found_as : (v : Verdict) → plan.verdict ≡ v → IsFoundAs v job scheme plan → IsFoundAs plan.verdict job scheme plan
  found_as v e h = subst (λ (w : Verdict). IsFoundAs w job scheme plan) (sym e) h

  pub found_of : (o : Outcome) → IsEnded (net_of scheme) job.budget o → certificate scheme o ≡ Ok plan → IsFoundAs plan.verdict job scheme plan
  found_of (outcome.Optimal flows potentials log) ended e =
      let there = amounts_there (gathered (staged scheme) flows) _ plan e in
      let same = exact (staged scheme) flows there.0 there.1 in
      let own = kept _ _ plan there.2 in
      let verdict_is : plan.verdict ≡ verdict.Optimal = ap (λ (p : Plan). p.verdict) own in
      let walked : walk scheme plan ≡ Ok (checked.Optimal (scheme_cost scheme plan.flows)) = accepted_as verdict.Optimal verdict_is in
      found_as verdict.Optimal verdict_is
      (record {
        flows = flows;
        potentials = potentials;
        log = log;
        ended = ended;
        plan_is = own ∙ ap (λ (x : List Ratio). optimal_plan scheme x potentials log) same;
        accepted = walked;
        proved = proves scheme plan (checked.Optimal (scheme_cost scheme plan.flows)) fits walked;
      })
  found_of (outcome.Infeasible potentials log) ended e =
      let own = kept _ _ plan e in
      let verdict_is : plan.verdict ≡ verdict.Infeasible = ap (λ (p : Plan). p.verdict) own in
      let walked : walk scheme plan ≡ Ok (checked.Infeasible (price_gap scheme plan.prices)) = accepted_as verdict.Infeasible verdict_is in
      found_as verdict.Infeasible verdict_is
      (record {
        potentials = potentials;
        log = log;
        ended = ended;
        plan_is = own;
        accepted = walked;
        proved = proves scheme plan (checked.Infeasible (price_gap scheme plan.prices)) fits walked;
      })
  found_of (outcome.Unbounded flows ray log) ended e =
      let there = amounts_there (gathered (staged scheme) flows) _ plan e in
      let along = amounts_there (gathered (staged scheme) ray) _ plan there.2 in
      let same = exact (staged scheme) flows there.0 there.1 in
      let ray_same = exact (staged scheme) ray along.0 along.1 in
      let own = kept _ _ plan along.2 in
      let verdict_is : plan.verdict ≡ verdict.Unbounded = ap (λ (p : Plan). p.verdict) own in
      let walked : walk scheme plan ≡ Ok checked.Unbounded = accepted_as verdict.Unbounded verdict_is in
      found_as verdict.Unbounded verdict_is
      (record {
        flows = flows;
        ray = ray;
        log = log;
        ended = ended;
        plan_is = own ∙ ap (λ (x : List Ratio). unbounded_plan x along.0 log) same ∙ ap (λ (d : List Ratio). unbounded_plan (gathered_plan scheme flows) d log) ray_same;
        accepted = walked;
        proved = proves scheme plan checked.Unbounded fits walked;
      })
  found_of (outcome.Budget arc log) ended e =
      let own : plan ≡ budget_plan arc log = cc (sym e) in
      found_as verdict.Budget (ap (λ (p : Plan). p.verdict) own) (record { arc = arc; log = log; ended = ended; plan_is = own })
  found_of (outcome.Overflow overflow log) ended e =
      let own : plan ≡ overflow_plan overflow log = cc (sym e) in
      found_as verdict.Overflow (ap (λ (p : Plan). p.verdict) own) (inl (record { overflow = overflow; log = log; ended = ended; plan_is = own }))

-- ---- an operation of the plan's sums that overflows

-- it is one of row A8, at a row of the checker
abbrev IsOfSums : Overflow → Type 0
IsOfSums overflow = (row : CheckRow) × (past : Past) × (overflow ≡ total_overflow row past)

past_kept : (walked : Result Checked CheckRefusal) (own : Plan) (overflow : Overflow) → unless_overflow walked own ≡ Err overflow → IsOfSums overflow
past_kept (Ok answer) own overflow e = absurd (cc e)
past_kept (Err (refusal.Past row past)) own overflow e = (row, past, cc (sym e))
past_kept (Err (refusal.Reject clause name period)) own overflow e = absurd (cc e)
past_kept (Err refusal.Memory) own overflow e = absurd (cc e)

past_amounts : (found : Result (List Ratio) Past) (go : List Ratio → Result Plan Overflow) (overflow : Overflow) → ((x : List Ratio) → go x ≡ Err overflow → IsOfSums overflow) → with_amounts found go ≡ Err overflow
    → IsOfSums overflow
past_amounts (Ok x) go overflow f e = f x e
past_amounts (Err past) go overflow f e = (C0, past, cc (sym e))

past_of : (scheme : Scheme) (o : Outcome) (overflow : Overflow) → certificate scheme o ≡ Err overflow → IsOfSums overflow
past_of scheme (outcome.Optimal flows potentials log) overflow e = past_amounts (gathered (staged scheme) flows) _ overflow (λ x h. past_kept _ _ overflow h) e
past_of scheme (outcome.Infeasible potentials log) overflow e = past_kept _ _ overflow e
past_of scheme (outcome.Unbounded flows ray log) overflow e =
    past_amounts (gathered (staged scheme) flows) _ overflow (λ x h. past_amounts (gathered (staged scheme) ray) _ overflow (λ d k. past_kept _ _ overflow k) h) e
past_of scheme (outcome.Budget arc log) overflow e = absurd (cc e)
past_of scheme (outcome.Overflow own log) overflow e = absurd (cc e)

pub past_told : (meant : Result Plan Overflow) (why : TextRefusal) (overflow : Overflow) → why ≡ text_refusal.Past overflow → Certifies (Err why) meant → meant ≡ Err overflow
past_told meant why overflow e h = subst (λ (w : TextRefusal). Certifies (Err w) meant) e h

pub overflow_fits : EndedLogFits → (scheme : Scheme) (job : Job) (o : Outcome) (overflow : Overflow) → job.budget ≤ 1000000 → IsEnded (net_of scheme) job.budget o → certificate scheme o ≡ Err overflow
    → PlanFits scheme (overflow_plan overflow (log_of o))
overflow_fits law scheme job o overflow few ended e =
    let sums = past_of scheme o overflow e in
    record {
      amount = λ t. absurd (cc t);
      arc = λ t. absurd (cc t);
      overflow = λ t. subst (λ (x : Overflow). PlaceFits x.row x.place) (sym sums.2) tt;
      flows = λ t. absurd (cc t);
      prices = λ t. absurd (cc t);
      ray = λ t. absurd (cc t);
      log = law scheme o (job.budget, few, ended);
    }

pub overflow_found : (scheme : Scheme) (job : Job) (o : Outcome) (overflow : Overflow) → IsEnded (net_of scheme) job.budget o → certificate scheme o ≡ Err overflow
    → IsOverflow job scheme (overflow_plan overflow (log_of o))
overflow_found scheme job o overflow ended e = inr (record { outcome = o; ended = ended; overflow = overflow; first = e; plan_is = refl })

-- what holds of that plan holds of the same plan with the same log
pub same_overflow : (P : Plan → Type 0) (made : Plan) (overflow : Overflow) (log : Log) (o : Outcome) → made ≡ overflow_plan overflow log → log ≡ log_of o → P (overflow_plan overflow (log_of o)) → P made
same_overflow P made overflow log o e f h = subst P (sym (e ∙ ap (overflow_plan overflow) f)) h

-- ---- what is said of an input

module _ (job : Job) (input : List ℕ) (scheme : Scheme) (network : IsNetwork input scheme) (status : ℕ) (text : List ℕ) where
  says : (claim : Job → Scheme → Plan → Type 0) (solved : IsSolved job scheme status text) → claim job scheme solved.plan → Solves claim job input text
  says claim solved is = record { scheme = scheme; network = network; plan = solved.plan; plan_is = is; text_is = solved.text_is; fits = solved.fits; fractions = solved.fractions; read_back = solved.read_back }

  -- a plan of this verdict
  says_as : (v : Verdict) (solved : IsSolved job scheme status text) → solved.plan.verdict ≡ v → Solves (IsFoundAs v) job input text
  says_as v solved e = says (IsFoundAs v) solved (subst (λ (w : Verdict). IsFoundAs w job scheme solved.plan) e solved.found)

  by_verdict : (v : Verdict) (solved : IsSolved job scheme status text) → solved.plan.verdict ≡ v → status ≡ verdict_status v → IsSolveAnswer job input status text
  by_verdict verdict.Optimal solved v e = record {
    optimal = λ _. says_as verdict.Optimal solved v;
    infeasible = λ h. absurd (omega arith);
    unbounded = λ h. absurd (omega arith);
    out_of_budget = λ h. absurd (omega arith);
    overflows = λ h. absurd (omega arith);
    refuses = λ h. absurd (omega arith);
    known = omega arith;
  }
  by_verdict verdict.Infeasible solved v e = record {
    optimal = λ h. absurd (omega arith);
    infeasible = λ _. says_as verdict.Infeasible solved v;
    unbounded = λ h. absurd (omega arith);
    out_of_budget = λ h. absurd (omega arith);
    overflows = λ h. absurd (omega arith);
    refuses = λ h. absurd (omega arith);
    known = omega arith;
  }
  by_verdict verdict.Unbounded solved v e = record {
    optimal = λ h. absurd (omega arith);
    infeasible = λ h. absurd (omega arith);
    unbounded = λ _. says_as verdict.Unbounded solved v;
    out_of_budget = λ h. absurd (omega arith);
    overflows = λ h. absurd (omega arith);
    refuses = λ h. absurd (omega arith);
    known = omega arith;
  }
  by_verdict verdict.Budget solved v e = record {
    optimal = λ h. absurd (omega arith);
    infeasible = λ h. absurd (omega arith);
    unbounded = λ h. absurd (omega arith);
    out_of_budget = λ _. says_as verdict.Budget solved v;
    overflows = λ h. absurd (omega arith);
    refuses = λ h. absurd (omega arith);
    known = omega arith;
  }
  by_verdict verdict.Overflow solved v e = record {
    optimal = λ h. absurd (omega arith);
    infeasible = λ h. absurd (omega arith);
    unbounded = λ h. absurd (omega arith);
    out_of_budget = λ h. absurd (omega arith);
    overflows = λ _. says_as verdict.Overflow solved v;
    refuses = λ h. absurd (omega arith);
    known = omega arith;
  }

  solve_made : IsSolved job scheme status text → IsSolveAnswer job input status text
  solve_made solved = by_verdict solved.plan.verdict solved refl solved.status_is

pub solve_read : (job : Job) (input : List ℕ) (scheme : Scheme) (count status : ℕ) (text : List ℕ) → ReadsScheme tail.Nothing (records_of input) (Ok (scheme, count)) → IsSolved job scheme status text
    → IsSolveAnswer job input status text
solve_read job input scheme count status text read solved = solve_made job input scheme (record { count = count; network = read.0; scheme_is = read.1 }) status text solved

pub solve_stopped : (job : Job) (input : List ℕ) (why : Refused) (status : ℕ) (text : List ℕ) → ReadsScheme tail.Nothing (records_of input) (Err why) → IsStopped (network_stop why) status text
    → IsSolveAnswer job input status text
solve_stopped job input (refused.Fault place code) status text read told =
    let is = told.0 in
    record {
      optimal = λ h. absurd (omega arith);
      infeasible = λ h. absurd (omega arith);
      unbounded = λ h. absurd (omega arith);
      out_of_budget = λ h. absurd (omega arith);
      overflows = λ h. absurd (omega arith);
      refuses = λ _. record { place = place; code = code; fault = read; text_is = told.1 };
      known = omega arith;
    }
solve_stopped job input refused.Memory status text read told = absurd told
