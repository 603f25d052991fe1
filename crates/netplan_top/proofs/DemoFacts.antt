-- What is said of a plan of the demo network.
use Rattle.std.specs.Prelude.{◌≡◌, ◌≢◌, ℕ, Some, List, length}
use Rattle.std.proofs.Common.{refl, sym, ap, subst, ◌∙◌, inl, inr, arith}
use Rattle.np_frac.specs.Ratio.{Ratio}
use Rattle.np_model.specs.declared.plan.Plan.{Plan}
use Rattle.np_model.specs.declared.plan.Verdict.{Verdict}
use Rattle.np_model.specs.declared.plan.Verdict.TheVariants as verdict
use Rattle.np_model.specs.declared.scheme.Scheme.{Scheme}
use Rattle.np_model.specs.Scheme.Fits.{PlanFits}
use Rattle.np_model.specs.Scheme.Plans.{staged, scheme_cost}
use Rattle.convex_arcs.specs.Segments.{flat_arcs}
use Rattle.demo_network.specs.Demo.{IsDemo}
use Rattle.demo_network.specs.Plans.{IsNotForbidden, FallsNowhere}
use Rattle.netplan_top.specs.declared.words.Job.{Job}
use Rattle.netplan_top.specs.Commands.Demo.{demo_job, TellsPlan, IsDemoAnswer}
use Rattle.netplan_top.specs.Commands.Solve.{IsOptimal}
use Rattle.netplan_top.specs.Texts.Demo.{summary_text}
use Rattle.netplan_top.specs.Steps.Solved.{IsFoundAs, IsTold, verdict_status}

-- an optimal plan has its cost
optimal_cost : (job : Job) (scheme : Scheme) (plan : Plan) → IsOptimal job scheme plan → plan.amount ≡ Some (scheme_cost scheme plan.flows)
optimal_cost job scheme plan optimal = rw optimal.plan_is refl

module _ (not_forbidden : IsNotForbidden) (falls_nowhere : FallsNowhere) (n : ℕ) (scheme : Scheme) (plan : Plan) (demo : IsDemo n scheme) (fits : PlanFits scheme plan)
    (found : IsFoundAs plan.verdict demo_job scheme plan) where
  found_as : (v : Verdict) → plan.verdict ≡ v → IsFoundAs v demo_job scheme plan
  found_as v e = subst (λ (w : Verdict). IsFoundAs w demo_job scheme plan) e found

  -- status 0 is that of an optimal plan
  is_optimal : (v : Verdict) → plan.verdict ≡ v → verdict_status v ≡ 0 → IsOptimal demo_job scheme plan
  is_optimal verdict.Optimal e h = found_as verdict.Optimal e
  is_optimal verdict.Infeasible e h = absurd (omega arith)
  is_optimal verdict.Unbounded e h = absurd (omega arith)
  is_optimal verdict.Budget e h = absurd (omega arith)
  is_optimal verdict.Overflow e h = absurd (omega arith)

  pub there_is_a_cost : (status : ℕ) (text : List ℕ) → IsTold demo_job scheme plan status text → status ≡ 0 → plan.amount ≡ Some (scheme_cost scheme plan.flows)
  there_is_a_cost status text told e = optimal_cost demo_job scheme plan (is_optimal plan.verdict refl (sym told.status_is ∙ e))

  pub sums_up : (status : ℕ) (text : List ℕ) (cost : Ratio) (summary : List ℕ) → IsTold demo_job scheme plan status text → status ≡ 0 → plan.amount ≡ Some cost
      → summary ≡ summary_text n (length scheme.supply) (length (flat_arcs (staged scheme))) cost → IsDemoAnswer n 0 summary
  sums_up status text cost summary told e amount is =
      let same : scheme_cost scheme plan.flows ≡ cost = cc (sym (there_is_a_cost status text told e) ∙ amount) in
      record {
        optimal = λ _. record { scheme = scheme; is_demo = demo; plan = plan; plan_is = is_optimal plan.verdict refl (sym told.status_is ∙ e); text_is = is ∙ ap (summary_text n (length scheme.supply) (length (flat_arcs (staged scheme)))) (sym same) };
        out_of_budget = λ h. absurd (omega arith);
        overflows = λ h. absurd (omega arith);
        known = inl refl;
      }

  tells : (claim : Job → Scheme → Plan → Type 0) (status : ℕ) (text : List ℕ) → IsTold demo_job scheme plan status text → claim demo_job scheme plan → TellsPlan claim n text
  tells claim status text told is =
      record { scheme = scheme; is_demo = demo; plan = plan; plan_is = is; text_is = told.text_is; fits = fits; fractions = told.fractions; read_back = told.read_back }

  by_verdict : (v : Verdict) → plan.verdict ≡ v → (status : ℕ) (text : List ℕ) → IsTold demo_job scheme plan status text → status ≡ verdict_status v → status ≢ 0 → IsDemoAnswer n status text
  by_verdict verdict.Optimal e status text told is some = absurd (some is)
  by_verdict verdict.Infeasible e status text told is some = absurd (not_forbidden n scheme demo plan.prices (found_as verdict.Infeasible e).proved.forbid)
  by_verdict verdict.Unbounded e status text told is some = absurd (falls_nowhere n scheme demo plan.flows plan.ray (found_as verdict.Unbounded e).proved.falls)
  by_verdict verdict.Budget e status text told is some = record {
    optimal = λ h. absurd (some h);
    out_of_budget = λ _. tells _ status text told (found_as verdict.Budget e);
    overflows = λ h. absurd (omega arith);
    known = inr (inl is);
  }
  by_verdict verdict.Overflow e status text told is some = record {
    optimal = λ h. absurd (some h);
    out_of_budget = λ h. absurd (omega arith);
    overflows = λ _. tells _ status text told (found_as verdict.Overflow e);
    known = inr (inr is);
  }

  pub tells_plan : (status : ℕ) (text : List ℕ) → IsTold demo_job scheme plan status text → status ≢ 0 → IsDemoAnswer n status text
  tells_plan status text told some = by_verdict plan.verdict refl status text told told.status_is some
