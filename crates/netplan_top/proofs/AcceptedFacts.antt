-- `check` accepts what `solve` prints.
use Rattle.std.specs.Prelude.{◌≡◌, ℕ, Bool, Ok, List, ◌++◌}
use Rattle.std.proofs.Common.{refl, sym, subst, ◌∙◌, arith, inl}
use Rattle.np_frac.specs.Ratio.{Ratio}
use Rattle.np_records.specs.Texts.{records_text}
use Rattle.np_model.specs.declared.log.Log.{Log}
use Rattle.np_model.specs.declared.plan.Plan.{Plan}
use Rattle.np_model.specs.declared.scheme.Scheme.{Scheme}
use Rattle.np_model.specs.Scheme.Plans.{scheme_cost, price_gap}
use Rattle.net_csv.specs.Writing.{rows_of}
use Rattle.certificates.specs.Certificates.{optimal_plan, infeasible_plan, unbounded_plan}
use Rattle.certificates.specs.Writing.{told}
use Rattle.cert_checker.specs.Walk.{walk}
use Rattle.cert_checker.specs.Proves.{Proves, ProvesOptimal, ProvesInfeasible, ProvesUnbounded}
use Rattle.cert_checker.specs.declared.answer.Checked.{Checked}
use Rattle.cert_checker.specs.declared.answer.Checked.TheVariants as checked
use Rattle.netplan_top.specs.declared.words.Job.{Job}
use Rattle.netplan_top.specs.Commands.Check.{StandsFor, IsCheckAnswer}
use Rattle.netplan_top.specs.Commands.Solve.{Solves, IsOptimal, IsInfeasible, IsUnbounded, prints_log, solved_text}
use Rattle.netplan_top.specs.Texts.Checked.{check_text, accepted_line}
use Rattle.netplan_top.proofs.WrittenInput.{AreFollowed, AreBytes, AreFull, AreRead, texts-behind, reads-behind, same-walk}

-- ---- what is told of a plan shows what the plan shows

optimal_told : (scheme : Scheme) (x p : List Ratio) (log : Log) (asked : Bool) (cost : Ratio) → ProvesOptimal scheme (optimal_plan scheme x p log) cost → ProvesOptimal scheme (told (optimal_plan scheme x p log) asked) cost
optimal_told scheme x p log asked cost h = record { least = h.least; cost_is = h.cost_is; shown = h.shown }

infeasible_told : (scheme : Scheme) (p : List Ratio) (log : Log) (asked : Bool) (gap : Ratio) → ProvesInfeasible scheme (infeasible_plan scheme p log) gap → ProvesInfeasible scheme (told (infeasible_plan scheme p log) asked) gap
infeasible_told scheme p log asked gap h = record { forbid = h.forbid; gap_is = h.gap_is; none = h.none }

unbounded_told : (scheme : Scheme) (x d : List Ratio) (log : Log) (asked : Bool) → ProvesUnbounded scheme (unbounded_plan x d log) → ProvesUnbounded scheme (told (unbounded_plan x d log) asked)
unbounded_told scheme x d log asked h = record { falls = h.falls; cheaper = h.cheaper }

-- ---- the two texts, one behind the other

module _ (followed : AreFollowed) (bytes : AreBytes) (full : AreFull) (read : AreRead) (job : Job) (input text : List ℕ) where
  stands : (claim : Job → Scheme → Plan → Type 0) (a : Solves claim job input text) → StandsFor (records_text (rows_of a.scheme) ++ text) a.scheme (told a.plan (prints_log job.log a.plan.verdict))
  stands claim a =
      let asked = prints_log job.log a.plan.verdict in
      subst (λ (t : List ℕ). StandsFor (records_text (rows_of a.scheme) ++ t) a.scheme (told a.plan asked)) (sym a.text_is)
      (reads-behind a.scheme (records_text (rows_of a.scheme) ++ solved_text job a.scheme a.plan) (told a.plan asked) (texts-behind followed bytes full read a.scheme a.plan asked a.fits a.fractions))

  accepts : (claim : Job → Scheme → Plan → Type 0) (a : Solves claim job input text) (answer : Checked) → walk a.scheme a.plan ≡ Ok answer
      → Proves a.scheme (told a.plan (prints_log job.log a.plan.verdict)) answer → IsCheckAnswer (records_text (rows_of a.scheme) ++ text) 0 (check_text (accepted_line answer))
  accepts claim a answer walked proved =
      let asked = prints_log job.log a.plan.verdict in
      record {
        accepts = λ _. record {
          scheme = a.scheme;
          plan = told a.plan asked;
          reads = stands claim a;
          says = record { answer = answer; walked = same-walk a.scheme a.plan asked ∙ walked; proved = proved; text_is = refl };
        };
        overflows = λ e. absurd (omega arith);
        refuses = λ e. absurd (omega arith);
        rejects = λ e. absurd (omega arith);
        known = inl refl;
      }

  pub optimal_accepted : (a : Solves IsOptimal job input text)
      → IsCheckAnswer (records_text (rows_of a.scheme) ++ text) 0 (check_text (accepted_line (checked.Optimal (scheme_cost a.scheme a.plan.flows))))
  optimal_accepted a =
      let asked = prints_log job.log a.plan.verdict in
      let cost = scheme_cost a.scheme a.plan.flows in
      let h = a.plan_is in
      accepts IsOptimal a (checked.Optimal cost) h.accepted
      (subst (λ (p : Plan). ProvesOptimal a.scheme p cost → ProvesOptimal a.scheme (told p asked) cost) (sym h.plan_is) (optimal_told a.scheme _ h.potentials h.log asked cost) h.proved)

  pub infeasible_accepted : (a : Solves IsInfeasible job input text)
      → IsCheckAnswer (records_text (rows_of a.scheme) ++ text) 0 (check_text (accepted_line (checked.Infeasible (price_gap a.scheme a.plan.prices))))
  infeasible_accepted a =
      let asked = prints_log job.log a.plan.verdict in
      let gap = price_gap a.scheme a.plan.prices in
      let h = a.plan_is in
      accepts IsInfeasible a (checked.Infeasible gap) h.accepted
      (subst (λ (p : Plan). ProvesInfeasible a.scheme p gap → ProvesInfeasible a.scheme (told p asked) gap) (sym h.plan_is) (infeasible_told a.scheme h.potentials h.log asked gap) h.proved)

  pub unbounded_accepted : (a : Solves IsUnbounded job input text)
      → IsCheckAnswer (records_text (rows_of a.scheme) ++ text) 0 (check_text (accepted_line checked.Unbounded))
  unbounded_accepted a =
      let asked = prints_log job.log a.plan.verdict in
      let h = a.plan_is in
      accepts IsUnbounded a checked.Unbounded h.accepted
      (subst (λ (p : Plan). ProvesUnbounded a.scheme p → ProvesUnbounded a.scheme (told p asked)) (sym h.plan_is) (unbounded_told a.scheme _ _ h.log asked) h.proved)
