-- Two outcomes of one network and budget with the same log have the same verdict.
use Rattle.std.specs.Prelude.{◌≡◌, ℕ, ◌<◌, List, length, Option, Some, None}
use Rattle.std.proofs.Common.{refl, sym, subst, ◌∙◌, arith}
use Rattle.np_frac.specs.Ratio.{Ratio}
use Rattle.np_model.specs.declared.log.Log.{Log}
use Rattle.np_model.specs.declared.outcome.Outcome.{Outcome}
use Rattle.np_model.specs.declared.outcome.Outcome.TheVariants.{Optimal, Infeasible, Unbounded, Budget, Overflow}
use Rattle.np_model.specs.declared.rows.Overflow.{Overflow as Told}
use Rattle.np_model.specs.Network.Flows.{Network}
use Rattle.np_model.specs.Basis.States.{State, values_of}
use Rattle.np_model.specs.Rows.Prices.{price_of}
use Rattle.np_basis.specs.Laws.{HasSoundArcs}
use Rattle.np_runs.specs.Runs.{stage_of, stage_net, RunGivesState, RunIsUnique}
use Rattle.np_runs.specs.Ended.{residual_at, PricesFit, MayEnterIn, NoneMayEnter, AttemptOverflows, HasRun, EndsOptimal, EndsInfeasible, EndsUnbounded, EndsBudget, AttemptsOverflow, EndsOverflow, at_start, at_price, at_attempts, at_turn, IsEnded}
use Rattle.np_runs.specs.Verdicts.{SuppliesFit, StartGivesResiduals, RayIsEndless, RaysExcludeOverflows, VerdictsExclude, log_of, verdict_of}
use Rattle.np_runs.proofs.Clashes.{turn_not}
use Rattle.np_runs.proofs.Following.{Theory, ground}
use Rattle.np_frac.proofs.Results.{err_not_ok}

-- what is known of starts, runs, bases and directions
pub record Given : Type 0 where
  pub started : StartGivesResiduals
  pub run_state : RunGivesState
  pub run_unique : RunIsUnique
  pub theory : Theory
  pub rays : RayIsEndless
  pub apart : RaysExcludeOverflows

not_both : (turned : Option ℕ) (k : ℕ) → turned ≡ Some k → turned ≡ None → ⊥
not_both turned k e f = let g : Some k ≡ None = sym e ∙ f in cc

less_not : {x y : ℕ} → x ≡ y → x < y → ⊥
less_not e l = omega arith

module _ (laws : Given) (net : Network) (sound : HasSoundArcs net) (supplies : SuppliesFit net) (budget : ℕ) (log : Log) where
  one_last : (s t : State) → HasRun net budget log s → HasRun net budget log t → s ≡ t
  one_last s t h k = laws.run_unique net log s t sound (laws.started net supplies h.start_fits) h.run k.run

  may_in : (s t : State) (a : ℕ) → HasRun net budget log s → HasRun net budget log t → MayEnterIn net log s a → MayEnterIn net log t a
  may_in s t a h k e = subst (λ x. MayEnterIn net log x a) (one_last s t h k) e

  -- the arc of a ray is eligible
  ray_may : (flows ray : List Ratio) (h : EndsUnbounded net budget flows ray log) → MayEnterIn net log h.last h.arc
  ray_may flows ray h = (laws.rays (stage_net net log) (length net.arcs) h.last h.arc h.direction (ground laws.theory net sound (stage_of log.turned))
      (laws.run_state net log h.last sound (laws.started net supplies h.has_run.start_fits) h.has_run.run) h.finds_ray).1.eligible

  -- ---- an overflow beside another verdict, whose attempts do not overflow

  overflow_not : (s : State) → HasRun net budget log s → PricesFit net log s → ((overflow : Told) → AttemptsOverflow net budget overflow log → ⊥)
      → (overflow : Told) → EndsOverflow net budget overflow log → ⊥
  overflow_not s h prices none overflow (at_start k) = err_not_ok (residual_at net k.node) overflow.past k.past (h.start_fits k.node k.is_node)
  overflow_not s h prices none overflow (at_price k) =
      let fit : PricesFit net log k.last = subst (PricesFit net log) (one_last s k.last h k.has_run) prices in
      err_not_ok (price_of (stage_net net log) (values_of k.last).potential k.arc) overflow k.past (fit k.arc k.is_open)
  overflow_not s h prices none overflow (at_attempts k) = none overflow k
  overflow_not s h prices none overflow (at_turn k) = turn_not laws.theory net sound (laws.started net supplies h.start_fits) budget log s h overflow k

  none_may : (s : State) → HasRun net budget log s → NoneMayEnter net log s → (overflow : Told) → AttemptsOverflow net budget overflow log → ⊥
  none_may s h none overflow k = none k.arc (may_in k.last s k.arc k.has_run h k.may_enter)

  optimal_not : (flows potentials : List Ratio) → EndsOptimal net budget flows potentials log → (overflow : Told) → EndsOverflow net budget overflow log → ⊥
  optimal_not flows potentials h = overflow_not h.last h.has_run h.prices_fit (none_may h.last h.has_run h.none)

  infeasible_not : (potentials : List Ratio) → EndsInfeasible net budget potentials log → (overflow : Told) → EndsOverflow net budget overflow log → ⊥
  infeasible_not potentials h = overflow_not h.last h.has_run h.prices_fit (none_may h.last h.has_run h.none)

  unbounded_not : (flows ray : List Ratio) → EndsUnbounded net budget flows ray log → (overflow : Told) → EndsOverflow net budget overflow log → ⊥
  unbounded_not flows ray h = overflow_not h.last h.has_run h.prices_fit (λ overflow k.
      let r = k.all h.arc (may_in h.last k.last h.arc h.has_run k.has_run (ray_may flows ray h)) in
      let over = subst (λ x. AttemptOverflows (stage_net net log) (length net.arcs) (values_of x) h.arc r.0) (one_last k.last h.last k.has_run h.has_run) r.1 in
      laws.apart (stage_net net log) (length net.arcs) h.last h.arc h.direction r.0 (ground laws.theory net sound (stage_of log.turned))
      (laws.run_state net log h.last sound (laws.started net supplies h.has_run.start_fits) h.has_run.run) h.finds_ray over)

  budget_not : (arc : ℕ) → EndsBudget net budget arc log → (overflow : Told) → EndsOverflow net budget overflow log → ⊥
  budget_not arc h = overflow_not h.last h.has_run h.prices_fit (λ overflow k. less_not h.spent k.spare)

  -- ---- the other pairs

  optimal_infeasible : (flows p q : List Ratio) → EndsOptimal net budget flows p log → EndsInfeasible net budget q log → ⊥
  optimal_infeasible flows p q h k = not_both log.turned h.turned_after h.turned k.not_turned

  optimal_unbounded : (flows p x d : List Ratio) → EndsOptimal net budget flows p log → EndsUnbounded net budget x d log → ⊥
  optimal_unbounded flows p x d h k = h.none k.arc (may_in k.last h.last k.arc k.has_run h.has_run (ray_may x d k))

  optimal_budget : (flows p : List Ratio) (arc : ℕ) → EndsOptimal net budget flows p log → EndsBudget net budget arc log → ⊥
  optimal_budget flows p arc h k = h.none arc (may_in k.last h.last arc k.has_run h.has_run k.may_enter)

  infeasible_unbounded : (p x d : List Ratio) → EndsInfeasible net budget p log → EndsUnbounded net budget x d log → ⊥
  infeasible_unbounded p x d h k = not_both log.turned k.turned_after k.turned h.not_turned

  infeasible_budget : (p : List Ratio) (arc : ℕ) → EndsInfeasible net budget p log → EndsBudget net budget arc log → ⊥
  infeasible_budget p arc h k = h.none arc (may_in k.last h.last arc k.has_run h.has_run k.may_enter)

  unbounded_budget : (x d : List Ratio) (arc : ℕ) → EndsUnbounded net budget x d log → EndsBudget net budget arc log → ⊥
  unbounded_budget x d arc h k = less_not k.spent h.spare

-- ---- any two outcomes

module _ (laws : Given) (net : Network) (sound : HasSoundArcs net) (supplies : SuppliesFit net) (budget : ℕ) where
  -- an outcome of another verdict with this log
  exclude : (log : Log) (x y : Outcome) → IsEnded net budget x → IsEnded net budget y → log_of x ≡ log → log_of y ≡ log → verdict_of x ≡ verdict_of y
  exclude log (Optimal f p l) (Optimal g q m) h k d e = refl
  exclude log (Optimal f p l) (Infeasible q m) h k d e = absurd (optimal_infeasible laws net sound supplies budget log f p q (subst (EndsOptimal net budget f p) d h) (subst (EndsInfeasible net budget q) e k))
  exclude log (Optimal f p l) (Unbounded g r m) h k d e = absurd (optimal_unbounded laws net sound supplies budget log f p g r (subst (EndsOptimal net budget f p) d h) (subst (EndsUnbounded net budget g r) e k))
  exclude log (Optimal f p l) (Budget a m) h k d e = absurd (optimal_budget laws net sound supplies budget log f p a (subst (EndsOptimal net budget f p) d h) (subst (EndsBudget net budget a) e k))
  exclude log (Optimal f p l) (Overflow o m) h k d e = absurd (optimal_not laws net sound supplies budget log f p (subst (EndsOptimal net budget f p) d h) o (subst (EndsOverflow net budget o) e k))
  exclude log (Infeasible p l) (Infeasible q m) h k d e = refl
  exclude log (Infeasible p l) (Unbounded g r m) h k d e = absurd (infeasible_unbounded laws net sound supplies budget log p g r (subst (EndsInfeasible net budget p) d h) (subst (EndsUnbounded net budget g r) e k))
  exclude log (Infeasible p l) (Budget a m) h k d e = absurd (infeasible_budget laws net sound supplies budget log p a (subst (EndsInfeasible net budget p) d h) (subst (EndsBudget net budget a) e k))
  exclude log (Infeasible p l) (Overflow o m) h k d e = absurd (infeasible_not laws net sound supplies budget log p (subst (EndsInfeasible net budget p) d h) o (subst (EndsOverflow net budget o) e k))
  exclude log (Unbounded f r l) (Unbounded g s m) h k d e = refl
  exclude log (Unbounded f r l) (Budget a m) h k d e = absurd (unbounded_budget laws net sound supplies budget log f r a (subst (EndsUnbounded net budget f r) d h) (subst (EndsBudget net budget a) e k))
  exclude log (Unbounded f r l) (Overflow o m) h k d e = absurd (unbounded_not laws net sound supplies budget log f r (subst (EndsUnbounded net budget f r) d h) o (subst (EndsOverflow net budget o) e k))
  exclude log (Budget a l) (Budget b m) h k d e = refl
  exclude log (Budget a l) (Overflow o m) h k d e = absurd (budget_not laws net sound supplies budget log a (subst (EndsBudget net budget a) d h) o (subst (EndsOverflow net budget o) e k))
  exclude log (Overflow o l) (Overflow p m) h k d e = refl
  exclude log (Infeasible q l) (Optimal g p m) h k d e = absurd (optimal_infeasible laws net sound supplies budget log g p q (subst (EndsOptimal net budget g p) e k) (subst (EndsInfeasible net budget q) d h))
  exclude log (Unbounded f r l) (Optimal g p m) h k d e = absurd (optimal_unbounded laws net sound supplies budget log g p f r (subst (EndsOptimal net budget g p) e k) (subst (EndsUnbounded net budget f r) d h))
  exclude log (Unbounded f r l) (Infeasible q m) h k d e = absurd (infeasible_unbounded laws net sound supplies budget log q f r (subst (EndsInfeasible net budget q) e k) (subst (EndsUnbounded net budget f r) d h))
  exclude log (Budget a l) (Optimal g p m) h k d e = absurd (optimal_budget laws net sound supplies budget log g p a (subst (EndsOptimal net budget g p) e k) (subst (EndsBudget net budget a) d h))
  exclude log (Budget a l) (Infeasible q m) h k d e = absurd (infeasible_budget laws net sound supplies budget log q a (subst (EndsInfeasible net budget q) e k) (subst (EndsBudget net budget a) d h))
  exclude log (Budget a l) (Unbounded g r m) h k d e = absurd (unbounded_budget laws net sound supplies budget log g r a (subst (EndsUnbounded net budget g r) e k) (subst (EndsBudget net budget a) d h))
  exclude log (Overflow o l) (Optimal g p m) h k d e = absurd (optimal_not laws net sound supplies budget log g p (subst (EndsOptimal net budget g p) e k) o (subst (EndsOverflow net budget o) d h))
  exclude log (Overflow o l) (Infeasible q m) h k d e = absurd (infeasible_not laws net sound supplies budget log q (subst (EndsInfeasible net budget q) e k) o (subst (EndsOverflow net budget o) d h))
  exclude log (Overflow o l) (Unbounded g r m) h k d e = absurd (unbounded_not laws net sound supplies budget log g r (subst (EndsUnbounded net budget g r) e k) o (subst (EndsOverflow net budget o) d h))
  exclude log (Overflow o l) (Budget a m) h k d e = absurd (budget_not laws net sound supplies budget log a (subst (EndsBudget net budget a) e k) o (subst (EndsOverflow net budget o) d h))

pub verdicts_exclude : Given → VerdictsExclude
verdicts_exclude laws net budget x y sound supplies h k e = exclude laws net sound supplies budget (log_of y) x y h k e refl
