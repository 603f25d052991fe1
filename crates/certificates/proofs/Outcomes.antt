-- From an outcome that has ended to what it shows of the scheme.
use Rattle.std.specs.Prelude.{◌≡◌, ℕ, List, length}
use Rattle.std.proofs.Common.{sym, ap, subst, ◌∙◌}
use Rattle.np_frac.specs.Ratio.{Ratio}
use Rattle.np_model.specs.declared.outcome.Outcome.{Outcome}
use Rattle.np_model.specs.declared.scheme.Scheme.{Scheme}
use Rattle.np_model.specs.declared.log.Log.{Log}
use Rattle.np_model.specs.declared.outcome.Outcome.TheVariants as outcome
use Rattle.np_model.specs.declared.rows.Overflow.{Overflow}
use Rattle.np_model.specs.Scheme.Fits.{LogFits, PlanFits}
use Rattle.np_model.specs.Scheme.Segments.{Stage}
use Rattle.np_model.specs.Scheme.Plans.{staged, IsFeasiblePlan, PricesShow, PricesForbid, FallsAlong}
use Rattle.np_basis.specs.Laws.{HasSoundArcs}
use Rattle.np_runs.specs.Verdicts.{OptimalCertifies, InfeasibleCertifies, UnboundedCertifies, EndedFits, log_of}
use Rattle.period_expand.specs.Expansion.{IsExpansion}
use Rattle.convex_arcs.specs.Filled.{GatheredIsShown, ForbidsPlans, GatheredFalls}
use Rattle.convex_arcs.specs.Gathered.{AmountsFeasible, amounts_of}
use Rattle.convex_arcs.specs.Segments.{flat_arcs}
use Rattle.convex_arcs.specs.Schemes.{net_of, ExpandedIsNet}
use Rattle.certificates.specs.Certificates.{HasEnded, HasEndedWithin, budget_plan, overflow_plan, OptimalShows, InfeasibleForbids, UnboundedFalls, EndedPartsFit, EndedLogFits}
use Rattle.certificates.proofs.Supplies.{supplies_fit}

module _ (net : ExpandedIsNet) (expands : (scheme : Scheme) → IsExpansion scheme.supply (staged scheme)) where
  sound : (scheme : Scheme) → HasSoundArcs (net_of scheme)
  sound scheme = (net scheme).sound

  pub optimal_shows : OptimalCertifies → AmountsFeasible → GatheredIsShown → OptimalShows
  optimal_shows law feasible shown scheme flows potentials log (budget, ended) =
      let certified = law (net_of scheme) budget flows potentials log (sound scheme) (supplies_fit scheme) ended in
      (feasible scheme.supply (staged scheme) flows certified.0, shown scheme.supply (staged scheme) potentials flows (expands scheme) certified.0 certified.1)

  pub infeasible_forbids : InfeasibleCertifies → ForbidsPlans → InfeasibleForbids
  infeasible_forbids law forbids scheme potentials log (budget, ended) =
      (forbids scheme.supply (staged scheme) potentials (law (net_of scheme) budget potentials log (sound scheme) (supplies_fit scheme) ended).0).0

  pub unbounded_falls : UnboundedCertifies → GatheredFalls → UnboundedFalls
  unbounded_falls law falls scheme flows ray log (budget, ended) =
      falls scheme.supply (staged scheme) flows ray (expands scheme) (law (net_of scheme) budget flows ray log (sound scheme) (supplies_fit scheme) ended)

  pub parts_fit : EndedFits → EndedPartsFit
  parts_fit law scheme o (budget, ended) = (law (net_of scheme) budget o (net scheme) (supplies_fit scheme) ended).0

  pub log_fits : EndedFits → EndedLogFits
  log_fits law scheme o (budget, few, ended) = (law (net_of scheme) budget o (net scheme) (supplies_fit scheme) ended).1 few

-- ---- of the outcome that is given, with the parts that are copied

module _ (scheme : Scheme) (stages : List Stage) (staged_is : stages ≡ staged scheme) (o : Outcome) (ended : HasEnded scheme o) where
  pub fits_of : EndedLogFits → HasEndedWithin 1000000 scheme o → (log copy : Log) → copy ≡ log → log_of o ≡ log → LogFits copy
  fits_of law within log copy same is = subst LogFits (is ∙ sym same) (law scheme o within)

  as_many : (n : ℕ) → n ≡ length (flat_arcs (staged scheme)) → n ≡ length (flat_arcs stages)
  as_many n e = e ∙ ap (λ (s : List Stage). length (flat_arcs s)) (sym staged_is)

  -- amounts that were gathered of the stages are those of the scheme
  are_gathered : (flows amounts : List Ratio) → amounts ≡ amounts_of stages flows → amounts_of (staged scheme) flows ≡ amounts
  are_gathered flows amounts e = sym (e ∙ ap (λ (s : List Stage). amounts_of s flows) staged_is)

  module _ (flows p : List Ratio) (log : Log) (is : o ≡ outcome.Optimal flows p log) where
    ended_optimal : HasEnded scheme (outcome.Optimal flows p log)
    ended_optimal = subst (HasEnded scheme) is ended

    pub optimal_flows : EndedPartsFit → length flows ≡ length (flat_arcs stages)
    optimal_flows law = as_many (length flows) (law scheme (outcome.Optimal flows p log) ended_optimal).0

    pub optimal_log : EndedLogFits → HasEndedWithin 1000000 scheme o → (copy : Log) → copy ≡ log → LogFits copy
    optimal_log law within copy same = fits_of law within log copy same (ap log_of is)

    pub optimal_feasible : OptimalShows → (amounts : List Ratio) → amounts ≡ amounts_of stages flows → IsFeasiblePlan scheme amounts
    optimal_feasible law amounts e = subst (IsFeasiblePlan scheme) (are_gathered flows amounts e) (law scheme flows p log ended_optimal).0

    pub optimal_shown : OptimalShows → (amounts prices : List Ratio) → amounts ≡ amounts_of stages flows → prices ≡ p → PricesShow scheme prices amounts
    optimal_shown law amounts prices e same =
        subst (λ (q : List Ratio). PricesShow scheme q amounts) (sym same)
        (subst (PricesShow scheme p) (are_gathered flows amounts e) (law scheme flows p log ended_optimal).1)

  module _ (p : List Ratio) (log : Log) (is : o ≡ outcome.Infeasible p log) where
    pub infeasible_log : EndedLogFits → HasEndedWithin 1000000 scheme o → (copy : Log) → copy ≡ log → LogFits copy
    infeasible_log law within copy same = fits_of law within log copy same (ap log_of is)

    pub infeasible_prices : InfeasibleForbids → (prices : List Ratio) → prices ≡ p → PricesForbid scheme prices
    infeasible_prices law prices same = subst (PricesForbid scheme) (sym same) (law scheme p log (subst (HasEnded scheme) is ended))

  module _ (flows ray : List Ratio) (log : Log) (is : o ≡ outcome.Unbounded flows ray log) where
    ended_unbounded : HasEnded scheme (outcome.Unbounded flows ray log)
    ended_unbounded = subst (HasEnded scheme) is ended

    pub unbounded_flows : EndedPartsFit → length flows ≡ length (flat_arcs stages)
    unbounded_flows law = as_many (length flows) (law scheme (outcome.Unbounded flows ray log) ended_unbounded).0

    pub unbounded_ray : EndedPartsFit → length ray ≡ length (flat_arcs stages)
    unbounded_ray law = as_many (length ray) (law scheme (outcome.Unbounded flows ray log) ended_unbounded).1

    pub unbounded_log : EndedLogFits → HasEndedWithin 1000000 scheme o → (copy : Log) → copy ≡ log → LogFits copy
    unbounded_log law within copy same = fits_of law within log copy same (ap log_of is)

    pub unbounded_amounts : UnboundedFalls → (amounts direction : List Ratio) → amounts ≡ amounts_of stages flows → direction ≡ amounts_of stages ray → FallsAlong scheme amounts direction
    unbounded_amounts law amounts direction e f =
        subst (λ (x : List Ratio). FallsAlong scheme x direction) (are_gathered flows amounts e)
        (subst (FallsAlong scheme (amounts_of (staged scheme) flows)) (are_gathered ray direction f) (law scheme flows ray log ended_unbounded))

  pub budget_fits : EndedPartsFit → EndedLogFits → HasEndedWithin 1000000 scheme o → (arc : ℕ) (log copy : Log) → o ≡ outcome.Budget arc log → copy ≡ log → PlanFits scheme (budget_plan arc copy)
  budget_fits law logs within arc log copy is same = record {
    amount = λ t. absurd (cc t);
    arc = λ t. law scheme (outcome.Budget arc log) (subst (HasEnded scheme) is ended);
    overflow = λ t. absurd (cc t);
    flows = λ t. absurd (cc t);
    prices = λ t. absurd (cc t);
    ray = λ t. absurd (cc t);
    log = fits_of logs within log copy same (ap log_of is);
  }

  pub overflow_fits : EndedPartsFit → EndedLogFits → HasEndedWithin 1000000 scheme o → (overflow : Overflow) (log copy : Log) → o ≡ outcome.Overflow overflow log → copy ≡ log → PlanFits scheme (overflow_plan overflow copy)
  overflow_fits law logs within overflow log copy is same = record {
    amount = λ t. absurd (cc t);
    arc = λ t. absurd (cc t);
    overflow = λ t. law scheme (outcome.Overflow overflow log) (subst (HasEnded scheme) is ended);
    flows = λ t. absurd (cc t);
    prices = λ t. absurd (cc t);
    ray = λ t. absurd (cc t);
    log = fits_of logs within log copy same (ap log_of is);
  }
