-- Where the claim of a plan holds, what its sums come to is its exact amount, or an operation overflows: no clause fails.
use Rattle.std.specs.Prelude.{◌≡◌, ℕ, Option, Some, None, Result, Ok, Err, List, [], length}
use Rattle.std.proofs.Common.{refl, sym, ap, subst, ◌∙◌, inl, inr, arith}
use Rattle.std.proofs.lemmas.List.{length-map}
use Rattle.np_frac.specs.Ratio.{Ratio}
use Rattle.np_model.specs.declared.log.Log.{Log}
use Rattle.np_model.specs.declared.plan.Plan.{Plan}
use Rattle.np_model.specs.declared.plan.Verdict.TheVariants as verdict
use Rattle.np_model.specs.declared.scheme.Scheme.{Scheme}
use Rattle.np_model.specs.Scheme.Fits.{LogFits, PlanFits}
use Rattle.np_model.specs.Scheme.Segments.{hull}
use Rattle.np_model.specs.Scheme.Plans.{staged, scheme_cost, price_gap, IsFeasiblePlan, PricesShow, PricesForbid, FallsAlong}
use Rattle.cert_checker.specs.Laws.{WalkProves, AcceptsOrOverflows, AcceptsOptimal, AcceptsInfeasible, AcceptsUnbounded}
use Rattle.cert_checker.specs.Walk.{walk, accepted_unless, optimal_refusal, infeasible_refusal, Sums, UnlessMemory}
use Rattle.cert_checker.specs.declared.answer.Checked.{Checked}
use Rattle.cert_checker.specs.declared.answer.Checked.TheVariants as checked
use Rattle.cert_checker.specs.declared.answer.Clause.{Clause}
use Rattle.cert_checker.specs.declared.answer.CheckRefusal.{CheckRefusal}
use Rattle.cert_checker.specs.declared.answer.CheckRefusal.TheVariants as refusal
use Rattle.certificates.specs.Certificates.{optimal_plan, infeasible_plan, unbounded_plan, unless_overflow, unless_walk_overflows, Certifies}
use Rattle.certificates.specs.Steps.Certifying.{IsNoReject, told_of_walk}

never_rejects : (w : Result Checked CheckRefusal) (answer : Checked) (clause : Clause) (name : Option ℕ) (period : ℕ) → AcceptsOrOverflows w answer
    → w ≡ Err (refusal.Reject clause name period) → ⊥
never_rejects w answer clause name period (inl e) h = absurd (cc (e, h))
never_rejects w answer clause name period (inr (row, past, e)) h = absurd (cc (e, h))

-- a walk that refuses this whatever amount is claimed, and what it answers of the exact one
module _ (refused : Ratio → Option CheckRefusal) (exact : Ratio) (w : Result Checked CheckRefusal) (answer : Checked)
    (is : w ≡ accepted_unless (refused exact) answer) (law : AcceptsOrOverflows w answer) where
  refuses : (r : CheckRefusal) → refused exact ≡ Some r → w ≡ Err r
  refuses r e = is ∙ ap (λ (o : Option CheckRefusal). accepted_unless o answer) e

  sums_no_reject : (r : CheckRefusal) → Sums (Err r) refused → IsNoReject r
  sums_no_reject (refusal.Reject clause name period) told = never_rejects w answer clause name period law (refuses (refusal.Reject clause name period) (told exact))
  sums_no_reject (refusal.Past row past) told = tt
  sums_no_reject refusal.Memory told = tt

  sums_told : (plan : Plan) (r : CheckRefusal) → Sums (Err r) refused → Certifies (Err (told_of_walk r)) (unless_overflow w plan)
  sums_told plan (refusal.Reject clause name period) told = tt
  sums_told plan (refusal.Past row past) told = ap (λ (z : Result Checked CheckRefusal). unless_overflow z plan) (refuses (refusal.Past row past) (told exact))
  sums_told plan refusal.Memory told = tt

-- ---- a plan without a log

abbrev pub no_log : Log
no_log = record { turned = None; entries = [] }

pub no_log_fits : LogFits no_log
no_log_fits = record {
  turned = record {};
  few = omega arith;
  numbers = λ k d l. absurd (omega (arith, l));
  at_bounds = λ k d l. absurd (omega (arith, l));
}

-- ---- an optimal plan

module _ (scheme : Scheme) (x p : List Ratio) (log : Log) (feasible : IsFeasiblePlan scheme x) (shows : PricesShow scheme p x) where
  abbrev pub claim : Ratio → Plan
  claim cost = record { verdict = verdict.Optimal; amount = Some cost; flows = x; prices = p; ray = []; arc = None; overflow = None; log = log }

  -- the walk reads no log, and so it answers the same without one
  abbrev pub bare : Ratio → Plan
  bare cost = record { verdict = verdict.Optimal; amount = Some cost; flows = x; prices = p; ray = []; arc = None; overflow = None; log = no_log }

  pub claim_fits : LogFits log → (cost : Ratio) → PlanFits scheme (claim cost)
  claim_fits log_fits cost = record {
    amount = λ t. refl;
    arc = λ t. absurd (cc t);
    overflow = λ t. absurd (cc t);
    flows = λ t. feasible.one_each ∙ length-map (staged scheme) hull;
    prices = λ t. shows.one_each;
    ray = λ t. absurd (cc t);
    log = log_fits;
  }

  bare_fits : (cost : Ratio) → PlanFits scheme (bare cost)
  bare_fits cost = record {
    amount = λ t. refl;
    arc = λ t. absurd (cc t);
    overflow = λ t. absurd (cc t);
    flows = λ t. feasible.one_each ∙ length-map (staged scheme) hull;
    prices = λ t. shows.one_each;
    ray = λ t. absurd (cc t);
    log = no_log_fits;
  }

  abbrev pub refused_at : Ratio → Option CheckRefusal
  refused_at = optimal_refusal (length scheme.nodes) scheme.supply (staged scheme) x p

  walk_at : (cost : Ratio) → walk scheme (claim cost) ≡ accepted_unless (refused_at cost) (checked.Optimal cost)
  unfolding walk
  walk_at cost = refl

  same_walk : (cost : Ratio) → walk scheme (bare cost) ≡ walk scheme (claim cost)
  unfolding walk
  same_walk cost = refl

  at_cost : AcceptsOptimal → AcceptsOrOverflows (walk scheme (claim (scheme_cost scheme x))) (checked.Optimal (scheme_cost scheme x))
  at_cost law =
      subst (λ (w : Result Checked CheckRefusal). AcceptsOrOverflows w (checked.Optimal (scheme_cost scheme x))) (same_walk (scheme_cost scheme x))
      (law scheme (bare (scheme_cost scheme x)) (bare_fits (scheme_cost scheme x)) refl feasible shows refl)

  -- the same of lists that are read
  optimal_read : (y q : List Ratio) → y ≡ x → q ≡ p → (res : Result Ratio CheckRefusal) → Sums res (optimal_refusal (length scheme.nodes) scheme.supply (staged scheme) y q) → Sums res refused_at
  optimal_read y q a b res told =
      let same : optimal_refusal (length scheme.nodes) scheme.supply (staged scheme) y q ≡ refused_at =
      λ i. optimal_refusal (length scheme.nodes) scheme.supply (staged scheme) (a i) (b i)
      in
      subst (λ (f : Ratio → Option CheckRefusal). Sums res f) same told

  pub optimal_no_reject : AcceptsOptimal → (y q : List Ratio) → y ≡ x → q ≡ p → (r : CheckRefusal) → Sums (Err r) (optimal_refusal (length scheme.nodes) scheme.supply (staged scheme) y q) → IsNoReject r
  optimal_no_reject law y q a b r told =
      sums_no_reject refused_at (scheme_cost scheme x) (walk scheme (claim (scheme_cost scheme x))) (checked.Optimal (scheme_cost scheme x)) (walk_at (scheme_cost scheme x)) (at_cost law) r
      (optimal_read y q a b (Err r) told)

  pub optimal_told : AcceptsOptimal → (y q : List Ratio) → y ≡ x → q ≡ p → (r : CheckRefusal) → Sums (Err r) (optimal_refusal (length scheme.nodes) scheme.supply (staged scheme) y q)
      → Certifies (Err (told_of_walk r)) (unless_walk_overflows scheme (optimal_plan scheme x p log))
  optimal_told law y q a b r told =
      sums_told refused_at (scheme_cost scheme x) (walk scheme (claim (scheme_cost scheme x))) (checked.Optimal (scheme_cost scheme x)) (walk_at (scheme_cost scheme x)) (at_cost law)
      (claim (scheme_cost scheme x)) r (optimal_read y q a b (Err r) told)

  module _ (law : WalkProves) (cost : Ratio) (none : refused_at cost ≡ None) where
    accepts_claim : walk scheme (claim cost) ≡ Ok (checked.Optimal cost)
    accepts_claim = walk_at cost ∙ ap (λ (o : Option CheckRefusal). accepted_unless o (checked.Optimal cost)) none

    claim_is_cost : cost ≡ scheme_cost scheme x
    claim_is_cost = sym ((law scheme (bare cost) (checked.Optimal cost) (bare_fits cost) (same_walk cost ∙ accepts_claim)).cost_is)

    accepts_cost : walk scheme (claim cost) ≡ Ok (checked.Optimal (scheme_cost scheme x))
    accepts_cost = accepts_claim ∙ ap (λ (c : Ratio). Ok (checked.Optimal c)) claim_is_cost

    gives_claim : unless_walk_overflows scheme (optimal_plan scheme x p log) ≡ Ok (claim cost)
    gives_claim =
        subst (λ (c : Ratio). unless_walk_overflows scheme (claim c) ≡ Ok (claim cost)) claim_is_cost
        (ap (λ (w : Result Checked CheckRefusal). unless_overflow w (claim cost)) accepts_claim)

  pub optimal_accepted : WalkProves → (y q : List Ratio) → y ≡ x → q ≡ p → (cost : Ratio) → Sums (Ok cost) (optimal_refusal (length scheme.nodes) scheme.supply (staged scheme) y q)
      → walk scheme (claim cost) ≡ Ok (checked.Optimal (scheme_cost scheme x))
  optimal_accepted law y q a b cost told = accepts_cost law cost (optimal_read y q a b (Ok cost) told)

  pub optimal_given : WalkProves → (y q : List Ratio) → y ≡ x → q ≡ p → (cost : Ratio) → Sums (Ok cost) (optimal_refusal (length scheme.nodes) scheme.supply (staged scheme) y q)
      → unless_walk_overflows scheme (optimal_plan scheme x p log) ≡ Ok (claim cost)
  optimal_given law y q a b cost told = gives_claim law cost (optimal_read y q a b (Ok cost) told)

-- ---- an infeasible one

module _ (scheme : Scheme) (p : List Ratio) (log : Log) (forbids : PricesForbid scheme p) where
  abbrev pub gap_claim : Ratio → Plan
  gap_claim gap = record { verdict = verdict.Infeasible; amount = Some gap; flows = []; prices = p; ray = []; arc = None; overflow = None; log = log }

  abbrev pub bare_gap : Ratio → Plan
  bare_gap gap = record { verdict = verdict.Infeasible; amount = Some gap; flows = []; prices = p; ray = []; arc = None; overflow = None; log = no_log }

  pub gap_claim_fits : LogFits log → (gap : Ratio) → PlanFits scheme (gap_claim gap)
  gap_claim_fits log_fits gap = record {
    amount = λ t. refl;
    arc = λ t. absurd (cc t);
    overflow = λ t. absurd (cc t);
    flows = λ t. absurd (cc t);
    prices = λ t. forbids.one_each;
    ray = λ t. absurd (cc t);
    log = log_fits;
  }

  bare_gap_fits : (gap : Ratio) → PlanFits scheme (bare_gap gap)
  bare_gap_fits gap = record {
    amount = λ t. refl;
    arc = λ t. absurd (cc t);
    overflow = λ t. absurd (cc t);
    flows = λ t. absurd (cc t);
    prices = λ t. forbids.one_each;
    ray = λ t. absurd (cc t);
    log = no_log_fits;
  }

  abbrev pub gap_refused : Ratio → Option CheckRefusal
  gap_refused = infeasible_refusal scheme.supply (staged scheme) p

  gap_walk : (gap : Ratio) → walk scheme (gap_claim gap) ≡ accepted_unless (gap_refused gap) (checked.Infeasible gap)
  unfolding walk
  gap_walk gap = refl

  same_gap_walk : (gap : Ratio) → walk scheme (bare_gap gap) ≡ walk scheme (gap_claim gap)
  unfolding walk
  same_gap_walk gap = refl

  at_gap : AcceptsInfeasible → AcceptsOrOverflows (walk scheme (gap_claim (price_gap scheme p))) (checked.Infeasible (price_gap scheme p))
  at_gap law =
      subst (λ (w : Result Checked CheckRefusal). AcceptsOrOverflows w (checked.Infeasible (price_gap scheme p))) (same_gap_walk (price_gap scheme p))
      (law scheme (bare_gap (price_gap scheme p)) (bare_gap_fits (price_gap scheme p)) refl forbids refl)

  infeasible_read : (q : List Ratio) → q ≡ p → (res : Result Ratio CheckRefusal) → Sums res (infeasible_refusal scheme.supply (staged scheme) q) → Sums res gap_refused
  infeasible_read q a res told = subst (λ (l : List Ratio). Sums res (infeasible_refusal scheme.supply (staged scheme) l)) a told

  pub infeasible_no_reject : AcceptsInfeasible → (q : List Ratio) → q ≡ p → (r : CheckRefusal) → Sums (Err r) (infeasible_refusal scheme.supply (staged scheme) q) → IsNoReject r
  infeasible_no_reject law q a r told =
      sums_no_reject gap_refused (price_gap scheme p) (walk scheme (gap_claim (price_gap scheme p))) (checked.Infeasible (price_gap scheme p)) (gap_walk (price_gap scheme p)) (at_gap law) r
      (infeasible_read q a (Err r) told)

  pub infeasible_told : AcceptsInfeasible → (q : List Ratio) → q ≡ p → (r : CheckRefusal) → Sums (Err r) (infeasible_refusal scheme.supply (staged scheme) q)
      → Certifies (Err (told_of_walk r)) (unless_walk_overflows scheme (infeasible_plan scheme p log))
  infeasible_told law q a r told =
      sums_told gap_refused (price_gap scheme p) (walk scheme (gap_claim (price_gap scheme p))) (checked.Infeasible (price_gap scheme p)) (gap_walk (price_gap scheme p)) (at_gap law)
      (gap_claim (price_gap scheme p)) r (infeasible_read q a (Err r) told)

  module _ (law : WalkProves) (gap : Ratio) (none : gap_refused gap ≡ None) where
    accepts_gap_claim : walk scheme (gap_claim gap) ≡ Ok (checked.Infeasible gap)
    accepts_gap_claim = gap_walk gap ∙ ap (λ (o : Option CheckRefusal). accepted_unless o (checked.Infeasible gap)) none

    claim_is_gap : gap ≡ price_gap scheme p
    claim_is_gap = sym ((law scheme (bare_gap gap) (checked.Infeasible gap) (bare_gap_fits gap) (same_gap_walk gap ∙ accepts_gap_claim)).gap_is)

    accepts_gap : walk scheme (gap_claim gap) ≡ Ok (checked.Infeasible (price_gap scheme p))
    accepts_gap = accepts_gap_claim ∙ ap (λ (g : Ratio). Ok (checked.Infeasible g)) claim_is_gap

    gives_gap_claim : unless_walk_overflows scheme (infeasible_plan scheme p log) ≡ Ok (gap_claim gap)
    gives_gap_claim =
        subst (λ (g : Ratio). unless_walk_overflows scheme (gap_claim g) ≡ Ok (gap_claim gap)) claim_is_gap
        (ap (λ (w : Result Checked CheckRefusal). unless_overflow w (gap_claim gap)) accepts_gap_claim)

  pub infeasible_accepted : WalkProves → (q : List Ratio) → q ≡ p → (gap : Ratio) → Sums (Ok gap) (infeasible_refusal scheme.supply (staged scheme) q)
      → walk scheme (gap_claim gap) ≡ Ok (checked.Infeasible (price_gap scheme p))
  infeasible_accepted law q a gap told = accepts_gap law gap (infeasible_read q a (Ok gap) told)

  pub infeasible_given : WalkProves → (q : List Ratio) → q ≡ p → (gap : Ratio) → Sums (Ok gap) (infeasible_refusal scheme.supply (staged scheme) q)
      → unless_walk_overflows scheme (infeasible_plan scheme p log) ≡ Ok (gap_claim gap)
  infeasible_given law q a gap told = gives_gap_claim law gap (infeasible_read q a (Ok gap) told)

-- ---- an unbounded one, which is walked without its log

module _ (scheme : Scheme) (x d p : List Ratio) (bare log : Log) where
  abbrev pub ray_claim : List Ratio → Log → Plan
  ray_claim q l = record { verdict = verdict.Unbounded; amount = None; flows = x; prices = q; ray = d; arc = None; overflow = None; log = l }

  same_ray_walk : walk scheme (ray_claim p bare) ≡ walk scheme (ray_claim [] log)
  unfolding walk
  same_ray_walk = refl

  ray_fits : FallsAlong scheme x d → LogFits bare → PlanFits scheme (ray_claim p bare)
  ray_fits falls log_fits = record {
    amount = λ t. absurd (cc t);
    arc = λ t. absurd (cc t);
    overflow = λ t. absurd (cc t);
    flows = λ t. falls.feasible.one_each ∙ length-map (staged scheme) hull;
    prices = λ t. absurd (cc t);
    ray = λ t. falls.one_each ∙ length-map (staged scheme) hull;
    log = log_fits;
  }

  pub unbounded_told : AcceptsUnbounded → FallsAlong scheme x d → LogFits bare → (r : CheckRefusal) → UnlessMemory (Err r) (walk scheme (ray_claim p bare))
      → Certifies (Err (told_of_walk r)) (unless_walk_overflows scheme (unbounded_plan x d log))
  unbounded_told law falls log_fits (refusal.Reject clause name period) told =
      absurd (never_rejects (walk scheme (ray_claim p bare)) checked.Unbounded clause name period (law scheme (ray_claim p bare) (ray_fits falls log_fits) refl falls) (sym told))
  unbounded_told law falls log_fits (refusal.Past row past) told = ap (λ (w : Result Checked CheckRefusal). unless_overflow w (unbounded_plan x d log)) (sym (told ∙ same_ray_walk))
  unbounded_told law falls log_fits refusal.Memory told = tt

  pub unbounded_given : p ≡ [] → (answer : Checked) → UnlessMemory (Ok answer) (walk scheme (ray_claim p bare)) → unless_walk_overflows scheme (unbounded_plan x d log) ≡ Ok (ray_claim p log)
  unbounded_given none answer told =
      ap (λ (w : Result Checked CheckRefusal). unless_overflow w (unbounded_plan x d log)) (sym (told ∙ same_ray_walk))
      ∙ ap (λ (q : List Ratio). Ok (ray_claim q log)) (sym none)

  accepts_ray : (w : Result Checked CheckRefusal) (answer : Checked) → Ok answer ≡ w → AcceptsOrOverflows w checked.Unbounded → w ≡ Ok checked.Unbounded
  accepts_ray w answer told (inl e) = e
  accepts_ray w answer told (inr (row, past, e)) = absurd (cc (told, e))

  pub unbounded_accepted : AcceptsUnbounded → FallsAlong scheme x d → LogFits bare → p ≡ [] → (answer : Checked) → UnlessMemory (Ok answer) (walk scheme (ray_claim p bare))
      → walk scheme (ray_claim p log) ≡ Ok checked.Unbounded
  unbounded_accepted law falls log_fits none answer told =
      ap (λ (q : List Ratio). walk scheme (ray_claim q log)) none ∙ sym same_ray_walk
      ∙ accepts_ray (walk scheme (ray_claim p bare)) answer told (law scheme (ray_claim p bare) (ray_fits falls log_fits) refl falls)
