-- What the walk over a plan of each verdict shows of it, and what it takes to accept one.
use Rattle.std.specs.Prelude.{◌≡◌, ℕ, Option, Some, None, Result, Ok, Err, IfOk, List, length, unwrap_or}
use Rattle.std.specs.List.{AllByRecursion}
use Rattle.std.proofs.Common.{refl, sym, ap, subst}
use Rattle.std.proofs.lemmas.List.Elements.{recursion_from_All}
use Rattle.np_frac.specs.Ratio.{Ratio, zero_ratio}
use Rattle.np_model.specs.declared.scheme.Scheme.{Scheme}
use Rattle.np_model.specs.declared.plan.Verdict.{Verdict}
use Rattle.np_model.specs.declared.plan.Verdict.TheVariants as verdict
use Rattle.np_model.specs.declared.plan.Plan.{Plan}
use Rattle.np_model.specs.Scheme.Segments.{Stage}
use Rattle.np_model.specs.Scheme.Plans.{staged, scheme_cost, price_gap, IsFeasiblePlan}
use Rattle.np_model.specs.Scheme.Fits.{FitsAs, PlanFits}
use Rattle.cert_checker.specs.Walk.{walk, walk_as, claimed_amount, feasible_refusal, shown_refusal, optimal_refusal, infeasible_refusal, falling_refusal, unbounded_refusal, accepted_unless, UnlessMemory}
use Rattle.np_model.specs.Network.Arcs.{AreNodes}
use Rattle.cert_checker.specs.Proves.{ProvesOptimal, ProvesInfeasible, ProvesUnbounded, Proves}
use Rattle.cert_checker.specs.Laws.{WalkProves, AcceptsOrOverflows, AcceptsOptimal, AcceptsInfeasible, AcceptsUnbounded}
use Rattle.cert_checker.specs.declared.answer.CheckRefusal.{CheckRefusal}
use Rattle.cert_checker.specs.declared.answer.Checked.{Checked}
use Rattle.cert_checker.specs.declared.answer.Checked.TheVariants as checked
use Rattle.np_model.proofs.Staged.{prices_prove, prices_exclude, rays_prove}
use Rattle.cert_checker.proofs.Arcs.{staged_joined}
use Rattle.cert_checker.proofs.Theorem.{both_none, feasible_by_walk, shown_by_walk, cost_by_walk, forbidden_by_walk, falls_by_walk}
use Rattle.cert_checker.proofs.Accepts.{accepts, optimal_accepts, infeasible_accepts, unbounded_accepts}
use Rattle.cert_checker.proofs.Whole.{walk_optimal, walk_infeasible, walk_unbounded, optimal_fits, infeasible_fits}

-- ---- what an accepted plan is

joined_prices : (scheme : Scheme) (p : List Ratio) → length p ≡ length scheme.supply → AllByRecursion (λ s. AreNodes (length p) s.ends) (staged scheme)
joined_prices scheme p e =
    subst (λ (n : ℕ). AllByRecursion (λ (s : Stage). AreNodes n s.ends) (staged scheme)) (sym e) (recursion_from_All (λ s. AreNodes (length scheme.supply) s.ends) (staged scheme) (staged_joined scheme))

proves_optimal : (scheme : Scheme) (plan : Plan) → FitsAs verdict.Optimal scheme plan → feasible_refusal (length scheme.nodes) scheme.supply (staged scheme) plan.flows ≡ None
    → shown_refusal (staged scheme) plan.flows plan.prices (claimed_amount plan) ≡ None → ProvesOptimal scheme plan (claimed_amount plan)
proves_optimal scheme plan fits feasible shown =
    let is_feasible : IsFeasiblePlan scheme plan.flows = feasible_by_walk (length scheme.nodes) scheme.supply (staged scheme) plan.flows (fits.flows refl) feasible in
    let shows = shown_by_walk scheme.supply (staged scheme) plan.prices plan.flows (claimed_amount plan) (fits.prices refl) (joined_prices scheme plan.prices (fits.prices refl)) shown in
    record {
      least = prices_prove scheme plan.prices plan.flows is_feasible shows;
      cost_is = cost_by_walk scheme.supply (staged scheme) plan.prices plan.flows (claimed_amount plan) shown;
      shown = shows;
    }

proves_infeasible : (scheme : Scheme) (plan : Plan) → FitsAs verdict.Infeasible scheme plan → infeasible_refusal scheme.supply (staged scheme) plan.prices (claimed_amount plan) ≡ None → ProvesInfeasible scheme plan (claimed_amount plan)
proves_infeasible scheme plan fits none =
    let forbids = forbidden_by_walk scheme.supply (staged scheme) plan.prices (claimed_amount plan) (fits.prices refl) (joined_prices scheme plan.prices (fits.prices refl)) none in
    record { forbid = forbids.0; gap_is = forbids.1; none = prices_exclude scheme plan.prices forbids.0 }

proves_unbounded : (scheme : Scheme) (plan : Plan) → FitsAs verdict.Unbounded scheme plan → feasible_refusal (length scheme.nodes) scheme.supply (staged scheme) plan.flows ≡ None
    → falling_refusal (length scheme.nodes) scheme.supply (staged scheme) plan.ray ≡ None → ProvesUnbounded scheme plan
proves_unbounded scheme plan fits feasible falling =
    let is_feasible : IsFeasiblePlan scheme plan.flows = feasible_by_walk (length scheme.nodes) scheme.supply (staged scheme) plan.flows (fits.flows refl) feasible in
    let falls = falls_by_walk (length scheme.nodes) scheme.supply (staged scheme) plan.flows plan.ray (fits.ray refl) is_feasible falling in
    record { falls = falls; cheaper = rays_prove scheme plan.flows plan.ray falls }

accepted : (o : Option CheckRefusal) (x answer : Checked) → accepted_unless o x ≡ Ok answer → (o ≡ None) × (x ≡ answer)
accepted None x answer e = (refl, cc e)
accepted (Some r) x answer e = absurd (cc e)

proves_as : (v : Verdict) (scheme : Scheme) (plan : Plan) (answer : Checked) → FitsAs v scheme plan → walk_as v scheme plan ≡ Ok answer → Proves scheme plan answer
proves_as verdict.Optimal scheme plan answer fits e =
    let found = accepted (optimal_refusal (length scheme.nodes) scheme.supply (staged scheme) plan.flows plan.prices (claimed_amount plan)) (checked.Optimal (claimed_amount plan)) answer e in
    let parts = both_none (feasible_refusal (length scheme.nodes) scheme.supply (staged scheme) plan.flows) (shown_refusal (staged scheme) plan.flows plan.prices (claimed_amount plan)) found.0 in
    subst (λ (a : Checked). Proves scheme plan a) found.1 (proves_optimal scheme plan fits parts.0 parts.1)
proves_as verdict.Infeasible scheme plan answer fits e =
    let found = accepted (infeasible_refusal scheme.supply (staged scheme) plan.prices (claimed_amount plan)) (checked.Infeasible (claimed_amount plan)) answer e in
    subst (λ (a : Checked). Proves scheme plan a) found.1 (proves_infeasible scheme plan fits found.0)
proves_as verdict.Unbounded scheme plan answer fits e =
    let found = accepted (unbounded_refusal (length scheme.nodes) scheme.supply (staged scheme) plan.flows plan.ray) checked.Unbounded answer e in
    let parts = both_none (feasible_refusal (length scheme.nodes) scheme.supply (staged scheme) plan.flows) (falling_refusal (length scheme.nodes) scheme.supply (staged scheme) plan.ray) found.0 in
    subst (λ (a : Checked). Proves scheme plan a) found.1 (proves_unbounded scheme plan fits parts.0 parts.1)
proves_as verdict.Budget scheme plan answer fits e = absurd (cc e)
proves_as verdict.Overflow scheme plan answer fits e = absurd (cc e)

pub walk_proves : WalkProves
unfolding walk
walk_proves scheme plan answer fits e = proves_as plan.verdict scheme plan answer fits e

-- an answer that is the walk's unless memory ran out
pub proves_by_walk : WalkProves → (scheme : Scheme) (plan : Plan) (found : Result Checked CheckRefusal) → PlanFits scheme plan → UnlessMemory found (walk scheme plan) → IfOk found (Proves scheme plan)
proves_by_walk law scheme plan (Ok answer) fits told = law scheme plan answer fits (sym told)
proves_by_walk law scheme plan (Err r) fits told = tt

-- ---- what is accepted

amount_is : (plan : Plan) (r : Ratio) → plan.amount ≡ Some r → r ≡ claimed_amount plan
amount_is plan r e = sym (ap (λ (o : Option Ratio). unwrap_or o zero_ratio) e)

pub accepts_optimal : AcceptsOptimal
accepts_optimal scheme plan fits is feasible shows amount =
    let cost = amount_is plan (scheme_cost scheme plan.flows) amount in
    let nodes = joined_prices scheme plan.prices ((optimal_fits scheme plan is fits).prices refl) in
    let told = accepts (optimal_refusal (length scheme.nodes) scheme.supply (staged scheme) plan.flows plan.prices (claimed_amount plan)) (checked.Optimal (claimed_amount plan))
    (optimal_accepts scheme.supply (staged scheme) plan.prices plan.flows (length scheme.nodes) (claimed_amount plan) nodes feasible shows cost) in
    subst (λ (r : Ratio). AcceptsOrOverflows (walk scheme plan) (checked.Optimal r)) (sym cost)
    (subst (λ (w : Result Checked CheckRefusal). AcceptsOrOverflows w (checked.Optimal (claimed_amount plan))) (sym (walk_optimal scheme plan is)) told)

pub accepts_infeasible : AcceptsInfeasible
accepts_infeasible scheme plan fits is forbids amount =
    let gap = amount_is plan (price_gap scheme plan.prices) amount in
    let nodes = joined_prices scheme plan.prices ((infeasible_fits scheme plan is fits).prices refl) in
    let told = accepts (infeasible_refusal scheme.supply (staged scheme) plan.prices (claimed_amount plan)) (checked.Infeasible (claimed_amount plan))
    (infeasible_accepts scheme.supply (staged scheme) plan.prices (claimed_amount plan) nodes forbids gap) in
    subst (λ (r : Ratio). AcceptsOrOverflows (walk scheme plan) (checked.Infeasible r)) (sym gap)
    (subst (λ (w : Result Checked CheckRefusal). AcceptsOrOverflows w (checked.Infeasible (claimed_amount plan))) (sym (walk_infeasible scheme plan is)) told)

pub accepts_unbounded : AcceptsUnbounded
accepts_unbounded scheme plan fits is falls =
    let told = accepts (unbounded_refusal (length scheme.nodes) scheme.supply (staged scheme) plan.flows plan.ray) checked.Unbounded
    (unbounded_accepts (length scheme.nodes) scheme.supply (staged scheme) plan.flows plan.ray falls) in
    subst (λ (w : Result Checked CheckRefusal). AcceptsOrOverflows w checked.Unbounded) (sym (walk_unbounded scheme plan is)) told
