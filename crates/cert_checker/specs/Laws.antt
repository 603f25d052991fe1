-- What the walk is worth: what it accepts is proved, and what holds it accepts.
use Rattle.std.specs.Prelude.{◌≡◌, ◌⊎◌, Some, Result, Ok, Err}
use Rattle.np_frac.specs.declared.frac.Past.{Past}
use Rattle.np_model.specs.declared.scheme.Scheme.{Scheme}
use Rattle.np_model.specs.declared.plan.Plan.{Plan}
use Rattle.np_model.specs.declared.rows.CheckRow.{CheckRow}
use Rattle.np_model.specs.declared.plan.Verdict.TheVariants as verdict
use Rattle.np_model.specs.Scheme.Plans.{IsFeasiblePlan, scheme_cost, PricesShow, PricesForbid, price_gap, FallsAlong}
use Rattle.np_model.specs.Scheme.Fits.{PlanFits}
use Rattle.cert_checker.specs.Walk.{walk}
use Rattle.cert_checker.specs.Proves.{Proves}
use Rattle.cert_checker.specs.declared.answer.Checked.{Checked}
use Rattle.cert_checker.specs.declared.answer.Checked.TheVariants.{Optimal, Infeasible, Unbounded}
use Rattle.cert_checker.specs.declared.answer.CheckRefusal.{CheckRefusal}
use Rattle.cert_checker.specs.declared.answer.CheckRefusal.TheVariants as refusal

-- what the walk accepts of a plan that fits the scheme is proved
abbrev pub WalkProves : Type 0
WalkProves = (scheme : Scheme) (plan : Plan) (answer : Checked) → PlanFits scheme plan → walk scheme plan ≡ Ok answer → Proves scheme plan answer

-- the walk ends with an answer or with a refusal that lies in the plan, never for want of memory
abbrev pub WalkEnds : Type 0
WalkEnds = (scheme : Scheme) (plan : Plan) → ¬ (walk scheme plan ≡ Err refusal.Memory)

-- the walk accepts this, or is refused for an operation that overflows
abbrev pub AcceptsOrOverflows : Result Checked CheckRefusal → Checked → Type 0
AcceptsOrOverflows found answer = (found ≡ Ok answer) ⊎ ((row : CheckRow) × (past : Past) × (found ≡ Err (refusal.Past row past)))

-- where the flows are feasible, the prices show them optimal, and they cost what the plan says, the plan is accepted
abbrev pub AcceptsOptimal : Type 0
AcceptsOptimal =
    (scheme : Scheme) (plan : Plan) → PlanFits scheme plan → plan.verdict ≡ verdict.Optimal
    → IsFeasiblePlan scheme plan.flows → PricesShow scheme plan.prices plan.flows → plan.amount ≡ Some (scheme_cost scheme plan.flows)
    → AcceptsOrOverflows (walk scheme plan) (Optimal (scheme_cost scheme plan.flows))

-- where the prices certify that there is no plan, and their gap is what the plan says, it is accepted
abbrev pub AcceptsInfeasible : Type 0
AcceptsInfeasible =
    (scheme : Scheme) (plan : Plan) → PlanFits scheme plan → plan.verdict ≡ verdict.Infeasible
    → PricesForbid scheme plan.prices → plan.amount ≡ Some (price_gap scheme plan.prices)
    → AcceptsOrOverflows (walk scheme plan) (Infeasible (price_gap scheme plan.prices))

-- where the flows and the ray certify that every cost has a cheaper plan, the plan is accepted
abbrev pub AcceptsUnbounded : Type 0
AcceptsUnbounded =
    (scheme : Scheme) (plan : Plan) → PlanFits scheme plan → plan.verdict ≡ verdict.Unbounded → FallsAlong scheme plan.flows plan.ray
    → AcceptsOrOverflows (walk scheme plan) Unbounded
