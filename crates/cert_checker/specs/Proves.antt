-- What an accepted plan is.
use Rattle.std.specs.Prelude.{◌≡◌, List}
use Rattle.np_frac.specs.Ratio.{Ratio}
use Rattle.np_model.specs.declared.scheme.Scheme.{Scheme}
use Rattle.np_model.specs.declared.plan.Plan.{Plan}
use Rattle.np_model.specs.Scheme.Plans.{IsFeasiblePlan, HasNoLeast, IsLeastPlan, scheme_cost, PricesShow, PricesForbid, price_gap, FallsAlong}
use Rattle.cert_checker.specs.declared.answer.Checked.{Checked}
use Rattle.cert_checker.specs.declared.answer.Checked.TheVariants.{Optimal, Infeasible, Unbounded}

-- a least-cost plan of the scheme with this cost, shown by its prices
pub record ProvesOptimal (scheme : Scheme) (plan : Plan) (cost : Ratio) : Type 0 where
  pub least : IsLeastPlan scheme plan.flows
  pub cost_is : scheme_cost scheme plan.flows ≡ cost
  pub shown : PricesShow scheme plan.prices plan.flows

-- its prices certify with this gap that the scheme has no plan, and it has none
pub record ProvesInfeasible (scheme : Scheme) (plan : Plan) (gap : Ratio) : Type 0 where
  pub forbid : PricesForbid scheme plan.prices
  pub gap_is : price_gap scheme plan.prices ≡ gap
  pub none : (x : List Ratio) → IsFeasiblePlan scheme x → ⊥

-- its flows and ray certify that every cost has a cheaper plan, and it has one
pub record ProvesUnbounded (scheme : Scheme) (plan : Plan) : Type 0 where
  pub falls : FallsAlong scheme plan.flows plan.ray
  pub cheaper : HasNoLeast scheme

abbrev pub Proves : Scheme → Plan → Checked → Type 0
Proves scheme plan (Optimal cost) = ProvesOptimal scheme plan cost
Proves scheme plan (Infeasible gap) = ProvesInfeasible scheme plan gap
Proves scheme plan Unbounded = ProvesUnbounded scheme plan
