-- What reading gives.
use Rattle.std.specs.Prelude.{◌≡◌, ℕ, ⊤, Some, None, Result, Ok, Err, List}
use Rattle.np_model.specs.declared.scheme.Scheme.{Scheme}
use Rattle.np_model.specs.declared.plan.Plan.{Plan}
use Rattle.np_model.specs.Scheme.Fits.{PlanFits}
use Rattle.certificates.specs.declared.refused.PlanRefused.{PlanRefused}
use Rattle.certificates.specs.declared.refused.PlanRefused.TheVariants as refused
use Rattle.certificates.specs.Claims.{outline_of}
use Rattle.certificates.specs.Grammar.{plan_fault, IsPlanOf}

-- the answer is what the grammar tells of the records behind so many, unless memory ran out: the plan of the text, or its first fault
abbrev pub ReadsPlan : ℕ → Scheme → List (List (List ℕ)) → Result Plan PlanRefused → Type 0
ReadsPlan skip scheme rows (Ok plan) = (plan_fault skip (outline_of scheme) rows ≡ None) × IsPlanOf scheme rows plan × PlanFits scheme plan
ReadsPlan skip scheme rows (Err (refused.Fault place c)) = plan_fault skip (outline_of scheme) rows ≡ Some (place, c)
ReadsPlan skip scheme rows (Err refused.Memory) = ⊤

-- there is a plan of these records, and it fits the scheme
pub record StandsForAPlan (scheme : Scheme) (rows : List (List (List ℕ))) : Type 0 where
  pub plan : Plan
  pub is_its_plan : IsPlanOf scheme rows plan
  pub fits : PlanFits scheme plan

-- ---- reading again what was written

-- the records have no fault, behind whatever others, and they are those of this plan
pub record IsReadAs (scheme : Scheme) (rows : List (List (List ℕ))) (plan : Plan) : Type 0 where
  pub whole : (skip : ℕ) → plan_fault skip (outline_of scheme) rows ≡ None
  pub plan_is : IsPlanOf scheme rows plan
