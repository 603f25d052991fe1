-- What is said of plans of the demo network.
use Rattle.std.specs.Prelude.{ℕ, List}
use Rattle.np_frac.specs.Ratio.{Ratio}
use Rattle.np_model.specs.declared.scheme.Scheme.{Scheme}
use Rattle.np_model.specs.Scheme.Plans.{IsFeasiblePlan, PricesForbid, FallsAlong}
use Rattle.demo_network.specs.Demo.{IsDemo}

-- it has a feasible plan
abbrev pub HasPlan : Type 0
HasPlan = (n : ℕ) (scheme : Scheme) → IsDemo n scheme → (x : List Ratio) × IsFeasiblePlan scheme x

-- no prices certify that there is none
abbrev pub IsNotForbidden : Type 0
IsNotForbidden = (n : ℕ) (scheme : Scheme) → IsDemo n scheme → (p : List Ratio) → PricesForbid scheme p → ⊥

-- along no ray do costs fall without end
abbrev pub FallsNowhere : Type 0
FallsNowhere = (n : ℕ) (scheme : Scheme) → IsDemo n scheme → (x d : List Ratio) → FallsAlong scheme x d → ⊥
