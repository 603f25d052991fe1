-- How many workers and pivots a solver may have.
use Rattle.std.specs.Prelude.{ℕ, ◌≤◌}
use Rattle.std.proofs.Props.{props}

abbrev pub IsCrew : ℕ → Type 0
IsCrew workers = (1 ≤ workers) × (workers ≤ 16)

abbrev pub IsBudget : ℕ → Type 0
IsBudget budget = (1 ≤ budget) × (budget ≤ 1000000)

-- ---- each of these facts has one proof at most

pub IsCrew-prop : (workers : ℕ) → IsProp (IsCrew workers)
IsCrew-prop workers = hlevel props

pub IsBudget-prop : (budget : ℕ) → IsProp (IsBudget budget)
IsBudget-prop budget = hlevel props
