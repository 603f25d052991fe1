-- What a worker did at one arc.
use Rattle.std.specs.Prelude.{ℕ, List, [], ◌∷◌}
use Rattle.tree_table.specs.Passes.{PassState}
use Rattle.pivot_workers.specs.declared.attempting.Attempted.{Attempted}
use Rattle.pivot_workers.specs.declared.attempting.Attempted.TheVariants as attempted
use Rattle.pivot_workers.specs.declared.working.Visit.{Visit}
use Rattle.pivot_workers.specs.declared.working.Visit.TheVariants as visit
use Rattle.pivot_workers.specs.Work.{HasTried}

abbrev pub visit_of : Attempted → Visit
visit_of (attempted.Pivoted ticket) = visit.Pivoted
visit_of (attempted.Busy slot word) = visit.Passed
visit_of (attempted.Stale node slot) = visit.Passed
visit_of attempted.NotEligible = visit.Passed
visit_of attempted.Ray = visit.Passed
visit_of (attempted.Past overflow) = visit.Passed
visit_of attempted.Memory = visit.Memory

abbrev pub IsVisited : List ℕ → PassState → PassState → ℕ → Visit → Type 0
IsVisited openings p q arc visit.Pivoted = HasTried openings p q (arc ∷ []) 1
IsVisited openings p q arc visit.Passed = HasTried openings p q (arc ∷ []) 0
IsVisited openings p q arc visit.Memory = HasTried openings p q [] 0
