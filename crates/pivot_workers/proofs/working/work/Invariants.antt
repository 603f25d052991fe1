use Rattle.std.proofs.Common.{◌≡◌, ◌-◌, ◌≤◌, List, ℕ, ◌++◌, drop, length}
use Rattle.pivot_workers.specs.Sweeps.{dealt}
use Rattle.pivot_workers.specs.Work.{HasTried}
use Rattle.pivot_workers.proofs.working.work.Given as goal

abbrev pub invariant-loop-place : goal.invariant-loop-place
invariant-loop-place g l =
    ((tried : List ℕ) × (dealt (l.workers - 1) (l.worker - 1) l.list ≡ tried ++ dealt (l.workers - 1) 0 (drop l.place l.list)) × HasTried l.openings l.initial.pass l.pass tried l.pivots)
    × (l.pivots ≤ l.quota) × (l.turn ≤ l.place)

abbrev pub decreases-loop-place : goal.decreases-loop-place
decreases-loop-place g l = length l.list - l.place
