use Rattle.std.proofs.Common.{◌≡◌, ◌≤◌, take}
use Rattle.std.specs.List.{All}
use Rattle.np_frac.specs.Ratio.{zero_ratio}
use Rattle.piece_tests.proofs.pivots.are_idle.Given as goal

abbrev pub invariant-loop-place : goal.invariant-loop-place
invariant-loop-place l = All (λ b. l.real ≤ b.0 → b.2 ≡ zero_ratio) (take l.place l.basics)
