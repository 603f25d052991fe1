use Rattle.std.proofs.Common.{length, ◌-◌, ◌+◌, ◌≤◌}
use Rattle.piece_lists.proofs.Merging.{Turned}
use Rattle.piece_lists.proofs.numbered.merged.Given as goal

abbrev pub invariant-loop-i : goal.invariant-loop-i
invariant-loop-i g l = (l.i ≤ length l.xs) × (l.j ≤ length l.ys) × Turned g.T.Numbered.number_of l.xs l.ys l.i l.j l.both.items

abbrev pub decreases-loop-i : goal.decreases-loop-i
decreases-loop-i g l = (length l.xs - l.i) + (length l.ys - l.j)
