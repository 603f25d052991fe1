use Rattle.std.proofs.Common.{length, ◌-◌}
use Rattle.np_io.proofs.Turns.{HasRead}
use Rattle.np_io.proofs.read.read_all.Given as goal

abbrev pub invariant-loop-all : goal.invariant-loop-all
invariant-loop-all g l =
    let s = g.S.Source in
    HasRead l.all.items 16777216 (s.left l.initial.source) (s.left l.source)
    (s.faults l.initial.source) (s.faults l.source)

abbrev pub decreases-loop-all : goal.decreases-loop-all
decreases-loop-all g l = 16777217 - length l.all.items
