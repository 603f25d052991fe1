use Rattle.std.proofs.Common.{length, ◌-◌}
use Rattle.np_io.proofs.Turns.{HasGiven}
use Rattle.np_io.proofs.write.write_all.Given as goal

abbrev pub invariant-loop-given : goal.invariant-loop-given
invariant-loop-given g l =
    let k = g.K.Sink in
    HasGiven l.bytes l.given (k.written l.initial.sink) (k.written l.sink)
    (k.faults l.initial.sink) (k.faults l.sink) (k.sure l.initial.sink) (k.sure l.sink)

abbrev pub decreases-loop-given : goal.decreases-loop-given
decreases-loop-given g l = length l.bytes - l.given
