use Rattle.std.proofs.Common.{take}
use Rattle.np_model.proofs.Distinct.{AreNew}
use Rattle.np_model.proofs.valid.are_distinct.Given as goal

abbrev pub invariant-loop-i : goal.invariant-loop-i
invariant-loop-i l = AreNew l.seen (take l.i l.names)
