use Rattle.std.proofs.Common.{take}
use Rattle.np_model.specs.Scheme.Names.{flow_names}
use Rattle.np_model.proofs.Distinct.{AreNew}
use Rattle.np_model.proofs.valid.have_distinct_names.Given as goal

abbrev pub invariant-loop-i : goal.invariant-loop-i
invariant-loop-i l = AreNew l.seen (take l.i (flow_names l.flows))
