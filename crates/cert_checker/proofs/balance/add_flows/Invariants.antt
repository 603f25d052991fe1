use Rattle.std.proofs.Common.{◌≡◌, ℕ, ◌<◌, Result, length, slice_index_or, take}
use Rattle.np_frac.specs.declared.frac.Past.{Past as ThePast}
use Rattle.np_frac.specs.Ratio.{Ratio}
use Rattle.cert_checker.specs.Walk.{outflow_of}
use Rattle.cert_checker.proofs.Balances.{flows_of}
use Rattle.cert_checker.proofs.balance.add_flows.Given as goal

abbrev pub invariant-loop-i : goal.invariant-loop-i
invariant-loop-i l = (v : ℕ) (d : Result Ratio ThePast) → v < length l.sums → slice_index_or l.sums v d ≡ outflow_of (take l.i (flows_of l.arcs l.amounts)) v
