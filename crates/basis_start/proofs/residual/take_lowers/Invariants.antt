use Rattle.std.proofs.Common.{◌≡◌, ℕ, ◌<◌, Result, length, slice_index_or, take}
use Rattle.np_frac.specs.Ratio.{Ratio}
use Rattle.np_frac.specs.declared.frac.Past.{Past as ThePast}
use Rattle.np_model.specs.Network.Flows.{at}
use Rattle.np_model.specs.Rows.Arcs.{residual_of}
use Rattle.basis_start.proofs.residual.take_lowers.Given as goal

abbrev pub invariant-loop-arc : goal.invariant-loop-arc
invariant-loop-arc l = (v : ℕ) (d : Result Ratio ThePast) → v < length l.running → slice_index_or l.running v d ≡ residual_of (take l.arc-index l.arcs) v (at l.supply v)
