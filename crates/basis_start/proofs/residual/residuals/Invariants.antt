use Rattle.std.proofs.Common.{◌≡◌, ℕ, ◌<◌, Result, Ok, length, slice_index_or}
use Rattle.np_frac.specs.Ratio.{Ratio}
use Rattle.np_frac.specs.declared.frac.Past.{Past as ThePast}
use Rattle.np_model.specs.Network.Flows.{at}
use Rattle.basis_start.proofs.residual.residuals.Given as goal

abbrev pub invariant-loop-node : goal.invariant-loop-node
invariant-loop-node l = record {
  counted : length l.running.items ≡ l.node;
  supplies : (v : ℕ) (d : Result Ratio ThePast) → v < length l.running.items → slice_index_or l.running.items v d ≡ Ok (at l.supply v);
}
