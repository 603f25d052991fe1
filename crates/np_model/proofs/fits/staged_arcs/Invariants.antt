use Rattle.std.proofs.Common.{◌≡◌, ◌≤◌, ◌*◌, take}
use Rattle.std.specs.List.{sum_by}
use Rattle.np_model.specs.Scheme.Kinds.{periods_of}
use Rattle.np_model.proofs.fits.staged_arcs.Given as goal

abbrev pub invariant-loop-i : goal.invariant-loop-i
invariant-loop-i l = (l.arcs ≡ sum_by (λ flow. periods_of l.fn.scheme.periods flow.kind) (take l.i l.flows)) × (l.arcs ≤ l.i * 20000)
