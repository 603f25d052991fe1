use Rattle.std.proofs.Common.{◌≡◌, map, take}
use Rattle.np_model.specs.Scheme.Kinds.{periods_of}
use Rattle.certificates.proofs.index.last_periods.Given as goal

abbrev pub invariant-loop-flow : goal.invariant-loop-flow
invariant-loop-flow l = l.last.items ≡ map (λ flow. periods_of l.periods flow.kind) (take l.flow-index l.flows)
