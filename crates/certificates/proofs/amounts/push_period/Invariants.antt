use Rattle.std.proofs.Common.{◌≡◌, ◌++◌, take}
use Rattle.std.specs.List.{filter_map, enumerate_from}
use Rattle.certificates.specs.Steps.Amounts.{amount_in}
use Rattle.certificates.proofs.amounts.push_period.Given as goal

abbrev pub invariant-loop-number : goal.invariant-loop-number
invariant-loop-number l =
    l.items.items ≡ l.initial.items.items ++ filter_map (λ (number, flow). amount_in l.given l.scheme l.period number flow.kind) (enumerate_from 0 (take l.number l.scheme.flows))
