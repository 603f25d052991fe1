use Rattle.std.proofs.Common.{◌≡◌}
use Rattle.std.specs.List.{flat_map, range_with_len}
use Rattle.certificates.specs.Steps.Amounts.{period_amounts}
use Rattle.certificates.proofs.amounts.staged_amounts.Given as goal

abbrev pub invariant-loop-before : goal.invariant-loop-before
invariant-loop-before l = l.items.items ≡ flat_map (period_amounts l.given l.scheme) (range_with_len 1 l.before)
