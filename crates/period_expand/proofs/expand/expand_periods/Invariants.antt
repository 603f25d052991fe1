use Rattle.std.proofs.Common.{◌≡◌, length}
use Rattle.std.specs.List.{filter_map, flat_map, enumerate_from, range_with_len}
use Rattle.np_model.specs.Scheme.Plans.{stage_of}
use Rattle.period_expand.proofs.expand.expand_periods.Given as goal

abbrev pub invariant-loop-before : goal.invariant-loop-before
invariant-loop-before l =
    l.items.items ≡ flat_map (λ period. filter_map (stage_of l.scheme.periods (length l.scheme.nodes) period) (enumerate_from 0 l.scheme.flows)) (range_with_len 1 l.before)
