use Rattle.std.proofs.Common.{◌≡◌, ◌++◌, length, take}
use Rattle.std.specs.List.{filter_map, enumerate_from}
use Rattle.np_model.specs.Scheme.Plans.{stage_of}
use Rattle.period_expand.proofs.expand.push_period.Given as goal

abbrev pub invariant-loop-number : goal.invariant-loop-number
invariant-loop-number l =
    l.staged.items ≡ l.initial.staged.items ++ filter_map (stage_of l.scheme.periods (length l.scheme.nodes) l.period) (enumerate_from 0 (take l.number l.scheme.flows))
