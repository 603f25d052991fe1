use Rattle.std.proofs.Common.{◌≡◌, length, map}
use Rattle.std.specs.List.{flat_map, filter_map, range_with_len, enumerate_from}
use Rattle.np_model.specs.Scheme.Plans.{stage_of}
use Rattle.cert_checker.specs.Steps.Arcs.{as_stage}
use Rattle.cert_checker.proofs.staged.staged_arcs.Given as goal

abbrev pub invariant-loop-before : goal.invariant-loop-before
invariant-loop-before l =
    map as_stage l.arcs.items
    ≡ flat_map (λ period. filter_map (stage_of l.scheme.periods (length l.scheme.nodes) period) (enumerate_from 0 l.scheme.flows)) (range_with_len 1 l.before)
