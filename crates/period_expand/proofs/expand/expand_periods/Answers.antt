use Rattle.std.proofs.Common.{rules, length, ◌≡◌}
use Rattle.std.specs.List.{filter_map, enumerate_from}
use Rattle.np_model.specs.Scheme.Plans.{stage_of, staged}
use Rattle.period_expand.proofs.Sound.{is_expansion}
use Rattle.period_expand.proofs.Grows.{periods_more}
use Rattle.period_expand.proofs.expand.expand_periods.Goals as goal

pub loop-before-preserved : goal.loop-before-preserved
loop-before-preserved c =
    periods_more (λ period. filter_map (stage_of c.args.scheme.now.periods (length c.args.scheme.now.nodes) period) (enumerate_from 0 c.args.scheme.now.flows))
    c.loop-before.before c.loop-before.items.items c.push_period.new.staged.items c.loop-before.invariant c.in_ok-push_period.ensures

pub invariant_of-result : goal.invariant_of-result
invariant_of-result c =
    let supply : c.in_ok-supply.supply.items ≡ c.args.scheme.now.supply = search rules in
    let arcs : c.loop-before.items.items ≡ staged c.args.scheme.now = search rules in
    record { valid = rw (supply, arcs) (is_expansion c.args.scheme.now) }
