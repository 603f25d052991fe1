use Rattle.std.proofs.Common.{rules, arith, ◌≡◌}
use Rattle.std.proofs.lemmas.Grind.{common_steps}
use Rattle.convex_arcs.specs.Segments.{flat_arcs}
use Rattle.convex_arcs.proofs.Parallel.{is_net}
use Rattle.convex_arcs.proofs.flat.flatten.Goals as goal

pub invariant_of-result : goal.invariant_of-result
invariant_of-result c =
    let supply : c.in_ok-supply.supply.items ≡ c.args.expanded.now.supply = search rules in
    let arcs : c.loop-staged.arcs.items ≡ flat_arcs c.args.expanded.now.staged = grind (arith, common_steps) in
    record { valid = rw (supply, arcs) (is_net c.args.expanded.now.supply c.args.expanded.now.staged c.args.expanded.now.valid) }
