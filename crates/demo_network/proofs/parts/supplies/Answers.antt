use Rattle.std.proofs.Common.{rules, arith}
use Rattle.std.proofs.lemmas.List.FromFn.{map-range_with_len_more}
use Rattle.demo_network.specs.Demo.{supply_at}
use Rattle.demo_network.proofs.parts.supplies.Goals as goal

pub loop-place-preserved : goal.loop-place-preserved
loop-place-preserved c = rw (map-range_with_len_more (supply_at c.args.number) 0 c.loop-place.place c.loop-place.place (omega arith)) (search rules)
