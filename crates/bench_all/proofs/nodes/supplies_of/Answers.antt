use Rattle.std.proofs.Common.{◌≡◌, ◌∙◌, arith}
use Rattle.np_frac.specs.Ratio.{zero_ratio}
use Rattle.bench_all.proofs.Parts.{one_more}
use Rattle.bench_all.proofs.Drains.{one_supply_each}
use Rattle.bench_all.proofs.nodes.supplies_of.Goals as goal

pub loop-preserved : goal.loop-preserved
loop-preserved c =
    one_more (λ _. zero_ratio) 0 c.loop.counter c.loop.counter c.whole.result c.loop.list.items c.push.new.self.items (omega arith) c.loop.invariant c.whole.ensures c.in_ok-push.ensures.items

pub returns-clause-each : goal.returns-clause-each
returns-clause-each c =
    let e : c.loop.counter ≡ c.args.nodes = omega (arith, c.loop-test.false, c.loop.auto.counter-end) in
    rw c.loop.invariant (one_supply_each c.loop.counter ∙ e)
