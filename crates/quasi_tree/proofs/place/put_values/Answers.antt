use Rattle.std.proofs.Common.{arith}
use Rattle.quasi_tree.proofs.Stores.{put_all}
use Rattle.quasi_tree.proofs.place.put_values.Goals as goal

pub returns-clause-items : goal.returns-clause-items
returns-clause-items c = put_all c.args.entries.now.items c.loop-place.entries.items c.args.values.now c.requires c.loop-place.invariant.long
    (λ i d below. c.loop-place.invariant.done i d (omega (arith, c.requires, c.loop-place-test.false)))
