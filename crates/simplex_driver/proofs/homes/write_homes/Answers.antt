use Rattle.std.proofs.Common.{ℕ, arith}
use Rattle.np_frac.specs.Ratio.{Ratio}
use Rattle.simplex_driver.proofs.Tables.{written_more}
use Rattle.simplex_driver.proofs.homes.write_homes.Goals as goal

pub loop-node-preserved : goal.loop-node-preserved
loop-node-preserved c =
    written_more (λ (n : ℕ × Ratio). (n.0, c.least-least.result)) c.deref-node-items.result.now c.loop-node.node-index c.loop-node-item.result c.args.homes.now c.loop-node.homes
    (omega arith) c.loop-node-item.is c.loop-node.invariant
