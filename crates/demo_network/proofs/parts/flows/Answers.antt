use Rattle.std.proofs.Common.{rules}
use Rattle.demo_network.specs.Demo.{flows_at}
use Rattle.demo_network.proofs.Lists.{flat_map_range_more}
use Rattle.demo_network.proofs.parts.flows.Goals as goal

pub loop-node-preserved : goal.loop-node-preserved
loop-node-preserved c = rw (flat_map_range_more (flows_at c.args.number) c.loop-node.node) (search rules)
