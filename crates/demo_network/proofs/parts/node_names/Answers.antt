use Rattle.std.proofs.Common.{rules, arith, codes}
use Rattle.std.proofs.lemmas.List.FromFn.{map-range_with_len_more}
use Rattle.demo_network.specs.Demo.{named}
use Rattle.demo_network.proofs.parts.node_names.Goals as goal

pub loop-node-preserved : goal.loop-node-preserved
loop-node-preserved c = rw (map-range_with_len_more (named (codes "n")) 0 c.loop-node.node c.loop-node.node (omega arith)) (search rules)
