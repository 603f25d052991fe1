use Rattle.simplex_driver.proofs.AtHome.{AreHomesTo}
use Rattle.simplex_driver.proofs.forest.Forest.homes.Given as goal

abbrev pub invariant-loop-node : goal.invariant-loop-node
invariant-loop-node l = AreHomesTo l.self.slots.items l.node l.homes.items
