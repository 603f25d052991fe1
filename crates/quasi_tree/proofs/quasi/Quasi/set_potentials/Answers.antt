use Rattle.quasi_tree.proofs.Stores.{held_nodes}
use Rattle.quasi_tree.proofs.quasi.Quasi.set_potentials.Goals as goal

pub invariant_of-self : goal.invariant_of-self
invariant_of-self c =
    rw c.put_values.ensures.items
    (held_nodes (record { nodes = c.self-inside.inside.0.0.nodes.items.items; basics = c.self-inside.inside.0.0.basics.items.items; marks = c.self-inside.inside.0.0.marks.items.items })
    c.args.values.now (rw (← c.self.view_is, ← c.self-inside.view_is) at c.requires) (rw (← c.self-inside.view_is) at c.self.invariant))
