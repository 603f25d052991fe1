use Rattle.np_frac.specs.Ratio.{zero_ratio}
use Rattle.quasi_tree.proofs.Stores.{held_node, put_node}
use Rattle.quasi_tree.proofs.quasi.Quasi.set_potential.Goals as goal

pub invariant_of-self : goal.invariant_of-self
invariant_of-self c =
    let below = rw c.as_slice.ensures.value at c.in-Some.ensures.0 in
    let here = rw c.as_slice.ensures.value at (c.in-Some.ensures.1 (0, zero_ratio)) in
    held_node _ (rw (← c.self-inside.view_is) at c.self.invariant) c.in-Some.place c.args.node c.args.value (0, zero_ratio) below here

pub returns-in-Some-clause-lists : goal.returns-in-Some-clause-lists
returns-in-Some-clause-lists c =
    let below = rw c.as_slice.ensures.value at c.in-Some.ensures.0 in
    let here = rw c.as_slice.ensures.value at (c.in-Some.ensures.1 (0, zero_ratio)) in
    rw (← c.self.view_is, ← c.self-inside.view_is)
    (put_node _ (rw (← c.self-inside.view_is) at c.self.invariant) c.in-Some.place c.args.node c.args.value (0, zero_ratio) below here)
