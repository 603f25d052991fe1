use Rattle.quasi_tree.proofs.Stores.{held_flow, put_flow}
use Rattle.quasi_tree.proofs.quasi.Quasi.set_flow.Goals as goal

pub invariant_of-self : goal.invariant_of-self
invariant_of-self c =
    let below = rw c.as_slice.ensures.value at c.in-Some.ensures.0 in
    held_flow _ (rw (← c.self-inside.view_is) at c.self.invariant) c.in-Some.place c.index_mut.result.now c.args.value c.index_mut.result.now below c.index_mut.ensures.value

pub returns-in-Some-clause-lists : goal.returns-in-Some-clause-lists
returns-in-Some-clause-lists c =
    let below = rw c.as_slice.ensures.value at c.in-Some.ensures.0 in
    let here = rw c.as_slice.ensures.value at (c.in-Some.ensures.1 c.index_mut.result.now) in
    rw (← c.self.view_is, ← c.self-inside.view_is)
    (put_flow _ (rw (← c.self-inside.view_is) at c.self.invariant) c.in-Some.place c.args.arc c.index_mut.result.now c.args.value c.index_mut.result.now below here
    c.index_mut.ensures.value)
