use Rattle.np_model.specs.declared.log.Mark.TheVariants.{Lower}
use Rattle.quasi_tree.proofs.Stores.{held_mark, put_mark}
use Rattle.quasi_tree.proofs.quasi.Quasi.set_mark.Goals as goal

pub invariant_of-self : goal.invariant_of-self
invariant_of-self c =
    let below = rw c.as_slice.ensures.value at c.in-Some.ensures.0 in
    let here = rw c.as_slice.ensures.value at (c.in-Some.ensures.1 (0, Lower)) in
    held_mark _ (rw (← c.self-inside.view_is) at c.self.invariant) c.in-Some.place c.args.arc c.args.mark (0, Lower) c.requires.at_bound below here

pub returns-in-Some-clause-lists : goal.returns-in-Some-clause-lists
returns-in-Some-clause-lists c =
    let below = rw c.as_slice.ensures.value at c.in-Some.ensures.0 in
    let here = rw c.as_slice.ensures.value at (c.in-Some.ensures.1 (0, Lower)) in
    rw (← c.self.view_is, ← c.self-inside.view_is)
    (put_mark _ (rw (← c.self-inside.view_is) at c.self.invariant) c.in-Some.place c.args.arc c.args.mark (0, Lower) below here)
