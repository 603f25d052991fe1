use Rattle.std.proofs.Common.{ap, ◌∙◌}
use Rattle.np_frac.specs.Ratio.{zero_ratio}
use Rattle.quasi_tree.proofs.Stores.{flow_is}
use Rattle.quasi_tree.proofs.quasi.QuasiPiece.flow_of.Goals as goal

pub returns-in-Some : goal.returns-in-Some
returns-in-Some c =
    let below = rw c.as_slice.ensures.value at c.in-Some.ensures.0 in
    let here = rw c.as_slice.ensures.value at (c.in-Some.ensures.1 c.index.result.now) in
    rw (← c.self.view_is, ← c.self-inside.view_is)
    (ap (λ b. b.2) c.index.ensures
    ∙ flow_is _ (rw (← c.self-inside.view_is) at c.self.invariant) c.in-Some.place c.args.arc zero_ratio c.index.result.now below here)
