use Rattle.std.proofs.Common.{ap, sym, ◌∙◌}
use Rattle.np_frac.specs.Ratio.{zero_ratio}
use Rattle.np_model.specs.declared.arc.Ends.TheVariants.{Drain}
use Rattle.quasi_tree.proofs.Stores.{basic_is, mark_is, found_is}
use Rattle.quasi_tree.proofs.quasi.QuasiPiece.mark_of.Goals as goal

pub returns-then-is_some : goal.returns-then-is_some
returns-then-is_some c =
    let found = (found_is (λ b. b.0) c.as_slice.result.now c.args.arc c.basic_place.result (0, Drain 0, zero_ratio) c.basic_place.ensures).0 (sym c.is_some.ensures ∙ c.if-is_some.true) in
    rw (← c.self.view_is, ← c.self-inside.view_is)
    (basic_is (record { nodes = c.self-inside.inside.0.0.nodes.items.items; basics = c.self-inside.inside.0.0.basics.items.items; marks = c.self-inside.inside.0.0.marks.items.items })
    c.args.arc (rw c.as_slice.ensures.value at found))

pub returns-in-Some : goal.returns-in-Some
returns-in-Some c =
    let found = found_is (λ b. b.0) c.as_slice.result.now c.args.arc c.basic_place.result (0, Drain 0, zero_ratio) c.basic_place.ensures in
    let below = rw c.as_slice-2.ensures.value at c.in-Some.ensures.0 in
    let here = rw c.as_slice-2.ensures.value at (c.in-Some.ensures.1 c.index.result.now) in
    rw (← c.self.view_is, ← c.self-inside.view_is)
    (ap (λ m. m.1) c.index.ensures
    ∙ mark_is _ (rw (← c.self-inside.view_is) at c.self.invariant) c.in-Some.place c.args.arc c.index.result.now
    (λ is_in. absurd (cc (sym c.if-is_some.false ∙ c.is_some.ensures ∙ found.1 (rw (← c.as_slice.ensures.value) at is_in)))) below here)
