use Rattle.std.proofs.Common.{◌∙◌, sym, refl}
use Rattle.cert_checker.proofs.Segments.{finite_last}
use Rattle.cert_checker.proofs.segment.is_bounded.Goals as goal

pub returns-then-is_finite : goal.returns-then-is_finite
returns-then-is_finite c =
    c.are_finite.ensures ∙ rw c.as_slice.ensures (sym (finite_last c.args.flow.now.upper c.args.flow.now.bands ∙ rw (← c.is_finite.ensures, c.if-is_finite.true) refl))

pub returns-else-is_finite : goal.returns-else-is_finite
returns-else-is_finite c =
    sym (finite_last c.args.flow.now.upper c.args.flow.now.bands ∙ rw (← c.is_finite.ensures, c.if-is_finite.false) refl)
