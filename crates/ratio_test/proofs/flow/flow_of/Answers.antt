use Rattle.std.proofs.Common.{◌∙◌, ℕ, sym, ap, subst, inl, inr}
use Rattle.gain_graphs.specs.Arcs.{IsIn}
use Rattle.np_model.specs.declared.log.Mark.{Mark}
use Rattle.np_model.specs.Basis.Graphs.{arc_at}
use Rattle.np_model.specs.Basis.Phases.{phase_net}
use Rattle.np_model.specs.Basis.Pieces.{basics_of}
use Rattle.np_model.specs.Basis.Sound.{bound_at}
use Rattle.np_model.specs.Basis.Needed.{lists_of}
use Rattle.ratio_test.proofs.Held.{flow_outside, flow_basic}
use Rattle.ratio_test.proofs.flow.flow_of.Goals as goal

pub returns-then-arc-enter : goal.returns-then-arc-enter
returns-then-arc-enter g c =
    let net = phase_net c.args.phase c.args.full.now in
    let pieces = lists_of (λ p. g.T.Piece.lists p.now) (g.T.Piece.lists c.args.first.now) c.args.second in
    let outside : ¬ IsIn c.args.arc (basics_of pieces) = subst (λ (a : ℕ). ¬ IsIn a (basics_of pieces)) (sym c.if-arc-enter.true) c.requires.outside.not_basic in
    c.bound_at.ensures ∙ ap (λ (m : Mark). bound_at (arc_at net.arcs c.args.arc) m) c.mark_of-mark.ensures ∙ sym (flow_outside net pieces c.args.arc outside)

pub returns : goal.returns
returns g c =
    let net = phase_net c.args.phase c.args.full.now in
    let pieces = lists_of (λ p. g.T.Piece.lists p.now) (g.T.Piece.lists c.args.first.now) c.args.second in
    let basic : IsIn c.args.arc (basics_of pieces) = elim c.requires.moves [ inl e ↦ absurd (c.if-arc-enter.false e) | inr i ↦ i ] in
    c.basic_flow.ensures ∙ sym (flow_basic net pieces c.args.arc basic)
