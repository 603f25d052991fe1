use Rattle.std.proofs.Common.{◌∙◌, inr}
use Rattle.np_model.specs.Basis.Phases.{phase_net}
use Rattle.ratio_test.proofs.Held.{mark_first, mark_second}
use Rattle.ratio_test.proofs.flow.mark_of_two.Goals as goal

pub mark_of-requires : goal.mark_of-requires
mark_of-requires g c =
    let r = c.requires in
    inr (mark_first (phase_net r.0 c.args.full.now) (g.T.Piece.lists c.args.first.now) (g.T.Piece.lists c.args.second.now) r.1 c.args.arc r.2 ((c.touches.ensures r.0).0 c.if-touches.true)).0

pub mark_of-requires-else-touches : goal.mark_of-requires-else-touches
mark_of-requires-else-touches g c =
    let r = c.requires in
    inr (mark_second (phase_net r.0 c.args.full.now) (g.T.Piece.lists c.args.first.now) (g.T.Piece.lists c.args.second.now) r.1 c.args.arc r.2 (λ h. cc ((c.touches.ensures r.0).1 h, c.if-touches.false))).0

pub returns-then-touches : goal.returns-then-touches
returns-then-touches g c =
    let r = c.requires in
    c.mark_of.ensures ∙ (mark_first (phase_net r.0 c.args.full.now) (g.T.Piece.lists c.args.first.now) (g.T.Piece.lists c.args.second.now) r.1 c.args.arc r.2 ((c.touches.ensures r.0).0 c.if-touches.true)).1

pub returns-else-touches : goal.returns-else-touches
returns-else-touches g c =
    let r = c.requires in
    c.mark_of-else-touches.ensures ∙ (mark_second (phase_net r.0 c.args.full.now) (g.T.Piece.lists c.args.first.now) (g.T.Piece.lists c.args.second.now) r.1 c.args.arc r.2 (λ h. cc ((c.touches.ensures r.0).1 h, c.if-touches.false))).1
