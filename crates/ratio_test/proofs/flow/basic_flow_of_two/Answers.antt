use Rattle.std.proofs.Common.{◌∙◌, [], ◌∷◌}
use Rattle.np_model.specs.Basis.Graphs.{ends_at}
use Rattle.np_model.specs.Basis.Phases.{phase_net}
use Rattle.np_model.specs.Basis.Pieces.{nodes_in}
use Rattle.ratio_test.specs.Steps.Ends.{HasEnd}
use Rattle.ratio_test.proofs.Held.{counted, basic_is_arc, basic_first, basic_second, flow_first, flow_second}
use Rattle.ratio_test.proofs.flow.basic_flow_of_two.Goals as goal

pub touches-requires-after_bounds : goal.touches-requires-after_bounds
touches-requires-after_bounds g c = λ κs h.
    let r = c.requires.within in
    let pieces = g.T.Piece.lists c.args.first.now ∷ g.T.Piece.lists c.args.second.now ∷ [] in
    counted r.0 c.args.full.now c.args.arc (basic_is_arc (phase_net r.0 c.args.full.now) pieces r.1 c.args.arc c.requires.basic)

pub flow_of-requires : goal.flow_of-requires
flow_of-requires g c =
    let r = c.requires.within in
    basic_first (phase_net r.0 c.args.full.now) (g.T.Piece.lists c.args.first.now) (g.T.Piece.lists c.args.second.now) r.1 c.args.arc c.requires.basic ((c.touches.ensures r.0).0 c.if-touches.true)

pub flow_of-requires-else-touches : goal.flow_of-requires-else-touches
flow_of-requires-else-touches g c =
    let r = c.requires.within in
    basic_second (phase_net r.0 c.args.full.now) (g.T.Piece.lists c.args.first.now) (g.T.Piece.lists c.args.second.now) r.1 c.args.arc c.requires.basic (λ h. cc ((c.touches.ensures r.0).1 h, c.if-touches.false))

pub returns-then-touches : goal.returns-then-touches
returns-then-touches g c =
    let r = c.requires.within in
    let net = phase_net r.0 c.args.full.now in
    let p = g.T.Piece.lists c.args.first.now in
    let q = g.T.Piece.lists c.args.second.now in
    c.flow_of.ensures ∙ flow_first net p q r.1 c.args.arc (basic_first net p q r.1 c.args.arc c.requires.basic ((c.touches.ensures r.0).0 c.if-touches.true))

pub returns-else-touches : goal.returns-else-touches
returns-else-touches g c =
    let r = c.requires.within in
    let net = phase_net r.0 c.args.full.now in
    let p = g.T.Piece.lists c.args.first.now in
    let q = g.T.Piece.lists c.args.second.now in
    let n : ¬ HasEnd (nodes_in p) (ends_at net.arcs c.args.arc) = λ h. cc ((c.touches.ensures r.0).1 h, c.if-touches.false) in
    c.flow_of-else-touches.ensures ∙ flow_second net p q r.1 c.args.arc (basic_second net p q r.1 c.args.arc c.requires.basic n) n
