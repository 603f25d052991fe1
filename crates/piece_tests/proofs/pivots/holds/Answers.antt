use Rattle.std.proofs.Common.{◌∙◌, ap, subst, ℕ}
use Rattle.gain_graphs.specs.Arcs.{IsIn}
use Rattle.np_model.specs.Network.Arcs.{tail_of, head_of}
use Rattle.np_model.specs.Basis.Phases.{phase_net}
use Rattle.np_model.specs.Basis.Pieces.{nodes_in}
use Rattle.np_basis.proofs.Fulls.{full_net_is_sound}
use Rattle.piece_tests.proofs.Started.{one_holds, arc_inside}
use Rattle.piece_tests.proofs.pivots.holds.Goals as goal

pub returns-then-contains-clause-needed : goal.returns-then-contains-clause-needed
returns-then-contains-clause-needed c = λ phase h.
    one_holds (phase_net phase c.args.full.now) c.args.piece.now.lists c.args.arc (full_net_is_sound phase c.args.full.now)
    (arc_inside phase c.args.full.now c.args.arc (c.is_arc.ensures c.if-not-is_arc.false))
    (subst (λ (v : ℕ). IsIn v (nodes_in c.args.piece.now.lists)) (c.tail.ensures ∙ ap tail_of (c.ends.ensures phase)) (c.contains.ensures.0 c.if-contains.true))
    (subst (λ (v : ℕ). IsIn v (nodes_in c.args.piece.now.lists)) (c.head.ensures ∙ ap head_of (c.ends.ensures phase)) (c.contains-then-contains.ensures.0 h))
