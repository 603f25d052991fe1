use Rattle.std.proofs.Common.{subst}
use Rattle.np_model.specs.declared.arc.Ends.{Ends}
use Rattle.np_model.specs.Basis.Graphs.{ends_at}
use Rattle.np_model.specs.Basis.Phases.{phase_net, real_arcs}
use Rattle.tree_table.specs.Calls.{lists_in}
use Rattle.pivot_workers.specs.Stale.{IsFresh, IsStale}
use Rattle.pivot_workers.proofs.Answering.{grabbed_sound, needed, reached, not_right, attempted_on}
use Rattle.pivot_workers.proofs.Right.{missed_not_right}
use Rattle.pivot_workers.proofs.attempting.attempt.Goals as goal

pub pivot_held-requires-clause-sound : goal.pivot_held-requires-clause-sound
pivot_held-requires-clause-sound g c κs within =
    grabbed_sound c.args.full.now c.args.phase c.args.pass.now c.requires.ready c.grab.new.pass.view _ _ c.in-Got.ensures.answer

pub pivot_held-requires-clause-needed : goal.pivot_held-requires-clause-needed
pivot_held-requires-clause-needed g c κs within =
    (needed c.args.full.now c.args.phase c.args.pass.now c.requires.ready c.args.arc c.args.seen c.requires.arc c.requires.second c.grab.new.pass.view _ c.in-Got.ensures.answer
    (subst (λ (e : Ends). IsFresh e c.args.seen (lists_in g.T.Piece.lists c.in-Got.hands)) (c.ends.ensures c.args.phase) c.in-None.ensures)).1

pub returns-in-Busy-clause-right : goal.returns-in-Busy-clause-right
returns-in-Busy-clause-right g c = λ all now s r.
    missed_not_right c.args.pass.now.view c.grab.new.pass.view (ends_at (phase_net c.args.phase c.args.full.now).arcs c.args.arc) c.args.seen c.in-Busy.slot c.in-Busy.word now c.requires.second
    c.in-Busy.ensures.answer.missed all s r

pub returns-in-Some-clause-right : goal.returns-in-Some-clause-right
returns-in-Some-clause-right g c = λ all now s r.
    not_right c.args.full.now c.args.phase c.args.pass.now c.requires.ready c.args.arc c.args.seen c.requires.arc c.requires.second c.grab.new.pass.view _ c.in-Got.ensures.answer
    c.in-Some.gone.node c.in-Some.gone.slot now
    (subst (λ (e : Ends). IsStale e c.args.seen c.in-Some.gone.node c.in-Some.gone.slot (lists_in g.T.Piece.lists c.in-Got.hands)) (c.ends.ensures c.args.phase) c.in-Some.ensures) all s r

pub returns-in-None-clause-answer : goal.returns-in-None-clause-answer
returns-in-None-clause-answer g c =
    let a = c.in-Got.ensures.answer in
    let h = c.pivot_held.ensures in
    attempted_on (phase_net c.args.phase c.args.full.now) (real_arcs c.args.full.now) c.args.pass.now c.grab.new.pass c.pivot_held.new.pass c.args.seen c.args.arc
    c.grab.ensures.same.1 a.elsewhere.1 a.elsewhere.2 c.pivot_held.result _ _ h.looked.0 a.got
    (reached c.args.full.now c.args.phase c.args.pass.now c.requires.ready c.args.arc c.args.seen c.requires.arc c.requires.second c.grab.new.pass.view _ a c.pivot_held.new.pass h.looked.0 h.looked.1
    (subst (λ (e : Ends). IsFresh e c.args.seen (lists_in g.T.Piece.lists c.in-Got.hands)) (c.ends.ensures c.args.phase) c.in-None.ensures))
    h.answer
