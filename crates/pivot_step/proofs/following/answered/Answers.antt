use Rattle.std.proofs.Common.{refl}
use Rattle.std.specs.Option.{option_copied}
use Rattle.np_model.specs.Basis.Phases.{phase_net, real_arcs}
use Rattle.np_model.specs.Basis.Needed.{lists_of}
use Rattle.pivot_step.proofs.Answering as answering
use Rattle.quasi_tree.specs.Store.{Store}
use Rattle.pivot_step.proofs.following.answered.Goals as goal

pub moved-requires-clause-moves : goal.moved-requires-clause-moves
moved-requires-clause-moves c =
    answering.flip_move (phase_net c.args.phase c.args.full.now) (real_arcs c.args.full.now) (lists_of (λ (s : Store). s.lists) c.args.first.now.lists (option_copied c.args.second)) c.args.direction.enter c.args.direction c.requires.aimed refl c.args.answer c.in-Flip.step c.far_bound.result c.as_slice.result.now c.in-Flip.is c.requires.ratio c.far_bound.ensures c.as_slice.ensures

pub moved-requires-in-Leave-clause-moves : goal.moved-requires-in-Leave-clause-moves
moved-requires-in-Leave-clause-moves c =
    answering.leave_move (phase_net c.args.phase c.args.full.now) (real_arcs c.args.full.now) (lists_of (λ (s : Store). s.lists) c.args.first.now.lists (option_copied c.args.second)) c.args.direction.enter c.args.direction c.requires.aimed refl c.args.answer c.in-Leave.step c.in-Leave.arc c.in-Leave.leave_at c.as_slice-in-Leave.result.now c.in-Leave.is c.requires.ratio c.as_slice-in-Leave.ensures

pub returns-in-Flip : goal.returns-in-Flip
returns-in-Flip c =
    answering.answer_moved (phase_net c.args.phase c.args.full.now) (real_arcs c.args.full.now) (lists_of (λ (s : Store). s.lists) c.args.first.now.lists (option_copied c.args.second)) c.args.direction.enter c.args.direction c.requires.aimed refl c.args.answer (record { enter = c.args.direction.enter; leave = c.args.direction.enter; leave_at = c.far_bound.result }) c.in-Flip.step c.as_slice.result.now c.moved.result
    c.requires.ratio refl c.as_slice.ensures (answering.flip_move (phase_net c.args.phase c.args.full.now) (real_arcs c.args.full.now) (lists_of (λ (s : Store). s.lists) c.args.first.now.lists (option_copied c.args.second)) c.args.direction.enter c.args.direction c.requires.aimed refl c.args.answer c.in-Flip.step c.far_bound.result c.as_slice.result.now c.in-Flip.is c.requires.ratio c.far_bound.ensures c.as_slice.ensures) c.moved.ensures

pub returns-in-Leave : goal.returns-in-Leave
returns-in-Leave c =
    answering.answer_moved (phase_net c.args.phase c.args.full.now) (real_arcs c.args.full.now) (lists_of (λ (s : Store). s.lists) c.args.first.now.lists (option_copied c.args.second)) c.args.direction.enter c.args.direction c.requires.aimed refl c.args.answer (record { enter = c.args.direction.enter; leave = c.in-Leave.arc; leave_at = c.in-Leave.leave_at }) c.in-Leave.step c.as_slice-in-Leave.result.now c.moved-in-Leave.result
    c.requires.ratio refl c.as_slice-in-Leave.ensures (answering.leave_move (phase_net c.args.phase c.args.full.now) (real_arcs c.args.full.now) (lists_of (λ (s : Store). s.lists) c.args.first.now.lists (option_copied c.args.second)) c.args.direction.enter c.args.direction c.requires.aimed refl c.args.answer c.in-Leave.step c.in-Leave.arc c.in-Leave.leave_at c.as_slice-in-Leave.result.now c.in-Leave.is c.requires.ratio c.as_slice-in-Leave.ensures) c.moved-in-Leave.ensures
