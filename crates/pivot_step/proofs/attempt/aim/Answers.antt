use Rattle.std.proofs.Common.{◌∙◌, ℕ, List, Result, MatchResult, sym, ap, subst}
use Rattle.std.specs.Option.{option_copied}
use Rattle.np_model.specs.declared.log.Mark.TheVariants.{Lower}
use Rattle.np_model.specs.declared.piece.Direction.{Direction}
use Rattle.np_model.specs.declared.piece.Hands.{Hands}
use Rattle.np_model.specs.declared.piece.Prepared.{Prepared}
use Rattle.np_model.specs.Basis.Phases.{phase_net, real_arcs}
use Rattle.np_model.specs.Basis.Pieces.{PieceLists}
use Rattle.np_model.specs.Basis.Sound.{values_in}
use Rattle.quasi_tree.specs.Store.{Store}
use Rattle.piece_lists.specs.Parts.{lists_in}
use Rattle.tree_flows.specs.Answers as flows
use Rattle.tree_flows.specs.declared.refusal.DirRefusal.{DirRefusal}
use Rattle.np_model.specs.Basis.Attempts.{goes_up, IsAimed, IsPrepared}
use Rattle.pivot_step.specs.Overflows.{AreReady}
use Rattle.pivot_step.proofs.Answering as answering
use Rattle.pivot_step.proofs.Ready as ready
use Rattle.np_model.specs.Basis.Needed.{lists_of}
use Rattle.pivot_step.proofs.attempt.aim.Goals as goal

pub direction-requires : goal.direction-requires
direction-requires c =
    record { enters = (c.args.phase, (subst (λ (x : List PieceLists). flows.CanEnter (phase_net c.args.phase c.args.full.now) x c.args.arc) (sym (answering.same_given c.args.first.now.lists (option_copied c.args.second))) (answering.can_enter (phase_net c.args.phase c.args.full.now) (real_arcs c.args.full.now) (lists_of (λ (s : Store). s.lists) c.args.first.now.lists (option_copied c.args.second)) c.args.arc c.requires.ready (ready.may c.args.phase c.args.full.now (lists_of (λ (s : Store). s.lists) c.args.first.now.lists (option_copied c.args.second)) (record { enter = c.args.arc; leave = c.args.arc; leave_at = Lower }) c.requires.ready)))) }

pub follow-requires-clause-ready : goal.follow-requires-clause-ready
follow-requires-clause-ready c =
    subst (AreReady (phase_net c.args.phase c.args.full.now) (real_arcs c.args.full.now) (lists_of (λ (s : Store). s.lists) c.args.first.now.lists (option_copied c.args.second))) (sym (answering.has_direction (phase_net c.args.phase c.args.full.now) (real_arcs c.args.full.now) (lists_of (λ (s : Store). s.lists) c.args.first.now.lists (option_copied c.args.second)) c.args.arc c.requires.ready (ready.may c.args.phase c.args.full.now (lists_of (λ (s : Store). s.lists) c.args.first.now.lists (option_copied c.args.second)) (record { enter = c.args.arc; leave = c.args.arc; leave_at = Lower }) c.requires.ready) c.goes_up.result c.in-Ok.direction (c.goes_up.ensures ∙ ap goes_up c.requires.its_mark)
    (subst (λ (x : List PieceLists). flows.IsAnswer (phase_net c.args.phase c.args.full.now) x c.args.arc c.goes_up.result c.in-Ok.direction) (answering.same_given c.args.first.now.lists (option_copied c.args.second))
    (subst (λ (r : Result Direction DirRefusal). MatchResult r (flows.IsAnswer (phase_net c.args.phase c.args.full.now) (lists_of (λ (s : Store). s.lists) c.args.first.now.lists (option_copied c.args.second)) c.args.arc c.goes_up.result) (flows.IsCause (phase_net c.args.phase c.args.full.now) (lists_of (λ (s : Store). s.lists) c.args.first.now.lists (option_copied c.args.second)) c.args.arc c.goes_up.result))
    c.in-Ok.is (c.direction.ensures.answer c.args.phase (subst (λ (x : List PieceLists). flows.CanEnter (phase_net c.args.phase c.args.full.now) x c.args.arc) (sym (answering.same_given c.args.first.now.lists (option_copied c.args.second))) (answering.can_enter (phase_net c.args.phase c.args.full.now) (real_arcs c.args.full.now) (lists_of (λ (s : Store). s.lists) c.args.first.now.lists (option_copied c.args.second)) c.args.arc c.requires.ready (ready.may c.args.phase c.args.full.now (lists_of (λ (s : Store). s.lists) c.args.first.now.lists (option_copied c.args.second)) (record { enter = c.args.arc; leave = c.args.arc; leave_at = Lower }) c.requires.ready))))))).enters) c.requires.ready

pub follow-requires-clause-aimed : goal.follow-requires-clause-aimed
follow-requires-clause-aimed c =
    subst (λ (a : ℕ). IsAimed (phase_net c.args.phase c.args.full.now) (real_arcs c.args.full.now) (lists_of (λ (s : Store). s.lists) c.args.first.now.lists (option_copied c.args.second)) a c.in-Ok.direction) (sym (answering.has_direction (phase_net c.args.phase c.args.full.now) (real_arcs c.args.full.now) (lists_of (λ (s : Store). s.lists) c.args.first.now.lists (option_copied c.args.second)) c.args.arc c.requires.ready (ready.may c.args.phase c.args.full.now (lists_of (λ (s : Store). s.lists) c.args.first.now.lists (option_copied c.args.second)) (record { enter = c.args.arc; leave = c.args.arc; leave_at = Lower }) c.requires.ready) c.goes_up.result c.in-Ok.direction (c.goes_up.ensures ∙ ap goes_up c.requires.its_mark)
    (subst (λ (x : List PieceLists). flows.IsAnswer (phase_net c.args.phase c.args.full.now) x c.args.arc c.goes_up.result c.in-Ok.direction) (answering.same_given c.args.first.now.lists (option_copied c.args.second))
    (subst (λ (r : Result Direction DirRefusal). MatchResult r (flows.IsAnswer (phase_net c.args.phase c.args.full.now) (lists_of (λ (s : Store). s.lists) c.args.first.now.lists (option_copied c.args.second)) c.args.arc c.goes_up.result) (flows.IsCause (phase_net c.args.phase c.args.full.now) (lists_of (λ (s : Store). s.lists) c.args.first.now.lists (option_copied c.args.second)) c.args.arc c.goes_up.result))
    c.in-Ok.is (c.direction.ensures.answer c.args.phase (subst (λ (x : List PieceLists). flows.CanEnter (phase_net c.args.phase c.args.full.now) x c.args.arc) (sym (answering.same_given c.args.first.now.lists (option_copied c.args.second))) (answering.can_enter (phase_net c.args.phase c.args.full.now) (real_arcs c.args.full.now) (lists_of (λ (s : Store). s.lists) c.args.first.now.lists (option_copied c.args.second)) c.args.arc c.requires.ready (ready.may c.args.phase c.args.full.now (lists_of (λ (s : Store). s.lists) c.args.first.now.lists (option_copied c.args.second)) (record { enter = c.args.arc; leave = c.args.arc; leave_at = Lower }) c.requires.ready))))))).enters)
    (record {
      price_fits = c.requires.price_fits;
      eligible = c.requires.ready.eligible;
      has_direction = (answering.has_direction (phase_net c.args.phase c.args.full.now) (real_arcs c.args.full.now) (lists_of (λ (s : Store). s.lists) c.args.first.now.lists (option_copied c.args.second)) c.args.arc c.requires.ready (ready.may c.args.phase c.args.full.now (lists_of (λ (s : Store). s.lists) c.args.first.now.lists (option_copied c.args.second)) (record { enter = c.args.arc; leave = c.args.arc; leave_at = Lower }) c.requires.ready) c.goes_up.result c.in-Ok.direction (c.goes_up.ensures ∙ ap goes_up c.requires.its_mark)
          (subst (λ (x : List PieceLists). flows.IsAnswer (phase_net c.args.phase c.args.full.now) x c.args.arc c.goes_up.result c.in-Ok.direction) (answering.same_given c.args.first.now.lists (option_copied c.args.second))
          (subst (λ (r : Result Direction DirRefusal). MatchResult r (flows.IsAnswer (phase_net c.args.phase c.args.full.now) (lists_of (λ (s : Store). s.lists) c.args.first.now.lists (option_copied c.args.second)) c.args.arc c.goes_up.result) (flows.IsCause (phase_net c.args.phase c.args.full.now) (lists_of (λ (s : Store). s.lists) c.args.first.now.lists (option_copied c.args.second)) c.args.arc c.goes_up.result))
          c.in-Ok.is (c.direction.ensures.answer c.args.phase (subst (λ (x : List PieceLists). flows.CanEnter (phase_net c.args.phase c.args.full.now) x c.args.arc) (sym (answering.same_given c.args.first.now.lists (option_copied c.args.second))) (answering.can_enter (phase_net c.args.phase c.args.full.now) (real_arcs c.args.full.now) (lists_of (λ (s : Store). s.lists) c.args.first.now.lists (option_copied c.args.second)) c.args.arc c.requires.ready (ready.may c.args.phase c.args.full.now (lists_of (λ (s : Store). s.lists) c.args.first.now.lists (option_copied c.args.second)) (record { enter = c.args.arc; leave = c.args.arc; leave_at = Lower }) c.requires.ready)))))));
    })

pub follow-requires-clause-its_flow : goal.follow-requires-clause-its_flow
follow-requires-clause-its_flow c =
    c.requires.its_flow ∙ ap (values_in (phase_net c.args.phase c.args.full.now) (lists_of (λ (s : Store). s.lists) c.args.first.now.lists (option_copied c.args.second))).flow (sym (answering.has_direction (phase_net c.args.phase c.args.full.now) (real_arcs c.args.full.now) (lists_of (λ (s : Store). s.lists) c.args.first.now.lists (option_copied c.args.second)) c.args.arc c.requires.ready (ready.may c.args.phase c.args.full.now (lists_of (λ (s : Store). s.lists) c.args.first.now.lists (option_copied c.args.second)) (record { enter = c.args.arc; leave = c.args.arc; leave_at = Lower }) c.requires.ready) c.goes_up.result c.in-Ok.direction (c.goes_up.ensures ∙ ap goes_up c.requires.its_mark)
    (subst (λ (x : List PieceLists). flows.IsAnswer (phase_net c.args.phase c.args.full.now) x c.args.arc c.goes_up.result c.in-Ok.direction) (answering.same_given c.args.first.now.lists (option_copied c.args.second))
    (subst (λ (r : Result Direction DirRefusal). MatchResult r (flows.IsAnswer (phase_net c.args.phase c.args.full.now) (lists_of (λ (s : Store). s.lists) c.args.first.now.lists (option_copied c.args.second)) c.args.arc c.goes_up.result) (flows.IsCause (phase_net c.args.phase c.args.full.now) (lists_of (λ (s : Store). s.lists) c.args.first.now.lists (option_copied c.args.second)) c.args.arc c.goes_up.result))
    c.in-Ok.is (c.direction.ensures.answer c.args.phase (subst (λ (x : List PieceLists). flows.CanEnter (phase_net c.args.phase c.args.full.now) x c.args.arc) (sym (answering.same_given c.args.first.now.lists (option_copied c.args.second))) (answering.can_enter (phase_net c.args.phase c.args.full.now) (real_arcs c.args.full.now) (lists_of (λ (s : Store). s.lists) c.args.first.now.lists (option_copied c.args.second)) c.args.arc c.requires.ready (ready.may c.args.phase c.args.full.now (lists_of (λ (s : Store). s.lists) c.args.first.now.lists (option_copied c.args.second)) (record { enter = c.args.arc; leave = c.args.arc; leave_at = Lower }) c.requires.ready))))))).enters)

pub returns-in-Ok : goal.returns-in-Ok
returns-in-Ok c =
    subst (λ (a : ℕ). IsPrepared (phase_net c.args.phase c.args.full.now) (real_arcs c.args.full.now) (lists_of (λ (s : Store). s.lists) c.args.first.now.lists (option_copied c.args.second)) a lists_in c.follow.result) (answering.has_direction (phase_net c.args.phase c.args.full.now) (real_arcs c.args.full.now) (lists_of (λ (s : Store). s.lists) c.args.first.now.lists (option_copied c.args.second)) c.args.arc c.requires.ready (ready.may c.args.phase c.args.full.now (lists_of (λ (s : Store). s.lists) c.args.first.now.lists (option_copied c.args.second)) (record { enter = c.args.arc; leave = c.args.arc; leave_at = Lower }) c.requires.ready) c.goes_up.result c.in-Ok.direction (c.goes_up.ensures ∙ ap goes_up c.requires.its_mark)
    (subst (λ (x : List PieceLists). flows.IsAnswer (phase_net c.args.phase c.args.full.now) x c.args.arc c.goes_up.result c.in-Ok.direction) (answering.same_given c.args.first.now.lists (option_copied c.args.second))
    (subst (λ (r : Result Direction DirRefusal). MatchResult r (flows.IsAnswer (phase_net c.args.phase c.args.full.now) (lists_of (λ (s : Store). s.lists) c.args.first.now.lists (option_copied c.args.second)) c.args.arc c.goes_up.result) (flows.IsCause (phase_net c.args.phase c.args.full.now) (lists_of (λ (s : Store). s.lists) c.args.first.now.lists (option_copied c.args.second)) c.args.arc c.goes_up.result))
    c.in-Ok.is (c.direction.ensures.answer c.args.phase (subst (λ (x : List PieceLists). flows.CanEnter (phase_net c.args.phase c.args.full.now) x c.args.arc) (sym (answering.same_given c.args.first.now.lists (option_copied c.args.second))) (answering.can_enter (phase_net c.args.phase c.args.full.now) (real_arcs c.args.full.now) (lists_of (λ (s : Store). s.lists) c.args.first.now.lists (option_copied c.args.second)) c.args.arc c.requires.ready (ready.may c.args.phase c.args.full.now (lists_of (λ (s : Store). s.lists) c.args.first.now.lists (option_copied c.args.second)) (record { enter = c.args.arc; leave = c.args.arc; leave_at = Lower }) c.requires.ready))))))).enters c.follow.ensures

pub returns-in-Err : goal.returns-in-Err
returns-in-Err c =
    subst (λ (x : Prepared (Hands Store)). IsPrepared (phase_net c.args.phase c.args.full.now) (real_arcs c.args.full.now) (lists_of (λ (s : Store). s.lists) c.args.first.now.lists (option_copied c.args.second)) c.args.arc lists_in x) (sym c.refused.ensures)
    (answering.no_direction (phase_net c.args.phase c.args.full.now) (real_arcs c.args.full.now) (lists_of (λ (s : Store). s.lists) c.args.first.now.lists (option_copied c.args.second)) c.args.arc c.requires.ready (ready.may c.args.phase c.args.full.now (lists_of (λ (s : Store). s.lists) c.args.first.now.lists (option_copied c.args.second)) (record { enter = c.args.arc; leave = c.args.arc; leave_at = Lower }) c.requires.ready) c.goes_up.result c.in-Err.refusal (c.goes_up.ensures ∙ ap goes_up c.requires.its_mark) c.requires.price_fits
    (subst (λ (x : List PieceLists). flows.IsCause (phase_net c.args.phase c.args.full.now) x c.args.arc c.goes_up.result c.in-Err.refusal) (answering.same_given c.args.first.now.lists (option_copied c.args.second))
    (subst (λ (r : Result Direction DirRefusal). MatchResult r (flows.IsAnswer (phase_net c.args.phase c.args.full.now) (lists_of (λ (s : Store). s.lists) c.args.first.now.lists (option_copied c.args.second)) c.args.arc c.goes_up.result) (flows.IsCause (phase_net c.args.phase c.args.full.now) (lists_of (λ (s : Store). s.lists) c.args.first.now.lists (option_copied c.args.second)) c.args.arc c.goes_up.result))
    c.in-Err.is (c.direction.ensures.answer c.args.phase (subst (λ (x : List PieceLists). flows.CanEnter (phase_net c.args.phase c.args.full.now) x c.args.arc) (sym (answering.same_given c.args.first.now.lists (option_copied c.args.second))) (answering.can_enter (phase_net c.args.phase c.args.full.now) (real_arcs c.args.full.now) (lists_of (λ (s : Store). s.lists) c.args.first.now.lists (option_copied c.args.second)) c.args.arc c.requires.ready (ready.may c.args.phase c.args.full.now (lists_of (λ (s : Store). s.lists) c.args.first.now.lists (option_copied c.args.second)) (record { enter = c.args.arc; leave = c.args.arc; leave_at = Lower }) c.requires.ready)))))))
