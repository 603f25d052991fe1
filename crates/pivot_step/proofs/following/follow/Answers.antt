use Rattle.std.proofs.Common.{List, refl, sym, subst}
use Rattle.std.specs.Option.{option_copied}
use Rattle.np_model.specs.declared.log.Mark.TheVariants.{Lower}
use Rattle.np_model.specs.Basis.Phases.{phase_net, real_arcs}
use Rattle.np_model.specs.Basis.Pieces.{PieceLists}
use Rattle.np_model.specs.Basis.Attempts.{LimitsOverflow, of_ratio}
use Rattle.ratio_test.specs.Asked.{IsOutside, IsAlong}
use Rattle.np_model.specs.Basis.Needed.{lists_of}
use Rattle.pivot_step.proofs.Answering as answering
use Rattle.pivot_step.proofs.Ready as ready
use Rattle.quasi_tree.specs.Store.{Store}
use Rattle.pivot_step.proofs.following.follow.Goals as goal

pub ratio-requires-clause-outside : goal.ratio-requires-clause-outside
ratio-requires-clause-outside c κs =
    subst (λ (x : List PieceLists). IsOutside (phase_net c.args.phase c.args.full.now) x c.args.direction.enter) (sym (answering.given_is c.args.first.now.lists c.args.second))
    (answering.outside (phase_net c.args.phase c.args.full.now) (real_arcs c.args.full.now) (lists_of (λ (s : Store). s.lists) c.args.first.now.lists (option_copied c.args.second)) c.args.direction.enter c.requires.ready (ready.may c.args.phase c.args.full.now (lists_of (λ (s : Store). s.lists) c.args.first.now.lists (option_copied c.args.second)) (record { enter = c.args.direction.enter; leave = c.args.direction.enter; leave_at = Lower }) c.requires.ready))

pub ratio-requires-clause-along : goal.ratio-requires-clause-along
ratio-requires-clause-along c κs =
    subst (λ (x : List PieceLists). IsAlong x c.args.direction) (sym (answering.given_is c.args.first.now.lists c.args.second))
    (answering.along (phase_net c.args.phase c.args.full.now) (real_arcs c.args.full.now) (lists_of (λ (s : Store). s.lists) c.args.first.now.lists (option_copied c.args.second)) c.args.direction.enter c.requires.ready (ready.may c.args.phase c.args.full.now (lists_of (λ (s : Store). s.lists) c.args.first.now.lists (option_copied c.args.second)) (record { enter = c.args.direction.enter; leave = c.args.direction.enter; leave_at = Lower }) c.requires.ready) c.args.direction refl c.requires.aimed.has_direction)

pub returns-in-Err : goal.returns-in-Err
returns-in-Err c =
    of_ratio c.args.direction c.requires.aimed (subst (λ (x : List PieceLists). LimitsOverflow (phase_net c.args.phase c.args.full.now) x c.args.direction c.in-Err.overflow) (answering.given_is c.args.first.now.lists c.args.second) c.in-Err.ensures)
