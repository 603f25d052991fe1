use Rattle.std.proofs.Common.{◌∙◌, ◌<◌, ℕ, sym, subst}
use Rattle.std.specs.Option.{option_copied}
use Rattle.np_model.specs.Basis.Phases.{phase_net, real_arcs}
use Rattle.np_basis.proofs.Fulls.{full_net_is_sound}
use Rattle.np_model.specs.Basis.Needed.{lists_of}
use Rattle.pivot_step.proofs.Entering as entering
use Rattle.pivot_step.proofs.Ready as ready
use Rattle.quasi_tree.specs.Store.{Store}
use Rattle.pivot_step.proofs.testing.test.Goals as goal

pub potential_in-tail-requires : goal.potential_in-tail-requires
potential_in-tail-requires c =
    entering.tail_in (phase_net c.args.phase c.args.full.now) (full_net_is_sound c.args.phase c.args.full.now) (lists_of (λ (s : Store). s.lists) c.args.first.now.lists (option_copied c.args.second)) c.args.arc (subst (λ (t : ℕ). c.args.arc < t) (sym (ready.long c.args.phase c.args.full.now)) c.requires.is_arc) c.requires.needed c.tail.result c.ends.result c.tail.ensures (c.ends.ensures c.args.phase)

pub potential_in-head-requires : goal.potential_in-head-requires
potential_in-head-requires c =
    entering.head_in (phase_net c.args.phase c.args.full.now) (full_net_is_sound c.args.phase c.args.full.now) (lists_of (λ (s : Store). s.lists) c.args.first.now.lists (option_copied c.args.second)) c.args.arc (subst (λ (t : ℕ). c.args.arc < t) (sym (ready.long c.args.phase c.args.full.now)) c.requires.is_arc) c.requires.needed c.head.result c.ends.result c.head.ensures (c.ends.ensures c.args.phase)

pub mark_of-mark-requires : goal.mark_of-mark-requires
mark_of-mark-requires c =
    (entering.stands_first (phase_net c.args.phase c.args.full.now) c.args.first.now.lists (option_copied c.args.second) c.args.arc c.requires.sound c.requires.needed (subst (λ (t : ℕ). c.args.arc < t) (sym (ready.long c.args.phase c.args.full.now)) c.requires.is_arc))

pub returns-then-not-eligible : goal.returns-then-not-eligible
returns-then-not-eligible c = (
  entering.price_fits (phase_net c.args.phase c.args.full.now) (real_arcs c.args.full.now) (lists_of (λ (s : Store). s.lists) c.args.first.now.lists (option_copied c.args.second)) c.args.arc c.ends.result c.tail.result c.head.result c.potential_in-tail.result c.potential_in-head.result
      (c.ends.ensures c.args.phase) c.tail.ensures c.head.ensures c.potential_in-tail.ensures c.potential_in-head.ensures c.price.result c.in-Ok.reduced c.price.ensures.value c.in-Ok.is,
  entering.not_eligible (phase_net c.args.phase c.args.full.now) (real_arcs c.args.full.now) (lists_of (λ (s : Store). s.lists) c.args.first.now.lists (option_copied c.args.second)) c.args.arc c.ends.result c.tail.result c.head.result c.potential_in-tail.result c.potential_in-head.result
      (c.ends.ensures c.args.phase) c.tail.ensures c.head.ensures c.potential_in-tail.ensures c.potential_in-head.ensures c.price.result c.in-Ok.reduced c.price.ensures.value c.in-Ok.is
      c.mark_of-mark.result (c.mark_of-mark.ensures ∙ entering.first_mark (phase_net c.args.phase c.args.full.now) c.args.first.now.lists (option_copied c.args.second) c.args.arc (entering.stands_first (phase_net c.args.phase c.args.full.now) c.args.first.now.lists (option_copied c.args.second) c.args.arc c.requires.sound c.requires.needed (subst (λ (t : ℕ). c.args.arc < t) (sym (ready.long c.args.phase c.args.full.now)) c.requires.is_arc))) c.eligible.result (c.eligible.ensures c.args.phase) c.if-not-eligible.true,
)

pub returns : goal.returns
returns c = (
  entering.price_fits (phase_net c.args.phase c.args.full.now) (real_arcs c.args.full.now) (lists_of (λ (s : Store). s.lists) c.args.first.now.lists (option_copied c.args.second)) c.args.arc c.ends.result c.tail.result c.head.result c.potential_in-tail.result c.potential_in-head.result
      (c.ends.ensures c.args.phase) c.tail.ensures c.head.ensures c.potential_in-tail.ensures c.potential_in-head.ensures c.price.result c.in-Ok.reduced c.price.ensures.value c.in-Ok.is,
  entering.eligible (phase_net c.args.phase c.args.full.now) (real_arcs c.args.full.now) (lists_of (λ (s : Store). s.lists) c.args.first.now.lists (option_copied c.args.second)) c.args.arc c.ends.result c.tail.result c.head.result c.potential_in-tail.result c.potential_in-head.result
      (c.ends.ensures c.args.phase) c.tail.ensures c.head.ensures c.potential_in-tail.ensures c.potential_in-head.ensures c.price.result c.in-Ok.reduced c.price.ensures.value c.in-Ok.is
      c.mark_of-mark.result (c.mark_of-mark.ensures ∙ entering.first_mark (phase_net c.args.phase c.args.full.now) c.args.first.now.lists (option_copied c.args.second) c.args.arc (entering.stands_first (phase_net c.args.phase c.args.full.now) c.args.first.now.lists (option_copied c.args.second) c.args.arc c.requires.sound c.requires.needed (subst (λ (t : ℕ). c.args.arc < t) (sym (ready.long c.args.phase c.args.full.now)) c.requires.is_arc))) c.eligible.result (c.eligible.ensures c.args.phase) c.if-not-eligible.false,
  (c.mark_of-mark.ensures ∙ entering.first_mark (phase_net c.args.phase c.args.full.now) c.args.first.now.lists (option_copied c.args.second) c.args.arc (entering.stands_first (phase_net c.args.phase c.args.full.now) c.args.first.now.lists (option_copied c.args.second) c.args.arc c.requires.sound c.requires.needed (subst (λ (t : ℕ). c.args.arc < t) (sym (ready.long c.args.phase c.args.full.now)) c.requires.is_arc))),
  c.flow_at.ensures ∙ entering.its_flow (phase_net c.args.phase c.args.full.now) (real_arcs c.args.full.now) (lists_of (λ (s : Store). s.lists) c.args.first.now.lists (option_copied c.args.second)) c.args.arc c.mark_of-mark.result c.requires.sound (entering.eligible (phase_net c.args.phase c.args.full.now) (real_arcs c.args.full.now) (lists_of (λ (s : Store). s.lists) c.args.first.now.lists (option_copied c.args.second)) c.args.arc c.ends.result c.tail.result c.head.result c.potential_in-tail.result c.potential_in-head.result
      (c.ends.ensures c.args.phase) c.tail.ensures c.head.ensures c.potential_in-tail.ensures c.potential_in-head.ensures c.price.result c.in-Ok.reduced c.price.ensures.value c.in-Ok.is
      c.mark_of-mark.result (c.mark_of-mark.ensures ∙ entering.first_mark (phase_net c.args.phase c.args.full.now) c.args.first.now.lists (option_copied c.args.second) c.args.arc (entering.stands_first (phase_net c.args.phase c.args.full.now) c.args.first.now.lists (option_copied c.args.second) c.args.arc c.requires.sound c.requires.needed (subst (λ (t : ℕ). c.args.arc < t) (sym (ready.long c.args.phase c.args.full.now)) c.requires.is_arc))) c.eligible.result (c.eligible.ensures c.args.phase) c.if-not-eligible.false) (c.mark_of-mark.ensures ∙ entering.first_mark (phase_net c.args.phase c.args.full.now) c.args.first.now.lists (option_copied c.args.second) c.args.arc (entering.stands_first (phase_net c.args.phase c.args.full.now) c.args.first.now.lists (option_copied c.args.second) c.args.arc c.requires.sound c.requires.needed (subst (λ (t : ℕ). c.args.arc < t) (sym (ready.long c.args.phase c.args.full.now)) c.requires.is_arc))),
)
