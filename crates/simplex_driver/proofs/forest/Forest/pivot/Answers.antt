use Rattle.std.proofs.Common.{◌<◌, ℕ, length, ap, subst, ◌∙◌, arith}
use Rattle.std.specs.List.{flat_map}
use Rattle.np_model.specs.Basis.Needed.{lists_held}
use Rattle.np_model.specs.Basis.Phases.{phase_net, real_arcs}
use Rattle.quasi_tree.specs.Store.{Store}
use Rattle.simplex_driver.specs.Homes.{homes_needed}
use Rattle.simplex_driver.specs.Store.{emptied, potentials_of, flows_written}
use Rattle.simplex_driver.proofs.Attempts as attempts
use Rattle.simplex_driver.proofs.Tables.{length_written}
use Rattle.simplex_driver.proofs.forest.Forest.pivot.Goals as goal

pub vacate-requires : goal.vacate-requires
vacate-requires c =
    let net = phase_net c.args.phase c.args.full.now in
    attempts.have_homes net (real_arcs c.args.full.now) (attempts.ground c.args.phase c.args.full.now) c.args.self.now c.requires.state c.requires.kept c.args.homes.now c.requires.homes c.ends.result
    (attempts.joins net (real_arcs c.args.full.now) (attempts.ground c.args.phase c.args.full.now) c.args.self.now c.requires.state c.requires.kept c.args.homes.now c.requires.homes c.args.entry.enter c.ends.result
    (attempts.enter_below net (real_arcs c.args.full.now) (attempts.ground c.args.phase c.args.full.now) c.args.self.now c.requires.state c.requires.kept c.args.homes.now c.requires.homes c.args.entry c.args.change c.requires.can)
    (c.ends.ensures c.args.phase))

pub house_all-requires : goal.house_all-requires
house_all-requires c =
    attempts.all_within c.vacate.new.self c.apply.result (λ p i.
    attempts.lies_within (phase_net c.args.phase c.args.full.now) (real_arcs c.args.full.now) (attempts.ground c.args.phase c.args.full.now) c.args.self.now c.requires.state c.requires.kept c.args.homes.now c.requires.homes c.args.entry c.args.change c.requires.can
    c.vacate.new.self (ap length c.vacate.ensures.slots ∙ length_written (emptied (homes_needed c.args.homes.now c.ends.result)) c.args.self.now.slots.items)
    (ap length c.vacate.ensures.potentials) (ap length c.vacate.ensures.flows) p (attempts.in_lists p c.apply.result c.args.change c.apply.ensures i))

pub flow_at-requires : goal.flow_at-requires
flow_at-requires c =
    subst (λ (t : ℕ). c.args.entry.leave < t) (attempts.long c.args.phase c.args.full.now)
    (attempts.leave_below (phase_net c.args.phase c.args.full.now) (real_arcs c.args.full.now) (attempts.ground c.args.phase c.args.full.now) c.args.self.now c.requires.state c.requires.kept c.args.homes.now c.requires.homes c.args.entry c.args.change c.requires.can)

pub mark-requires-clause-flow : goal.mark-requires-clause-flow
mark-requires-clause-flow c =
    let l = attempts.leave_below (phase_net c.args.phase c.args.full.now) (real_arcs c.args.full.now) (attempts.ground c.args.phase c.args.full.now) c.args.self.now c.requires.state c.requires.kept c.args.homes.now c.requires.homes c.args.entry c.args.change c.requires.can in
    let n = ap length c.house_all.ensures.flows ∙ length_written (flat_map flows_written (lists_held (λ (s : Store). s.lists) c.apply.result)) c.vacate.new.self.flows.items ∙ ap length c.vacate.ensures.flows
    ∙ c.requires.state.feasible.one_each in
    omega (arith, l, n)

pub mark-requires-clause-enter : goal.mark-requires-clause-enter
mark-requires-clause-enter c =
    let l = attempts.enter_below (phase_net c.args.phase c.args.full.now) (real_arcs c.args.full.now) (attempts.ground c.args.phase c.args.full.now) c.args.self.now c.requires.state c.requires.kept c.args.homes.now c.requires.homes c.args.entry c.args.change c.requires.can in
    let n = ap length c.house_all.ensures.marks ∙ ap length c.vacate.ensures.marks ∙ c.requires.state.one_mark_each in
    omega (arith, l, n)

pub mark-requires-clause-leave : goal.mark-requires-clause-leave
mark-requires-clause-leave c =
    let l = attempts.leave_below (phase_net c.args.phase c.args.full.now) (real_arcs c.args.full.now) (attempts.ground c.args.phase c.args.full.now) c.args.self.now c.requires.state c.requires.kept c.args.homes.now c.requires.homes c.args.entry c.args.change c.requires.can in
    let n = ap length c.house_all.ensures.marks ∙ ap length c.vacate.ensures.marks ∙ c.requires.state.one_mark_each in
    omega (arith, l, n)

pub returns-clause-pivot : goal.returns-clause-pivot
returns-clause-pivot c =
    (attempts.made (phase_net c.args.phase c.args.full.now) (real_arcs c.args.full.now) (attempts.ground c.args.phase c.args.full.now) c.args.self.now c.requires.state c.requires.kept c.args.homes.now c.requires.homes c.args.entry c.args.change c.requires.can
    c.mark.new.self
    (attempts.slots_made (phase_net c.args.phase c.args.full.now) c.args.homes.now c.args.self.now c.vacate.new.self c.house_all.new.self c.mark.new.self c.args.entry c.ends.result c.apply.result c.args.change (c.ends.ensures c.args.phase) c.apply.ensures
    c.vacate.ensures.slots c.house_all.ensures.slots c.mark.ensures.slots)
    (c.mark.ensures.potentials ∙ attempts.table_made potentials_of c.apply.result c.args.change c.apply.ensures c.args.self.now.potentials.items c.vacate.new.self.potentials.items c.house_all.new.self.potentials.items c.vacate.ensures.potentials c.house_all.ensures.potentials)
    (attempts.flows_made (phase_net c.args.phase c.args.full.now) c.args.entry c.flow_at.result c.apply.result c.args.change c.apply.ensures c.args.self.now.flows.items c.vacate.new.self.flows.items c.house_all.new.self.flows.items c.mark.new.self.flows.items
    c.vacate.ensures.flows c.house_all.ensures.flows c.flow_at.ensures c.mark.ensures.flows)
    (attempts.marks_made c.args.entry c.args.self.now.marks.items c.vacate.new.self.marks.items c.house_all.new.self.marks.items c.mark.new.self.marks.items c.vacate.ensures.marks c.house_all.ensures.marks c.mark.ensures.marks)).0

pub returns-clause-kept : goal.returns-clause-kept
returns-clause-kept c =
    (attempts.made (phase_net c.args.phase c.args.full.now) (real_arcs c.args.full.now) (attempts.ground c.args.phase c.args.full.now) c.args.self.now c.requires.state c.requires.kept c.args.homes.now c.requires.homes c.args.entry c.args.change c.requires.can
    c.mark.new.self
    (attempts.slots_made (phase_net c.args.phase c.args.full.now) c.args.homes.now c.args.self.now c.vacate.new.self c.house_all.new.self c.mark.new.self c.args.entry c.ends.result c.apply.result c.args.change (c.ends.ensures c.args.phase) c.apply.ensures
    c.vacate.ensures.slots c.house_all.ensures.slots c.mark.ensures.slots)
    (c.mark.ensures.potentials ∙ attempts.table_made potentials_of c.apply.result c.args.change c.apply.ensures c.args.self.now.potentials.items c.vacate.new.self.potentials.items c.house_all.new.self.potentials.items c.vacate.ensures.potentials c.house_all.ensures.potentials)
    (attempts.flows_made (phase_net c.args.phase c.args.full.now) c.args.entry c.flow_at.result c.apply.result c.args.change c.apply.ensures c.args.self.now.flows.items c.vacate.new.self.flows.items c.house_all.new.self.flows.items c.mark.new.self.flows.items
    c.vacate.ensures.flows c.house_all.ensures.flows c.flow_at.ensures c.mark.ensures.flows)
    (attempts.marks_made c.args.entry c.args.self.now.marks.items c.vacate.new.self.marks.items c.house_all.new.self.marks.items c.mark.new.self.marks.items c.vacate.ensures.marks c.house_all.ensures.marks c.mark.ensures.marks)).1
