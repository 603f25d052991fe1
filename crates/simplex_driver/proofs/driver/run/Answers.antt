use Rattle.std.proofs.Common.{rules, ◌≡◌, ◌<◌, ◌++◌, ◌∷◌, [], length, ap, sym, subst, ◌∙◌, inl}
use Rattle.std.specs.Prelude.{Some}
use Rattle.np_model.specs.Basis.Phases.{network_of, phase_net, real_arcs}
use Rattle.np_model.specs.Basis.Pivots.{IsPivot}
use Rattle.np_model.specs.Basis.States.{values_of, IsState}
use Rattle.np_runs.specs.Runs.{PivotsLead}
use Rattle.simplex_driver.specs.Runs.{Goes, IsStopped}
use Rattle.simplex_driver.specs.Store.{state_of, IsKept}
use Rattle.simplex_driver.proofs.Driving as driving
use Rattle.simplex_driver.proofs.Pricing.{listed_real}
use Rattle.simplex_driver.proofs.driver.run.Goals as goal

pub returns-in-Past : goal.returns-in-Past
returns-in-Past g c =
    driving.turn_stops c.args.full.now c.requires.good c.args.budget c.steps.entries.items c.in-Past.overflow c.log_of-log.result c.steps.invariant.few
    (c.log_of-log.ensures.turned ∙ ap Some (search rules)) c.log_of-log.ensures.entries
    (subst (λ es. IsStopped c.args.full.now es c.in-Past.overflow) c.deref.ensures.value c.in-Past.ensures)

pub round-requires-clause-listed : goal.round-requires-clause-listed
round-requires-clause-listed g c = λ κs h.
    listed_real (phase_net c.phase_of-phase.result c.args.full.now) (real_arcs c.args.full.now) (values_of (state_of c.turn_if_due.new.forest)) c.in-Pivot.list c.as_slice-listed.result.now (search rules) c.in-Pivot.ensures.2

pub steps-smaller : goal.steps-smaller
steps-smaller g c =
    let items : c.push.new.self.items ≡ c.steps.entries.items ++ c.in-Pivot.entry ∷ [] = search rules in
    let all : c.extend_from_slice.new.self.items ≡ c.push.new.self.items ++ c.in_ok-made-in-Pivot.made.items = search rules in
    let n : c.len-in-steps.result ≡ length c.steps.entries.items = search rules in
    driving.smaller_by c.steps.entries.items c.push.new.self.items c.extend_from_slice.new.self.items c.in_ok-made-in-Pivot.made.items c.in-Pivot.entry c.args.budget items all
    (driving.unspent c.len-in-steps.result c.args.budget c.steps.entries.items n c.steps.invariant.few c.in-Pivot.ensures.0)

pub steps-preserved : goal.steps-preserved
steps-preserved g c =
    let goes = subst (λ es. Goes c.args.full.now c.in-Live.now es c.turn_if_due.new.forest) c.deref.ensures.value c.in-Live.ensures.0 in
    let items : c.push.new.self.items ≡ c.steps.entries.items ++ c.in-Pivot.entry ∷ [] = search rules in
    let all : c.extend_from_slice.new.self.items ≡ c.push.new.self.items ++ c.in_ok-made-in-Pivot.made.items = search rules in
    let n : c.len-in-steps.result ≡ length c.steps.entries.items = search rules in
    let pushed : Goes c.args.full.now c.in-Live.now c.push.new.self.items c.pivot.new.self = subst (λ es. Goes c.args.full.now c.in-Live.now es c.pivot.new.self) (sym items)
    (driving.goes_on c.args.full.now c.requires.good c.in-Live.now c.steps.entries.items c.in-Pivot.entry c.turn_if_due.new.forest c.pivot.new.self goes
    (subst (λ p. IsPivot (phase_net p c.args.full.now) (real_arcs c.args.full.now) (state_of c.turn_if_due.new.forest) c.in-Pivot.entry (state_of c.pivot.new.self)) c.phase_of-phase.ensures c.pivot.ensures.pivot)
    (subst (λ p. IsKept (phase_net p c.args.full.now) c.pivot.new.self) c.phase_of-phase.ensures c.pivot.ensures.kept)) in
    let few = driving.few_more c.steps.entries.items c.push.new.self.items c.in-Pivot.entry c.args.budget items
    (driving.unspent c.len-in-steps.result c.args.budget c.steps.entries.items n c.steps.invariant.few c.in-Pivot.ensures.0) in
    record {
      goes = subst (λ es. Goes c.args.full.now c.in-Live.now es c.round.new.self) (sym all)
          (driving.goes_far c.args.full.now c.requires.good c.in-Live.now c.push.new.self.items c.in_ok-made-in-Pivot.made.items c.pivot.new.self c.round.new.self pushed
          (subst (λ p. PivotsLead p (network_of c.args.full.now.net) (state_of c.pivot.new.self) c.in_ok-made-in-Pivot.made.items (state_of c.round.new.self)) c.phase_of-phase.ensures c.in_ok-made-in-Pivot.ensures.leads)
          (subst (λ p. IsState (phase_net p c.args.full.now) (state_of c.round.new.self)) c.phase_of-phase.ensures c.in_ok-made-in-Pivot.ensures.state)
          (subst (λ p. IsKept (phase_net p c.args.full.now) c.round.new.self) c.phase_of-phase.ensures c.in_ok-made-in-Pivot.ensures.kept));
      few = driving.few_all c.push.new.self.items c.extend_from_slice.new.self.items c.in_ok-made-in-Pivot.made.items c.len-in-Pivot.result c.args.budget all (search rules) few c.in_ok-made-in-Pivot.ensures.within;
      begins = inl (subst (λ r. c.after-from.result < r) (search rules) c.after-from.ensures);
    }
