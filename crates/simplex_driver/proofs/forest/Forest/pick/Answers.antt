use Rattle.std.proofs.Common.{sym, subst, arith, below_more}
use Rattle.std.specs.Prelude.{slice_index_or}
use Rattle.np_model.specs.declared.rows.Overflow.{Overflow}
use Rattle.np_model.specs.Basis.Phases.{phase_net, real_arcs}
use Rattle.np_model.specs.Basis.States.{values_of}
use Rattle.np_runs.specs.Ended.{AttemptOverflows}
use Rattle.simplex_driver.specs.Store.{state_of}
use Rattle.simplex_driver.specs.Picks.{OneOverflows}
use Rattle.simplex_driver.proofs.Attempts as attempts
use Rattle.simplex_driver.proofs.Trying as trying
use Rattle.simplex_driver.proofs.forest.Forest.pick.Goals as goal

pub attempt-requires-clause-is_arc : goal.attempt-requires-clause-is_arc
attempt-requires-clause-is_arc c =
    let e = c.requires.listed (slice_index_or c.args.list.now c.loop-arc.arc-index 0) (attempts.place_in c.args.list.now 0 c.loop-arc.arc-index c.loop-arc-test.true) in
    omega (arith, e.is_open.0)

pub unreachable-requires : goal.unreachable-requires
unreachable-requires c =
    trying.not_refused (phase_net c.args.phase c.args.full.now) (real_arcs c.args.full.now) (attempts.ground c.args.phase c.args.full.now) (state_of c.args.self.now) c.requires.state
    (slice_index_or c.args.list.now c.loop-arc.arc-index 0) c.attempt.result c.in-NotEligible.is c.attempt.ensures
    (c.requires.listed (slice_index_or c.args.list.now c.loop-arc.arc-index 0) (attempts.place_in c.args.list.now 0 c.loop-arc.arc-index c.loop-arc-test.true))

pub returns-in-Ready : goal.returns-in-Ready
returns-in-Ready c =
    trying.can_pivot (phase_net c.args.phase c.args.full.now) (real_arcs c.args.full.now) (attempts.ground c.args.phase c.args.full.now) (state_of c.args.self.now) c.requires.state
    (slice_index_or c.args.list.now c.loop-arc.arc-index 0) c.attempt.result c.in-Ready.entry c.in-Ready.change c.in-Ready.is c.attempt.ensures

pub returns-in-Ray : goal.returns-in-Ray
returns-in-Ray c = (
  slice_index_or c.args.list.now c.loop-arc.arc-index 0,
  trying.finds_ray (phase_net c.args.phase c.args.full.now) (real_arcs c.args.full.now) (attempts.ground c.args.phase c.args.full.now) (state_of c.args.self.now) c.requires.state
      (slice_index_or c.args.list.now c.loop-arc.arc-index 0) c.attempt.result c.in-Ray.direction c.in-Ray.is c.attempt.ensures,
)

pub loop-arc-preserved : goal.loop-arc-preserved
loop-arc-preserved c =
    let net = phase_net c.args.phase c.args.full.now in
    let real = real_arcs c.args.full.now in
    let arc = slice_index_or c.args.list.now c.loop-arc.arc-index 0 in
    let past = trying.overflows net real (attempts.ground c.args.phase c.args.full.now) (state_of c.args.self.now) c.requires.state arc c.attempt.result c.in-Past.overflow c.in-Past.is c.attempt.ensures in
    record {
      before = below_more (λ k. (overflow : Overflow) × AttemptOverflows net real (values_of (state_of c.args.self.now)) (slice_index_or c.args.list.now k 0) overflow) c.loop-arc.arc-index c.loop-arc.invariant.before (c.in-Past.overflow, past);
      found = subst (OneOverflows net real (values_of (state_of c.args.self.now)) c.args.list.now) (sym c.first_of.ensures)
          (trying.found_more net real (state_of c.args.self.now) c.args.list.now c.loop-arc.arc-index c.loop-arc.found c.in-Past.overflow c.loop-arc.invariant.found
          (record { arc = arc; listed = attempts.place_in c.args.list.now 0 c.loop-arc.arc-index c.loop-arc-test.true; overflows = past }));
    }

pub unreachable-requires-in-None : goal.unreachable-requires-in-None
unreachable-requires-in-None c =
    let none = subst (trying.HasFound (phase_net c.args.phase c.args.full.now) (real_arcs c.args.full.now) (state_of c.args.self.now) c.args.list.now c.loop-arc.arc-index) c.in-None.is c.loop-arc.invariant.found in
    omega (arith, none, c.requires.some, c.loop-arc-test.false)

pub returns : goal.returns
returns c = (
  subst (trying.HasFound (phase_net c.args.phase c.args.full.now) (real_arcs c.args.full.now) (state_of c.args.self.now) c.args.list.now c.loop-arc.arc-index) c.in-Some.is c.loop-arc.invariant.found,
  trying.from_places (phase_net c.args.phase c.args.full.now) (real_arcs c.args.full.now) (state_of c.args.self.now) c.args.list.now (λ k l. c.loop-arc.invariant.before k (omega (arith, l, c.loop-arc-test.false, c.loop-arc.auto.arc-index-end))),
)
