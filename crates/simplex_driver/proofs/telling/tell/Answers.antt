use Rattle.std.proofs.Common.{subst}
use Rattle.np_model.specs.Basis.Phases.{phase_net, real_arcs}
use Rattle.np_model.specs.Basis.States.{values_of}
use Rattle.np_runs.specs.Runs.{stage_of}
use Rattle.simplex_driver.specs.Found.{IsFound}
use Rattle.simplex_driver.specs.Store.{state_of}
use Rattle.simplex_driver.proofs.Ending as ending
use Rattle.simplex_driver.proofs.telling.tell.Goals as goal

pub unreachable-requires-in-None : goal.unreachable-requires-in-None
unreachable-requires-in-None c =
    let h = subst (IsFound (phase_net (stage_of c.args.turned) c.args.full.now) (real_arcs c.args.full.now) (values_of (state_of c.args.forest)) c.args.spent) c.in-Ray.is c.requires.found in
    ending.no_ray c.attempts.ensures.none_in_stage_one c.args.full.now c.requires.good c.args.turned (state_of c.args.forest) h.2.0 c.in-Ray.direction c.in-None.is c.requires.goes.is_state h.2.1

pub returns-in-Attempts : goal.returns-in-Attempts
returns-in-Attempts c =
    let h = subst (IsFound (phase_net (stage_of c.args.turned) c.args.full.now) (real_arcs c.args.full.now) (values_of (state_of c.args.forest)) c.args.spent) c.in-Attempts.is c.requires.found in
    ending.attempts_overflow c.args.full.now c.requires.good c.args.budget c.args.turned c.args.entries.items c.args.forest c.requires.goes c.requires.few c.requires.live c.args.spent c.requires.counted
    c.log_of-in-Attempts.result (ending.log_of_parts c.log_of-in-Attempts.result c.args.turned c.args.entries.items c.log_of-in-Attempts.ensures.turned c.log_of-in-Attempts.ensures.entries) c.in-Attempts.overflow h.0 h.1 h.2
