use Rattle.std.proofs.Common.{rules, subst}
use Rattle.np_model.specs.declared.phase.Phase.TheVariants.{Two}
use Rattle.np_model.specs.Basis.Phases.{phase_net, real_arcs}
use Rattle.simplex_driver.specs.Turns.{IsTurnCause}
use Rattle.simplex_driver.proofs.Driving as driving
use Rattle.simplex_driver.proofs.driver.turn_if_due.Goals as goal

pub returns-in-Err-Past : goal.returns-in-Err-Past
returns-in-Err-Past c = driving.stopped c.args.full.now c.args.entries.now c.args.turned c.args.forest.now c.in-Err-Past.overflow c.requires.good c.in-None.is c.requires.goes
    (driving.carries_here c.deref.result.now c.args.forest.now.flows.items c.len.result (real_arcs c.args.full.now) c.deref.ensures.value (search rules) c.carries.result c.if-carries.false c.carries.ensures)
    (subst (IsTurnCause (phase_net Two c.args.full.now) c.args.forest.now.slots.items) c.in-Err-Past.field-0-is c.in-Err-Past.ensures.cause)
