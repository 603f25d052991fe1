use Rattle.std.proofs.Common.{sym, subst}
use Rattle.np_model.specs.Scheme.Fits.{LogFits}
use Rattle.certificates.proofs.Sums.{unbounded_told, unbounded_given, unbounded_accepted, no_log_fits}
use Rattle.certificates.proofs.certifying.unbounded.Goals as goal

pub returns-in-Err-clause-plan : goal.returns-in-Err-clause-plan
returns-in-Err-clause-plan c =
    rw c.told_of_walk.ensures
    (unbounded_told c.args.scheme.now c.args.flows c.args.ray c.no_fracs.result c.no_log.result c.args.log c.walk_accepts.ensures.unbounded c.requires
    (subst LogFits (sym c.no_log.ensures) no_log_fits) c.in-Err.refusal c.in-Err.ensures.walk)

pub returns-in-Ok-clause-plan : goal.returns-in-Ok-clause-plan
returns-in-Ok-clause-plan c =
    unbounded_given c.args.scheme.now c.args.flows c.args.ray c.no_fracs.result c.no_log.result c.args.log c.no_fracs.ensures c.in-Ok.field-0 c.in-Ok.ensures.walk

pub returns-in-Ok-clause-accepted : goal.returns-in-Ok-clause-accepted
returns-in-Ok-clause-accepted c =
    unbounded_accepted c.args.scheme.now c.args.flows c.args.ray c.no_fracs.result c.no_log.result c.args.log c.walk_accepts.ensures.unbounded c.requires
    (subst LogFits (sym c.no_log.ensures) no_log_fits) c.no_fracs.ensures c.in-Ok.field-0 c.in-Ok.ensures.walk
