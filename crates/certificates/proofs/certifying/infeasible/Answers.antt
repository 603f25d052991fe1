use Rattle.certificates.proofs.Sums.{infeasible_no_reject, infeasible_told, infeasible_accepted, infeasible_given}
use Rattle.certificates.proofs.certifying.infeasible.Goals as goal

pub told_of_walk-requires : goal.told_of_walk-requires
told_of_walk-requires c =
    infeasible_no_reject c.args.scheme.now c.args.prices c.args.log c.requires c.walk_accepts.ensures.infeasible c.as_slice.result.now c.as_slice.ensures c.in-Err.refusal c.in-Err.ensures

pub returns-in-Ok-clause-plan : goal.returns-in-Ok-clause-plan
returns-in-Ok-clause-plan c =
    rw (c.no_fracs.ensures, c.no_fracs-in-Ok.ensures)
    (infeasible_given c.args.scheme.now c.args.prices c.args.log c.requires c.walk_proves.ensures c.as_slice.result.now c.as_slice.ensures c.in-Ok.gap c.in-Ok.ensures)

pub returns-in-Ok-clause-accepted : goal.returns-in-Ok-clause-accepted
returns-in-Ok-clause-accepted c =
    rw (c.no_fracs.ensures, c.no_fracs-in-Ok.ensures)
    (infeasible_accepted c.args.scheme.now c.args.prices c.args.log c.requires c.walk_proves.ensures c.as_slice.result.now c.as_slice.ensures c.in-Ok.gap c.in-Ok.ensures)

pub returns-in-Err-clause-plan : goal.returns-in-Err-clause-plan
returns-in-Err-clause-plan c =
    rw c.told_of_walk.ensures
    (infeasible_told c.args.scheme.now c.args.prices c.args.log c.requires c.walk_accepts.ensures.infeasible c.as_slice.result.now c.as_slice.ensures c.in-Err.refusal c.in-Err.ensures)
