use Rattle.certificates.proofs.Sums.{optimal_no_reject, optimal_told, optimal_accepted, optimal_given}
use Rattle.certificates.proofs.certifying.optimal.Goals as goal

pub told_of_walk-requires : goal.told_of_walk-requires
told_of_walk-requires c =
    optimal_no_reject c.args.scheme.now c.args.flows c.args.prices c.args.log c.requires.feasible c.requires.shown c.walk_accepts.ensures.optimal c.as_slice.result.now c.as_slice-2.result.now c.as_slice.ensures c.as_slice-2.ensures c.in-Err.refusal c.in-Err.ensures

pub returns-in-Ok-clause-plan : goal.returns-in-Ok-clause-plan
returns-in-Ok-clause-plan c =
    rw c.no_fracs.ensures
    (optimal_given c.args.scheme.now c.args.flows c.args.prices c.args.log c.requires.feasible c.requires.shown c.walk_proves.ensures c.as_slice.result.now c.as_slice-2.result.now c.as_slice.ensures c.as_slice-2.ensures c.in-Ok.cost c.in-Ok.ensures)

pub returns-in-Ok-clause-accepted : goal.returns-in-Ok-clause-accepted
returns-in-Ok-clause-accepted c =
    rw c.no_fracs.ensures
    (optimal_accepted c.args.scheme.now c.args.flows c.args.prices c.args.log c.requires.feasible c.requires.shown c.walk_proves.ensures c.as_slice.result.now c.as_slice-2.result.now c.as_slice.ensures c.as_slice-2.ensures c.in-Ok.cost c.in-Ok.ensures)

pub returns-in-Err-clause-plan : goal.returns-in-Err-clause-plan
returns-in-Err-clause-plan c =
    rw c.told_of_walk.ensures
    (optimal_told c.args.scheme.now c.args.flows c.args.prices c.args.log c.requires.feasible c.requires.shown c.walk_accepts.ensures.optimal c.as_slice.result.now c.as_slice-2.result.now c.as_slice.ensures c.as_slice-2.ensures c.in-Err.refusal c.in-Err.ensures)
