use Rattle.std.proofs.Common.{◌∙◌, ap}
use Rattle.np_model.specs.Scheme.Fits.{PlanFits}
use Rattle.np_model.specs.declared.plan.Plan.{Plan}
use Rattle.convex_arcs.specs.Segments.{flat_arcs}
use Rattle.netplan_top.specs.Steps.Solved.{IsFoundAs}
use Rattle.certificates.specs.Certificates.{certificate}
use Rattle.netplan_top.proofs.SolveFacts.{ended_of, found_of, overflow_fits, overflow_found, same_overflow, past_told}
use Rattle.netplan_top.proofs.commands.solve.found.Goals as goal

pub certify-requires-clause-ended : goal.certify-requires-clause-ended
certify-requires-clause-ended g c = (
  c.args.job.budget,
  ended_of c.in_ok-net.net c.args.scheme.now c.args.job.budget c.in_ok-outcome.outcome (c.in_ok-net.ensures.supply ∙ c.in_ok-expanded.ensures.supply)
      (c.in_ok-net.ensures.arcs ∙ ap flat_arcs c.in_ok-expanded.ensures.staged) c.in_ok-outcome.ensures,
)

pub returns-in-Ok-clause-fits : goal.returns-in-Ok-clause-fits
returns-in-Ok-clause-fits g c =
    let ended = ended_of c.in_ok-net.net c.args.scheme.now c.args.job.budget c.in_ok-outcome.outcome (c.in_ok-net.ensures.supply ∙ c.in_ok-expanded.ensures.supply)
    (c.in_ok-net.ensures.arcs ∙ ap flat_arcs c.in_ok-expanded.ensures.staged) c.in_ok-outcome.ensures in
    c.in-Ok.ensures.fits (c.args.job.budget, c.requires.budget.1, ended)

pub returns-in-Ok-clause-found : goal.returns-in-Ok-clause-found
returns-in-Ok-clause-found g c =
    let ended = ended_of c.in_ok-net.net c.args.scheme.now c.args.job.budget c.in_ok-outcome.outcome (c.in_ok-net.ensures.supply ∙ c.in_ok-expanded.ensures.supply)
    (c.in_ok-net.ensures.arcs ∙ ap flat_arcs c.in_ok-expanded.ensures.staged) c.in_ok-outcome.ensures in
    found_of c.amounts.ensures.exact c.walk_proves.ensures c.args.job c.args.scheme.now c.in-Ok.plan c.in-Ok.ensures.accepted (c.in-Ok.ensures.fits (c.args.job.budget, c.requires.budget.1, ended)) c.in_ok-outcome.outcome ended c.in-Ok.ensures.plan

pub returns-in-Err-Past-clause-fits : goal.returns-in-Err-Past-clause-fits
returns-in-Err-Past-clause-fits g c =
    let ended = ended_of c.in_ok-net.net c.args.scheme.now c.args.job.budget c.in_ok-outcome.outcome (c.in_ok-net.ensures.supply ∙ c.in_ok-expanded.ensures.supply)
    (c.in_ok-net.ensures.arcs ∙ ap flat_arcs c.in_ok-expanded.ensures.staged) c.in_ok-outcome.ensures in
    let told = past_told (certificate c.args.scheme.now c.in_ok-outcome.outcome) c.in-Err-Past.field-0 c.in-Err-Past.overflow c.in-Err-Past.field-0-is c.in-Err-Past.ensures.plan in
    same_overflow (λ (p : Plan). PlanFits c.args.scheme.now p) c.overflowed.result c.in-Err-Past.overflow c.into_log.result c.in_ok-outcome.outcome c.overflowed.ensures c.into_log.ensures
    (overflow_fits c.ended_outcomes.ensures.log c.args.scheme.now c.args.job c.in_ok-outcome.outcome c.in-Err-Past.overflow c.requires.budget.1 ended told)

pub returns-in-Err-Past-clause-found : goal.returns-in-Err-Past-clause-found
returns-in-Err-Past-clause-found g c =
    let ended = ended_of c.in_ok-net.net c.args.scheme.now c.args.job.budget c.in_ok-outcome.outcome (c.in_ok-net.ensures.supply ∙ c.in_ok-expanded.ensures.supply)
    (c.in_ok-net.ensures.arcs ∙ ap flat_arcs c.in_ok-expanded.ensures.staged) c.in_ok-outcome.ensures in
    let told = past_told (certificate c.args.scheme.now c.in_ok-outcome.outcome) c.in-Err-Past.field-0 c.in-Err-Past.overflow c.in-Err-Past.field-0-is c.in-Err-Past.ensures.plan in
    same_overflow (λ (p : Plan). IsFoundAs p.verdict c.args.job c.args.scheme.now p) c.overflowed.result c.in-Err-Past.overflow c.into_log.result c.in_ok-outcome.outcome c.overflowed.ensures c.into_log.ensures
    (overflow_found c.args.scheme.now c.args.job c.in_ok-outcome.outcome c.in-Err-Past.overflow ended told)
