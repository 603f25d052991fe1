use Rattle.certificates.proofs.OutlineFacts.{outline-is}
use Rattle.certificates.proofs.PlanRead.{plan-read}
use Rattle.certificates.proofs.reading.read_plan.Goals as goal

pub read_whole-requires-clause-outline : goal.read_whole-requires-clause-outline
read_whole-requires-clause-outline c = rw c.in_ok-index.ensures (outline-is c.args.scheme.now)

pub returns : goal.returns
returns c =
    plan-read c.args.skip c.args.scheme.now _ c.in_ok-verdict.verdict c.in_ok-verdict.draft c.in_ok-plan.plan
    (rw c.in_ok-index.ensures at c.in_ok-verdict.ensures) c.in_ok-plan.ensures.verdict c.in_ok-plan.ensures.made
