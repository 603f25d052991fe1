use Rattle.net_csv.specs.declared.refused.Tail.TheVariants as tail
use Rattle.np_records.specs.Records.{records_of}
use Rattle.netplan_top.proofs.InputFacts.{stop-plan}
use Rattle.netplan_top.proofs.commands.check.read_input.Goals as goal

pub read_plan-requires-clause-skipped : goal.read_plan-requires-clause-skipped
read_plan-requires-clause-skipped c = c.records_are_there.ensures tail.Plan (records_of c.args.bytes.now) c.in-Ok.read.1 c.in-Ok.ensures.0

pub returns-in-Err-read_plan : goal.returns-in-Err-read_plan
returns-in-Err-read_plan c =
    rw c.plan_stop.ensures (stop-plan c.args.bytes.now c.in-Ok.read.0 c.in-Ok.read.1 c.in-Err-read_plan.refused c.in-Ok.ensures c.in-Err-read_plan.ensures)
