use Rattle.netplan_top.proofs.RunFacts.{command_runs, usage_runs}
use Rattle.netplan_top.proofs.DemoRuns.{demo_runs}
use Rattle.netplan_top.proofs.WordFacts.{within_limits, demo_within, asks_for_nothing}
use Rattle.netplan_top.proofs.top.run.Goals as goal

pub answer_demo-requires-clause-some : goal.answer_demo-requires-clause-some
answer_demo-requires-clause-some g c = λ κs h. (demo_within c.args.words.now c.in-Some.number c.in-Some.ensures).0

pub answer_demo-requires-clause-few : goal.answer_demo-requires-clause-few
answer_demo-requires-clause-few g c = λ κs h. (demo_within c.args.words.now c.in-Some.number c.in-Some.ensures).1

pub returns-in-Some-clause-run : goal.returns-in-Some-clause-run
returns-in-Some-clause-run g c = demo_runs c.args.words.now c.in-Some.number _ c.answer_demo.result c.in-Some.ensures c.answer_demo.ensures

pub answer_input-requires-clause-limits : goal.answer_input-requires-clause-limits
answer_input-requires-clause-limits g c = λ κs h. within_limits c.args.words.now c.in-Some-command_of.command c.in-Some-command_of.ensures

pub returns-clause-run : goal.returns-clause-run
returns-clause-run g c = command_runs c.args.words.now c.in-Some-command_of.command _ c.answer_input.result c.in-Some-command_of.ensures c.answer_input.ensures

pub returns-in_default-command_of-clause-run : goal.returns-in_default-command_of-clause-run
returns-in_default-command_of-clause-run g c = usage_runs c.args.words.now _ c.print.result (asks_for_nothing c.args.words.now c.in_default-command_of.ensures c.in_default.ensures) c.print.ensures
