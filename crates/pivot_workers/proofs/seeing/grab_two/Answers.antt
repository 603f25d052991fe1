use Rattle.pivot_workers.proofs.Grabs.{missed_two}
use Rattle.pivot_workers.proofs.seeing.grab_two.Goals as goal

pub returns-in-Busy-clause-answer : goal.returns-in-Busy-clause-answer
returns-in-Busy-clause-answer g c = missed_two c.args.pass.now.view c.take_two.new.pass.view c.args.low c.args.high c.in-Busy.slot c.in-Busy.word c.in-Busy.ensures.answer
