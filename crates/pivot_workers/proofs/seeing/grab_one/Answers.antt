use Rattle.pivot_workers.proofs.Grabs.{missed_one}
use Rattle.pivot_workers.proofs.seeing.grab_one.Goals as goal

pub returns-in-Busy-clause-answer : goal.returns-in-Busy-clause-answer
returns-in-Busy-clause-answer g c = missed_one c.args.pass.now.view c.take.new.pass.view c.args.slot c.in-Busy.word c.in-Busy.ensures.answer.0 c.in-Busy.ensures.answer.1
