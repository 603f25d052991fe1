use Rattle.simplex_driver.proofs.Opened.{one_more_time}
use Rattle.simplex_driver.proofs.opening.push_times.Goals as goal

pub loop-preserved : goal.loop-preserved
loop-preserved c = one_more_time c.args.mark c.loop.counter c.args.marks.now.items c.loop.marks.items c.push.new.self.items c.loop.invariant c.in_ok-push.ensures.items
