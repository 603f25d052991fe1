use Rattle.std.proofs.Common.{sym}
use Rattle.cert_checker.proofs.Segments.{slope_last}
use Rattle.cert_checker.proofs.segment.last_slope.Goals as goal

pub returns-in-Some : goal.returns-in-Some
returns-in-Some c = sym (slope_last c.args.flow.now.cost c.args.flow.now.bands c.in-Some.band.now (rw (← c.as_slice.ensures) c.in-Some.ensures.value))
