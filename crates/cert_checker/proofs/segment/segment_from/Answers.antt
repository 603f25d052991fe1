use Rattle.std.proofs.Common.{sym}
use Rattle.cert_checker.proofs.Segments.{segment_found}
use Rattle.cert_checker.proofs.segment.segment_from.Goals as goal

pub returns-in-Ok : goal.returns-in-Ok
returns-in-Ok c = segment_found c.args.start c.args.band c.in-Ok.end (sym c.in-Ok.ensures)
