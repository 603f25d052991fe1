use Rattle.cert_checker.proofs.Ends as ends
use Rattle.cert_checker.proofs.laws.walk_ends.Goals as goal

pub returns : goal.returns
returns c = ends.walk_ends
