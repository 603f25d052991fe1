use Rattle.cert_checker.proofs.Verdicts as theorems
use Rattle.cert_checker.proofs.laws.walk_proves.Goals as goal

pub returns : goal.returns
returns c = theorems.walk_proves
