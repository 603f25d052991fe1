use Rattle.net_csv.proofs.OneScheme.{one-scheme}
use Rattle.net_csv.proofs.laws.one_scheme.Goals as goal

pub returns : goal.returns
returns c = one-scheme
