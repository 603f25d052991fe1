use Rattle.net_csv.proofs.CountWithin.{count-within}
use Rattle.net_csv.proofs.laws.records_are_there.Goals as goal

pub returns : goal.returns
returns c = count-within
