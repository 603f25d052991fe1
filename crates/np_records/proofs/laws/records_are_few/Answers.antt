use Rattle.np_records.proofs.Scan.{records-few}
use Rattle.np_records.proofs.laws.records_are_few.Goals as goal

pub returns : goal.returns
returns c = records-few
