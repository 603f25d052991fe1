use Rattle.std.proofs.Common.{refl}
use Rattle.np_records.proofs.Scan.{records-few}
use Rattle.np_records.proofs.reading.Records.new.Goals as goal

pub returns-clause-all : goal.returns-clause-all
returns-clause-all c = rw (c.from_reader-reader.ensures.source, c.from_reader-reader.ensures.state) refl

pub returns-clause-few : goal.returns-clause-few
returns-clause-few c = rw (c.from_reader-reader.ensures.source, c.from_reader-reader.ensures.state) (records-few c.args.bytes.now)
