use Rattle.net_csv.proofs.Written.{written-read, written-scheme, followed-read}
use Rattle.net_csv.proofs.WrittenTexts.{written-followed}
use Rattle.net_csv.proofs.laws.written_schemes_are_read.Goals as goal

pub returns-clause-whole : goal.returns-clause-whole
returns-clause-whole c = written-read

pub returns-clause-same : goal.returns-clause-same
returns-clause-same c = written-scheme

pub returns-clause-followed : goal.returns-clause-followed
returns-clause-followed c = followed-read

pub returns-clause-bytes : goal.returns-clause-bytes
returns-clause-bytes c = written-followed
