use Rattle.certificates.proofs.WrittenTexts.{written-as, written-records, written-full}
use Rattle.certificates.proofs.laws.written_plans_are_read.Goals as goal

pub returns-clause-read : goal.returns-clause-read
returns-clause-read c = written-as

pub returns-clause-bytes : goal.returns-clause-bytes
returns-clause-bytes c = written-records

pub returns-clause-full : goal.returns-clause-full
returns-clause-full c = written-full
