use Rattle.np_records.proofs.TextFacts.{back-whole, records-headed, records-text}
use Rattle.np_records.proofs.laws.written_records_are_read.Goals as goal

pub returns-clause-unmarked : goal.returns-clause-unmarked
returns-clause-unmarked c = records-text

pub returns-clause-headed : goal.returns-clause-headed
returns-clause-headed c = records-headed

pub returns-clause-whole : goal.returns-clause-whole
returns-clause-whole c = back-whole
