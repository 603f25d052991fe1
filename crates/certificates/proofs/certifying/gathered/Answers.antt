use Rattle.certificates.proofs.Gathering.{gathering_told}
use Rattle.certificates.proofs.certifying.gathered.Goals as goal

pub returns-in-Err-clause-told : goal.returns-in-Err-clause-told
returns-in-Err-clause-told c = rw (c.told_of_gathering.ensures, ← c.as_slice.ensures) (gathering_told c.in-Err.refusal _ c.in-Err.ensures)
