use Rattle.certificates.proofs.FieldFacts.{fraction-answer}
use Rattle.certificates.proofs.fields.fraction.Goals as goal

pub returns : goal.returns
returns c = fraction-answer c.args.bytes.now c.read_frac.result c.read_frac.ensures
