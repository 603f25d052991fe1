use Rattle.net_csv.proofs.FieldFacts.{amount-answer}
use Rattle.net_csv.proofs.fields.amount.Goals as goal

pub returns-clause-value : goal.returns-clause-value
returns-clause-value c = amount-answer c.args.bytes.now c.read_amount.result _ c.read_amount.ensures.value c.ok_or.ensures.value
