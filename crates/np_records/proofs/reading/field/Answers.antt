use Rattle.std.proofs.Common.{arith}
use Rattle.std.proofs.lemmas.Grind.{common_steps}
use Rattle.np_records.proofs.FieldFacts.{field_at-slice_get}
use Rattle.np_records.proofs.reading.field.Goals as goal

pub returns : goal.returns
returns c = grind (arith, common_steps, field_at-slice_get)
