use Rattle.std.proofs.Common.{refl}
use Rattle.csv.specs.Records.{fields_of}
use Rattle.np_records.proofs.ReadingFacts.{left-read}
use Rattle.np_records.proofs.reading.Records.read.Goals as goal

pub returns-in-Ok-true-clause-next : goal.returns-in-Ok-true-clause-next
returns-in-Ok-true-clause-next c =
    let on = c.if-self.false in
    let i = c.self.invariant on in
    let took = left-read c.self.inside.reader c.read_byte_record.new.self c.in-Ok-true.field-0 (fields_of c.read_byte_record.new.row) i (c.in-Ok-true.ensures.reads i.trim i.ready) in
    rw (← c.self.view_is, on) (rw c.in-Ok-true.field-0-test at took)

pub returns-in-Ok-false-clause-next : goal.returns-in-Ok-false-clause-next
returns-in-Ok-false-clause-next c =
    let on = c.if-self.false in
    let i = c.self.invariant on in
    let took = left-read c.self.inside.reader c.read_byte_record.new.self c.in-Ok-false.field-0 (fields_of c.read_byte_record.new.row) i (c.in-Ok-false.ensures.reads i.trim i.ready) in
    (rw (← c.self.view_is, on) (rw c.in-Ok-false.field-0-test at took), refl)
