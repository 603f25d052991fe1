use Rattle.std.proofs.Common.{sym, ◌∙◌, refl}
use Rattle.np_frac.specs.Text.{number}
use Rattle.np_records.specs.Rows.{is_period}
use Rattle.certificates.proofs.FieldFacts.{given-if, none-if, period-bounds}
use Rattle.certificates.proofs.fields.period_up_to.Goals as goal

pub returns-in-Some : goal.returns-in-Some
returns-in-Some c =
    let given = given-if (is_period c.args.last c.args.bytes.now) (number c.args.bytes.now) c.in-Some.period (sym c.in-Some.is ∙ c.period.ensures) in
    let bounds = period-bounds c.args.last c.args.bytes.now given.0 in
    record { value = rw (given.0, given.1) (refl, refl); some = rw given.1 bounds.0; within = rw given.1 bounds.1 }

pub returns-in-None : goal.returns-in-None
returns-in-None c =
    let none = none-if (is_period c.args.last c.args.bytes.now) (number c.args.bytes.now) (sym c.in-None.is ∙ c.period.ensures) in
    record { value = rw none refl; some = tt; within = tt }
