use Rattle.std.proofs.Common.{rules, ◌≡◌, arith, refl}
use Rattle.np_frac.specs.Text.{IsNumber, number}
use Rattle.np_records.proofs.NumberFacts.{whole-some, whole-none, number-few}
use Rattle.np_records.proofs.fields.whole.Goals as goal

pub overflow_cast-result : goal.overflow_cast-result
overflow_cast-result c =
    let digits : IsNumber 9 c.args.bytes.now = search rules in
    let same : c.in-Some.number ≡ number c.args.bytes.now = search rules in
    let few = number-few c.args.bytes.now digits in
    omega arith

pub returns-in-Some : goal.returns-in-Some
returns-in-Some c =
    let digits : IsNumber 9 c.args.bytes.now = search rules in
    let same : c.in-Some.number ≡ number c.args.bytes.now = search rules in
    rw (whole-some c.args.bytes.now digits, same) refl

pub returns-in-None : goal.returns-in-None
returns-in-None c = let no : ¬ (IsNumber 9 c.args.bytes.now) = search rules in rw (whole-none c.args.bytes.now no) refl
