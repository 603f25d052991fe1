use Rattle.std.proofs.Common.{rules, ◌≡◌, ◌≤◌, refl}
use Rattle.np_frac.specs.Text.{IsNumber, number}
use Rattle.np_records.proofs.NumberFacts.{period-none, period-is}
use Rattle.np_records.proofs.fields.period.Goals as goal

pub returns-in-None : goal.returns-in-None
returns-in-None c = let no : ¬ (IsNumber 9 c.args.bytes.now) = search rules in rw (period-none c.args.last c.args.bytes.now no) refl

pub returns-in-Some-3 : goal.returns-in-Some-3
returns-in-Some-3 c =
    let digits : IsNumber 9 c.args.bytes.now = search rules in
    let same : c.in-Some.period ≡ number c.args.bytes.now = search rules in
    let low : 1 ≤ number c.args.bytes.now = search rules in
    let high : number c.args.bytes.now ≤ c.args.last = search rules in
    rw (period-is c.args.last c.args.bytes.now digits low high, same) refl
