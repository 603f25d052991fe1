use Rattle.std.proofs.Common.{rules, refl, sym, ap, ◌≡◌, ◌∙◌, ◌∷◌, [], true, false, drop}
use Rattle.csv.specs.Records.{fields_of}
use Rattle.np_records.specs.Records.{records_of}
use Rattle.certificates.proofs.SoFar.{told-after, whole-read}
use Rattle.certificates.proofs.reading.read_whole.Goals as goal

pub returns-then-branch : goal.returns-then-branch
returns-then-branch c =
    let found : c.in_ok-read.field-0 ≡ true = search rules in
    let next : c.read_text.new.records ≡ fields_of c.read.new.row ∷ c.read.new.self = rw found at c.in_ok-read.ensures.next in
    let rows : c.pass_over.new.records ≡ drop c.args.skip (records_of c.args.bytes.now) = c.in_ok-pass_over.ensures ∙ ap (drop c.args.skip) c.new-records.ensures.all in
    rw (sym rows) (told-after c.args.skip c.args.index.now c.pass_over.new.records c.read.new.self (fields_of c.read.new.row) _ _ c.in_ok-verdict.place _ (rw next at c.in_ok-verdict.ensures) refl)

pub returns : goal.returns
returns c =
    let missing : c.in_ok-read.field-0 ≡ false = search rules in
    let none : c.read_text.new.records ≡ [] = (rw missing at c.in_ok-read.ensures.next).0 in
    let rows : c.pass_over.new.records ≡ drop c.args.skip (records_of c.args.bytes.now) = c.in_ok-pass_over.ensures ∙ ap (drop c.args.skip) c.new-records.ensures.all in
    rw (sym rows) (whole-read c.args.skip c.args.index.now c.pass_over.new.records _ _ c.in_ok-verdict.place (rw none at c.in_ok-verdict.ensures))
