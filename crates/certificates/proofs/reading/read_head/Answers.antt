use Rattle.std.proofs.Common.{◌≡◌, ◌∷◌, ◌∙◌, sym}
use Rattle.csv.specs.Records.{fields_of}
use Rattle.certificates.proofs.FirstFault.{verdict-refused}
use Rattle.certificates.proofs.reading.read_head.Goals as goal

pub returns-in-None : goal.returns-in-None
returns-in-None c = λ o.
    let first : c.args.records.now ≡ fields_of c.read.new.row ∷ c.read.new.self = rw c.if-not-branch.false at c.in_ok-read.ensures.next in
    let second : c.read.new.self ≡ fields_of c.read-2.new.row ∷ c.read-2.new.self = rw c.if-not-branch-2.false at c.in_ok-read-2.ensures.next in
    verdict-refused c.args.skip o c.args.records.now (fields_of c.read.new.row) (fields_of c.read-2.new.row) c.read.new.self c.read-2.new.self first second
    (sym c.is_header.ensures ∙ c.if-not-is_header.false) (sym c.verdict_in.ensures ∙ c.in-None.is)
