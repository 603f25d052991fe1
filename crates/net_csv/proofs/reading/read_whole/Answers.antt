use Rattle.std.proofs.Common.{rules, sym, ◌≡◌, ◌∷◌, [], true, false}
use Rattle.csv.specs.Records.{fields_of}
use Rattle.net_csv.specs.declared.refused.Tail.TheVariants as tail
use Rattle.net_csv.proofs.Tails.{whole-plan, whole-nothing, told-after}
use Rattle.net_csv.proofs.reading.read_whole.Goals as goal

pub returns-in-Plan : goal.returns-in-Plan
returns-in-Plan c =
    let plan : c.args.tail ≡ tail.Plan = search rules in
    rw (plan, sym c.new-records.ensures.all) (whole-plan c.new-records.result _ _ _ c.in_ok-draft.ensures.0 c.in_ok-draft.ensures.1)

pub returns-then-branch : goal.returns-then-branch
returns-then-branch c =
    let nothing : c.args.tail ≡ tail.Nothing = search rules in
    let found : c.in_ok-read-in-Nothing.field-0 ≡ true = search rules in
    let next : c.read_text.new.records ≡ fields_of c.read.new.row ∷ c.read.new.self = rw found at c.in_ok-read-in-Nothing.ensures.next in
    rw (nothing, sym c.new-records.ensures.all) (told-after c.new-records.result _ _ _ _ (rw next at c.in_ok-draft.ensures.0))

pub returns : goal.returns
returns c =
    let nothing : c.args.tail ≡ tail.Nothing = search rules in
    let missing : c.in_ok-read-in-Nothing.field-0 ≡ false = search rules in
    let none : c.read_text.new.records ≡ [] = (rw missing at c.in_ok-read-in-Nothing.ensures.next).0 in
    rw (nothing, sym c.new-records.ensures.all) (whole-nothing c.new-records.result _ _ (rw none at c.in_ok-draft.ensures.0) c.in_ok-draft.ensures.1)
