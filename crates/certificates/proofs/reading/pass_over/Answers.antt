use Rattle.std.proofs.Common.{◌≡◌, ◌∷◌, ◌∙◌, inl, inr, sym}
use Rattle.std.proofs.lemmas.Bool.{cases_Bool}
use Rattle.csv.specs.Records.{fields_of}
use Rattle.certificates.proofs.Skipped.{drop-next, drop-none}
use Rattle.certificates.proofs.reading.pass_over.Goals as goal

pub loop-place-preserved : goal.loop-place-preserved
loop-place-preserved c = elim (cases_Bool c.in_ok-read.field-0) [
  | inl found ↦
      let next : c.loop-place.records ≡ fields_of c.read.new.row ∷ c.read.new.self = rw found at c.in_ok-read.ensures.next in
      sym (drop-next c.args.records.now c.read.new.self (fields_of c.read.new.row) c.loop-place._place (sym c.loop-place.invariant ∙ next))
  | inr gone ↦
      let none = rw gone at c.in_ok-read.ensures.next in
      none.1 ∙ sym (drop-none c.args.records.now c.loop-place._place (sym c.loop-place.invariant ∙ none.0))
]
