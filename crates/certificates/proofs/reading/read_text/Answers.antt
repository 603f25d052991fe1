use Rattle.std.proofs.Common.{rules, refl, ◌≡◌, ◌∷◌, [], true, false}
use Rattle.std.proofs.lemmas.Result.{err_from_is_err_and}
use Rattle.csv.specs.Records.{fields_of}
use Rattle.certificates.proofs.SoFar.{so_far-head, so_far-places, so_far-no_end, so_far-end, so_far-more, row-refused}
use Rattle.certificates.proofs.reading.read_text.Goals as goal

pub rows-init : goal.rows-init
rows-init c = so_far-head c.args.skip c.args.index.now c.in_ok-verdict.verdict c.args.records.now c.read_head.new.records _ _ c.in_ok-verdict.ensures refl c.in_ok-draft.ensures

pub returns-then-not-branch : goal.returns-then-not-branch
returns-then-not-branch c =
    let missing : c.in_ok-read.field-0 ≡ false = search rules in
    let none : c.rows.records ≡ [] = (rw missing at c.in_ok-read.ensures.next).0 in
    so_far-no_end c.args.skip c.args.index.now c.in_ok-verdict.verdict c.args.records.now c.rows.place _ _ (rw none at c.rows.invariant) refl

pub take-requires-clause-places : goal.take-requires-clause-places
take-requires-clause-places c = so_far-places c.args.skip c.args.index.now c.in_ok-verdict.verdict c.args.records.now c.rows.records c.rows.place _ c.rows.invariant

pub returns-in_err-take : goal.returns-in_err-take
returns-in_err-take c =
    let found : c.in_ok-read.field-0 ≡ true = search rules in
    let next : c.rows.records ≡ fields_of c.read.new.row ∷ c.read.new.self = rw found at c.in_ok-read.ensures.next in
    let refused = row-refused _ c.args.skip c.args.index.now c.in_ok-verdict.verdict c.args.records.now c.read.new.self c.rows.place _ _ _ (fields_of c.read.new.row) (rw next at c.rows.invariant) refl c.in_err-take.ensures in
    let p = err_from_is_err_and c.from_residual-in_err-take.result c.from_residual-in_err-take.ensures.1 in
    rw (p.1, p.2) refused

pub returns-then-branch : goal.returns-then-branch
returns-then-branch c =
    let found : c.in_ok-read.field-0 ≡ true = search rules in
    let next : c.rows.records ≡ fields_of c.read.new.row ∷ c.read.new.self = rw found at c.in_ok-read.ensures.next in
    let ended : c.in_ok-take.field-0 ≡ true = search rules in
    let taken = rw ended at c.in_ok-take.ensures in
    rw taken.2 (so_far-end c.args.skip c.args.index.now c.in_ok-verdict.verdict c.args.records.now c.read.new.self c.rows.place _ _ (fields_of c.read.new.row) (rw next at c.rows.invariant) refl taken.0 taken.1)

pub rows-preserved : goal.rows-preserved
rows-preserved c =
    let found : c.in_ok-read.field-0 ≡ true = search rules in
    let next : c.rows.records ≡ fields_of c.read.new.row ∷ c.read.new.self = rw found at c.in_ok-read.ensures.next in
    let goes : c.in_ok-take.field-0 ≡ false = search rules in
    let taken = rw goes at c.in_ok-take.ensures in
    so_far-more c.args.skip c.args.index.now c.in_ok-verdict.verdict c.args.records.now c.read.new.self c.rows.place _ _ _ (fields_of c.read.new.row) c.requires.outline (rw next at c.rows.invariant) refl taken.0 taken.1 taken.2
