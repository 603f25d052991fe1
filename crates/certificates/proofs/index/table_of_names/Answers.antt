use Rattle.std.proofs.Common.{◌≡◌, None, ℕ, List, take, sym, subst}
use Rattle.np_records.specs.Names.{place_of}
use Rattle.np_records.proofs.Places.{absent-before}
use Rattle.certificates.proofs.index.table_of_names.Goals as goal

pub push-requires : goal.push-requires
push-requires c =
    let k = c.loop-name.name-index in
    rw (c.loop-name.invariant, c.as_slice.ensures)
    (subst (λ (n : List ℕ). place_of (take k c.args.names.now) n ≡ None) (sym c.name-item.is) (absent-before c.args.names.now k c.name-item.result c.requires c.loop-name-test.true))
