use Rattle.std.proofs.Common.{◌≡◌, ◌<◌, Some, length, refl, slice_get}
use Rattle.std.proofs.lemmas.Option.{slice_get_read}
use Rattle.std.proofs.lemmas.List.{length-map}
use Rattle.np_records.proofs.NameFacts.{place-at}
use Rattle.np_records.proofs.names.NameTable.name_at.Goals as goal

pub returns-clause-place : goal.returns-clause-place
returns-clause-place c =
    let within : c.args.index < length c.as_slice.result.now =
    rw c.as_slice.ensures.keys (simp length-map at (rw (← c.self.view_is) at c.requires)) in
    let key : slice_get c.as_slice.result.now c.args.index ≡ Some c.index-as_slice-index.result =
    slice_get_read c.as_slice.result.now _ _ _ refl within c.index-as_slice-index.is in
    rw (← c.self.view_is, c.as_slice-2.ensures.value) (place-at c.self.inside.names.keys c.args.index c.index-as_slice-index.result c.as_slice.ensures.unique (rw c.as_slice.ensures.keys at key))
