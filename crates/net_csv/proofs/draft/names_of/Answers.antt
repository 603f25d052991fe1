use Rattle.std.proofs.Common.{[]}
use Rattle.std.proofs.lemmas.List.{take_more}
use Rattle.std.proofs.lemmas.Option.{get_or_from_slice_get, slice_get_within}
use Rattle.net_csv.proofs.draft.names_of.Goals as goal

pub loop-place-preserved : goal.loop-place-preserved
loop-place-preserved c =
    let table = c.args.table.now in
    let k = c.loop-place.place in
    let more = take_more table k [] (slice_get_within table k c.name_at.result.now c.name_at.ensures.name) in
    let here = get_or_from_slice_get table k c.name_at.result.now [] c.name_at.ensures.name in
    let push = c.in_ok-push.ensures.items in
    let name = c.in_ok-name.ensures.items in
    let before = c.loop-place.invariant in
    cc
