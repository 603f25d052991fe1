use Rattle.std.proofs.Common.{◌∙◌, ap, [], ◌∷◌, ◌++◌, map, arith}
use mathlib.Core.Option.{some}
use lib.ListN.{get_elem?}
use Rattle.tree_table.proofs.room.Room.new.Goals as goal

pub new-requires : goal.new-requires
new-requires g c =
    let is = c.push_reserved.ensures.items ∙ ap (λ l. l ++ c.in-Ok.list ∷ []) c.in_ok-shelf.ensures.items in
    record { list = c.in-Ok.list; there = ap (λ l. get_elem? (map some l) 0) is; empty = c.in-Ok.ensures.len; room = (let a = c.in-Ok.ensures.capacity in omega arith) }
