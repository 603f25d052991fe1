use Rattle.std.proofs.Common.{◌∷◌, [], sym, ◌∙◌, subst}
use Rattle.np_model.specs.declared.piece.Hands.{Hands}
use Rattle.tree_table.specs.Calls.{lists_in}
use Rattle.pivot_workers.specs.Takes.{LieAt}
use Rattle.pivot_workers.proofs.Places.{lie_one, lie_some, lie_second, turned_first, turned_second}
use Rattle.pivot_workers.proofs.stale.lacks.Goals as goal

pub least-requires : goal.least-requires
least-requires g c =
    let m = g.T.Piece.lists in
    lie_some c.requires.lie.0 (m c.in-Two.piece) (m c.in-Two.other ∷ []) (subst (λ (h : Hands g.row.T.Denot). LieAt c.requires.lie.0 (lists_in m h)) c.in-Two.is c.requires.lie.1)

pub returns-in-One : goal.returns-in-One
returns-in-One g c =
    let m = g.T.Piece.lists in
    rw c.in-One.is (turned_first c.contains.result c.args.slot c.args.node (m c.in-One.piece) [] (lie_one c.requires.lie.0 c.args.slot (m c.in-One.piece) (rw c.in-One.is at c.requires.lie.1) c.requires.lie.2) c.contains.ensures)

pub returns-then-least-slot : goal.returns-then-least-slot
returns-then-least-slot g c =
    let m = g.T.Piece.lists in
    let lie : LieAt c.requires.lie.0 (m c.in-Two.piece ∷ m c.in-Two.other ∷ []) = rw c.in-Two.is at c.requires.lie.1 in
    rw c.in-Two.is (turned_first c.contains-then-least-slot.result c.args.slot c.args.node (m c.in-Two.piece) (m c.in-Two.other ∷ []) (sym c.least.ensures ∙ c.if-least-slot.true, lie_some c.requires.lie.0 (m c.in-Two.piece) (m c.in-Two.other ∷ []) lie) c.contains-then-least-slot.ensures)

pub returns-else-least-slot : goal.returns-else-least-slot
returns-else-least-slot g c =
    let m = g.T.Piece.lists in
    let lie : LieAt c.requires.lie.0 (m c.in-Two.piece ∷ m c.in-Two.other ∷ []) = rw c.in-Two.is at c.requires.lie.1 in
    rw c.in-Two.is (turned_second c.contains-else-least-slot.result c.args.slot c.args.node (m c.in-Two.piece) (m c.in-Two.other) (lie_second c.requires.lie.0 c.args.slot (m c.in-Two.piece) (m c.in-Two.other) lie c.requires.lie.2 (λ e. c.if-least-slot.false (c.least.ensures ∙ e))) c.contains-else-least-slot.ensures)
