use Rattle.std.proofs.Common.{◌≡◌, ℕ, ◌≤◌, [], map, vec_len}
use Rattle.tree_table.specs.Slots.{HaveSlots, having}
use Rattle.tree_table.specs.Steps.Tokens.{IsSameSeat}
use Rattle.tree_table.proofs.table.TreeTable.fill.Given as goal

abbrev pub invariant-loop-piece : goal.invariant-loop-piece
invariant-loop-piece g l =
    IsSameSeat l.initial.seat l.seat × (l.seat.me ≡ (record l.initial.seat.me.0 { hands = map g.T.Piece.lists l.pieces.items }, []))
    × HaveSlots l.seat.table_id.slots (map g.T.Piece.lists l.pieces.items)
    × ((u : ℕ) → having u (map g.T.Piece.lists l.pieces.items) ≤ 1)

abbrev pub decreases-loop-piece : goal.decreases-loop-piece
decreases-loop-piece g l = vec_len l.pieces
