-- What the steps leave of the token that they are made with. (This project's own.)
use Rattle.std.specs.Prelude.{◌≡◌, Option}
use Rattle.atomic_table.specs.declared.shared.Seat.{Seat}
use Rattle.tree_table.specs.Passes.{View}

-- it is the same token of the same table
abbrev pub IsSameSeat : {T : Type 0} → Seat (Option T) View → Seat (Option T) View → Type 0
IsSameSeat a b = (b.table_id ≡ a.table_id) × (b.id ≡ a.id)
