use Rattle.std.proofs.Common.{◌≡◌, ℕ, ◌<◌, ◌≤◌, true, false, get_or, take, vec_len, vec_capacity}
use Rattle.std.specs.Slots.{slots_items, slots_filled, slots_len}
use Rattle.tree_table.specs.Steps.Closing.{somes}
use Rattle.tree_table.proofs.closing.gather.Given as goal

abbrev pub invariant-loop-k : goal.invariant-loop-k
invariant-loop-k g l =
    (slots_items l.closed.slots ≡ slots_items l.initial.closed.slots) × (slots_len l.closed.slots ≡ slots_len l.initial.closed.slots)
    × ((j : ℕ) → l.k ≤ j → j < slots_len l.initial.closed.slots → get_or (slots_filled l.closed.slots) j false ≡ true)
    × ((j : ℕ) → j < l.k → get_or (slots_filled l.closed.slots) j false ≡ false)
    × (l.pieces.items ≡ somes (take l.k (slots_items l.initial.closed.slots)))
    × (vec_len l.pieces ≤ l.k) × (vec_capacity l.pieces ≡ vec_capacity l.initial.pieces)
