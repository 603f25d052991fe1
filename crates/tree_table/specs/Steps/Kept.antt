-- What a pass keeps of what it shows. (This project's own.)
use Rattle.std.specs.Prelude.{◌≡◌, ℕ, ◌+◌, ◌^◌, ◌<◌, ◌≤◌, List, [], ◌∷◌, map, length, ⊤, Option, None, vec_len, vec_capacity}
use Rattle.std.specs.declared.vec.Vec.{Vec}
use Rattle.atomic_table.specs.declared.shared.Seat.{Seat}
use Rattle.np_model.specs.declared.log.Entry.{Entry}
use Rattle.tree_table.specs.Passes.{View, PassState, slot_count, IsOpen}
use Rattle.np_model.specs.Basis.Pieces.{PieceLists, least_node}
use Rattle.tree_table.specs.Slots.{LiesAt, HasSlot}
use Rattle.tree_table.specs.declared.pass.Slots.{Slots}
use Rattle.tree_table.specs.declared.pass.Slots.TheVariants as slots

-- the pieces in hand can go home from the slots that are taken, where n is the number of slots: the first one into the slot that was taken
-- first, the second one into a later slot
abbrev pub GoHome : ℕ → List ℕ → List PieceLists → Type 0
GoHome n [] [] = ⊤
GoHome n [] (x ∷ xs) = ⊥
GoHome n (a ∷ more) [] = ⊥
GoHome n (a ∷ []) (x ∷ []) = (a < n) × LiesAt a x
GoHome n (b ∷ a ∷ []) (x ∷ []) = (a < b) × (b < n) × LiesAt a x
GoHome n (a ∷ []) (x ∷ y ∷ []) = LiesAt a x × HasSlot n y × (a < least_node y)
GoHome n (b ∷ a ∷ []) (x ∷ y ∷ []) = (a < b) × (b < n) × LiesAt a x × HasSlot n y × (a < least_node y)
GoHome n (c ∷ b ∷ a ∷ more) (x ∷ xs) = ⊥
GoHome n (a ∷ more) (x ∷ y ∷ z ∷ zs) = ⊥

-- the slots that are taken, the last one first
abbrev pub slots_in : Slots → List ℕ
slots_in slots.None = []
slots_in (slots.One a) = a ∷ []
slots_in (slots.Two a b) = b ∷ a ∷ []

module _ {T : Type 0} where
  abbrev pub state_of : Seat (Option T) View → ℕ → PassState
  state_of seat spare = record { table = seat.table_id; id = seat.id; view = seat.me.0; spare = spare }

  -- the numbers are those that it shows, the taken slots are empty, its pieces can go home, and there is room for the entries that are spare
  pub record IsKept {A : Type 0} (seat : Seat (Option T) View) (shares hands : ℕ) (taken : Slots) (spare : ℕ) (made : Vec (ℕ × Entry) A) (order : Vec Entry A)
      : Type 0 where
    pub shares_are : shares ≡ seat.me.0.shares
    pub is_open : IsOpen seat.me.0
    pub hands_are : hands ≡ length seat.me.0.hands
    pub slots_are : seat.me.0.slots ≡ slots_in taken
    pub slots_empty : seat.me.1 ≡ map (λ k. (k, None)) seat.me.0.slots
    pub counts : seat.table_id.slots ≡ slot_count seat.me.0
    pub go_home : GoHome seat.table_id.slots seat.me.0.slots seat.me.0.hands
    pub entries_are : made.items ≡ map (λ e. (e.0, e.1.entry)) seat.me.0.entries
    pub room : vec_len made + spare ≤ vec_capacity made
    pub no_order : order.items ≡ []
    pub order_room : vec_len made + spare ≤ vec_capacity order
    pub few : vec_len made + spare < 2 ^ 32
