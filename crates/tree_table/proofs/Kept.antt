-- What a pass keeps.
use Rattle.std.proofs.Common.{◌≡◌, ℕ, List, [], ◌∷◌, map, length, sym, ap, ◌∙◌, refl, arith, vec_len}
use lib.ListN.{length-map}
use Rattle.std.specs.Prelude.{Option, None}
use Rattle.std.specs.declared.vec.Vec.{Vec}
use Rattle.atomic_table.specs.declared.shared.Seat.{Seat}
use Rattle.np_model.specs.Basis.Pieces.{PieceLists}
use Rattle.np_model.specs.declared.log.Entry.{Entry}
use Rattle.tree_table.specs.Passes.{View, Pivoted}
use Rattle.tree_table.specs.Steps.Kept.{GoHome}
use Rattle.tree_table.specs.declared.pass.Slots.{Slots}
use Rattle.tree_table.specs.Steps.Kept.{IsKept}

-- with nothing in hand no slot is taken
none_taken : (n : ℕ) (slots : List ℕ) (hands : List PieceLists) → GoHome n slots hands → hands ≡ [] → slots ≡ []
none_taken n [] hands home bare = refl
none_taken n (a ∷ more) [] home bare = absurd home
none_taken n (a ∷ more) (x ∷ xs) home bare = absurd (let e = ap length bare in omega arith)

module _ {T A : Type 0} (seat : Seat (Option T) View) (shares hands : ℕ) (slots : Slots) (spare : ℕ) (made : Vec (ℕ × Entry) A) (order : Vec Entry A)
    (kept : IsKept seat shares hands slots spare made order) where
  pub slots_clear : seat.me.0.hands ≡ [] → seat.me.0.slots ≡ []
  slots_clear bare = none_taken seat.table_id.slots seat.me.0.slots seat.me.0.hands kept.go_home bare

  pub carries_none : seat.me.0.hands ≡ [] → seat.me.1 ≡ []
  carries_none bare = kept.slots_empty ∙ ap (map (λ k. (k, None))) (slots_clear bare)

  pub entries_len : length seat.me.0.entries ≡ vec_len made
  entries_len = sym (length-map seat.me.0.entries (λ (e : ℕ × Pivoted). (e.0, e.1.entry))) ∙ (ap length (sym kept.entries_are) ∙ sym made.ok.0)
