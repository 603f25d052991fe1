-- The amounts of a direction as a list by arc.
use Rattle.std.specs.Prelude.{◌≡◌, ℕ, ◌<◌, ◌≤◌, List, [], ◌∷◌, length, map, slice_set}
use Rattle.std.specs.List.{range_with_len}
use Rattle.std.specs.List.Sorted.{IsStrictlyIncreasing}
use Rattle.std.proofs.Common.{refl, sym, ap, ◌∙◌, inl, inr, arith, zero, suc}
use Rattle.std.proofs.lemmas.List.{ext_get_or}
use Rattle.std.proofs.lemmas.List.FromFn.{get_or-map-range_with_len, length-map-range_with_len}
use Rattle.gain_graphs.specs.Arcs.{IsIn}
use Rattle.gain_graphs.proofs.Lists.{in_map, in_map_of, decide_in}
use Rattle.np_frac.specs.Ratio.{Ratio, zero_ratio}
use Rattle.np_model.specs.Network.Flows.{at}
use Rattle.np_model.specs.Basis.Pieces.{beside}
use Rattle.np_model.specs.Rows.Moving.{numbers_of_steps}
use Rattle.np_basis.proofs.Ascending.{ascends}
use Rattle.np_basis.proofs.Reading.{Found, beside_in, beside_out}
use Rattle.np_basis.proofs.Sound.{one_entry}
use Rattle.simplex_driver.specs.Store.{written}
use Rattle.simplex_driver.proofs.Tables.{Has, length_written, written_has}

-- a write behind the end changes nothing
pub set_beyond : {A : Type 0} (xs : List A) (i : ℕ) (x : A) → length xs ≤ i → slice_set xs i x ≡ xs
set_beyond [] i x l = refl
set_beyond (y ∷ ys) zero x l = absurd (omega (arith, l))
set_beyond (y ∷ ys) (suc i) x l = ap (λ zs. y ∷ zs) (set_beyond ys i x (omega (arith, l)))

abbrev pub entries_of : List (ℕ × Ratio) → List (ℕ × Ratio)
entries_of steps = map (λ s. (s.0, s.1)) steps

module _ (steps : List (ℕ × Ratio)) (ascend : IsStrictlyIncreasing (numbers_of_steps steps)) where
  -- what is written for an arc is its step
  entry_is : (e : ℕ × Ratio) → IsIn e (entries_of steps) → e.1 ≡ beside zero_ratio steps e.0
  entry_is e i =
      let r = in_map_of (λ (s : ℕ × Ratio). (s.0, s.1)) e steps i in
      let key = in_map (λ (s : ℕ × Ratio). s.0) r.0 steps r.1 in
      let f : Found zero_ratio steps r.0.0 = beside_in zero_ratio steps r.0.0 key in
      let same = one_entry (λ (s : ℕ × Ratio). s.0) steps (ascends (numbers_of_steps steps) ascend) f.entry r.0 f.is_in r.1 f.key in
      ap (λ (x : ℕ × Ratio). x.1) r.2 ∙ sym (f.is ∙ ap (λ (x : ℕ × Ratio). x.1) same) ∙ ap (beside zero_ratio steps) (sym (ap (λ (x : ℕ × Ratio). x.0) r.2))

  has_entry : (v : ℕ) → IsIn v (numbers_of_steps steps) → Has (entries_of steps) v
  has_entry v i =
      let r = in_map_of (λ (s : ℕ × Ratio). s.0) v steps i in
      ((r.0.0, r.0.1), in_map (λ (s : ℕ × Ratio). (s.0, s.1)) r.0 steps r.1, sym r.2)

  value : (table : List Ratio) (v : ℕ) → v < length table → at table v ≡ zero_ratio → at (written (entries_of steps) table) v ≡ beside zero_ratio steps v
  value table v l none = written_has (λ u x. x ≡ beside zero_ratio steps u) zero_ratio (entries_of steps) table entry_is v l
      (elim (decide_in v (numbers_of_steps steps)) [ yes i ↦ inl (has_entry v i) | no n ↦ inr (none ∙ sym (beside_out zero_ratio steps v n)) ])

  pub ray_is : (count : ℕ) (table now : List Ratio) → length table ≡ count → ((i : ℕ) → i < count → at table i ≡ zero_ratio) → now ≡ written (entries_of steps) table
      → now ≡ map (beside zero_ratio steps) (range_with_len 0 count)
  ray_is count table now long none is =
      let n = ap length is ∙ length_written (entries_of steps) table ∙ long in
      ext_get_or zero_ratio now (map (beside zero_ratio steps) (range_with_len 0 count)) (n ∙ sym (length-map-range_with_len (beside zero_ratio steps) 0 count)) (λ v l.
      let below : v < count = omega (arith, l, n) in
      ap (λ t. at t v) is ∙ value table v (omega (arith, below, long)) (none v below)
      ∙ sym (get_or-map-range_with_len (beside zero_ratio steps) 0 count v v zero_ratio below (omega arith)))
