-- Nodes alone have each its slot, and no node is in two of them.
use Rattle.std.proofs.Common.{◌≡◌, ◌≤◌, ℕ, ◌+◌, zero, suc, ⊎_elim, subst, sym, arith}
use Rattle.gain_graphs.specs.Arcs.{IsIn}
use Rattle.np_model.specs.Basis.Pieces.{nodes_of, AreApart}
use Rattle.tree_table.specs.Slots.{HasSlot, HaveSlots}
use Rattle.bench_all.specs.Visits.{alone, alones}

pub have_slots : (first n total : ℕ) → first + n ≤ total → HaveSlots total (alones first n)
have_slots first zero total fit piece is_in = absurd is_in
have_slots first (suc n) total fit piece is_in =
    ⊎_elim
    (λ (e : piece ≡ alone first). subst (HasSlot total) (sym e) (omega arith, omega arith))
    (λ (later : IsIn piece (alones (first + 1) n)). have_slots (first + 1) n total (omega arith) piece later)
    is_in

-- what stands in the later ones is not less than the first of them
later_nodes : (first n u : ℕ) → IsIn u (nodes_of (alones first n)) → first ≤ u
later_nodes first zero u is_in = absurd is_in
later_nodes first (suc n) u is_in =
    ⊎_elim
    (λ (e : u ≡ first). omega (arith, e))
    (λ (later : IsIn u (nodes_of (alones (first + 1) n))). let l = later_nodes (first + 1) n u later in omega arith)
    is_in

pub are_apart : (first n : ℕ) → AreApart (alones first n)
are_apart first zero = tt
are_apart first (suc n) = ((λ is_in. let l = later_nodes (first + 1) n first is_in in absurd (omega arith)), are_apart (first + 1) n)
