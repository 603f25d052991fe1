-- Lists of entries that ascend by their keys.
use Rattle.std.specs.Prelude.{◌≡◌, ◌<◌, ℕ, List, [], ◌∷◌, map}
use Rattle.std.proofs.Common.{refl, ap, ap₂, subst, inl, inr, arith}
use Rattle.gain_graphs.specs.Arcs.{IsIn}
use Rattle.gain_graphs.proofs.Lists.{in_map}
use Rattle.np_basis.proofs.Ascending.{Ascends}

-- two with the same keys, of which the one has no entries but those of the other
pub same_entries : {A : Type 0} (key : A → ℕ) (xs ys : List A) → map key xs ≡ map key ys → Ascends (map key ys) → ((x : A) → IsIn x xs → IsIn x ys) → xs ≡ ys
same_entries key [] [] e a h = refl
same_entries key [] (y ∷ ys) e a h = absurd (let z : ⊥ = cc in z)
same_entries key (x ∷ xs) [] e a h = absurd (h x (inl refl))
same_entries {A} key (x ∷ xs) (y ∷ ys) e a h = ap₂ (λ (t : A) ts. t ∷ ts) here (same_entries key xs ys tails a.1 rest)
  where
    heads : key x ≡ key y
    heads = cc

    tails : map key xs ≡ map key ys
    tails = cc

    here : x ≡ y
    here = elim (h x (inl refl)) [ inl f ↦ f | inr i ↦ (let l : key y < key x = a.0 (key x) (in_map key x ys i) in absurd (omega (arith, heads))) ]

    rest : (z : A) → IsIn z xs → IsIn z ys
    rest z i = elim (h z (inr i)) [
      | inl f ↦ (let l : key y < key z = a.0 (key z) (subst (IsIn (key z)) tails (in_map key z xs i)) in let g : key z ≡ key y = ap key f in absurd (omega arith))
      | inr j ↦ j
    ]
