-- Tables after some entries are written.
use Rattle.std.specs.Prelude.{◌≡◌, ◌⊎◌, ℕ, ◌+◌, ◌<◌, List, [], ◌∷◌, ◌++◌, length, map, Vec}
use Rattle.std.proofs.Common.{refl, sym, ap, subst, ◌∙◌, inl, inr, arith, get_or, set, take, get_or-set_same, get_or-set_other}
use Rattle.std.proofs.Math.ListN.{length-set}
use Rattle.std.proofs.lemmas.List.{take_more, map-append, with_items_is}
use Rattle.std.specs.Vec.{with_items}
use Rattle.gain_graphs.specs.Arcs.{IsIn}
use native.Mathlib.Decide.{ℕ_discrete}
use Rattle.simplex_driver.specs.Store.{written}

-- some entry is for the number
abbrev pub Has : {A : Type 0} → List (ℕ × A) → ℕ → Type 0
Has {A} es v = (e : ℕ × A) × IsIn e es × (e.0 ≡ v)

pub length_written : {A : Type 0} (es : List (ℕ × A)) (xs : List A) → length (written es xs) ≡ length xs
length_written [] xs = refl
length_written (e ∷ es) xs = length_written es (set xs e.0 e.1) ∙ length-set xs e.0 e.1

pub written_append : {A : Type 0} (es fs : List (ℕ × A)) (xs : List A) → written (es ++ fs) xs ≡ written fs (written es xs)
written_append [] fs xs = refl
written_append (e ∷ es) fs xs = written_append es fs (set xs e.0 e.1)

-- what holds of each entry, and of the table elsewhere, holds of the table afterwards
pub written_has : {A : Type 0} (P : ℕ → A → Type 0) (d : A) (es : List (ℕ × A)) (xs : List A) → ((e : ℕ × A) → IsIn e es → P e.0 e.1) → (v : ℕ) → v < length xs
    → (Has es v) ⊎ P v (get_or xs v d) → P v (get_or (written es xs) v d)
written_has P d [] xs h v l (inl k) = absurd k.1
written_has P d [] xs h v l (inr k) = k
written_has {A} P d (e ∷ es) xs h v l k =
    written_has P d es (set xs e.0 e.1) (λ f i. h f (inr i)) v (omega (arith, length-set xs e.0 e.1)) (elim (ℕ_discrete v e.0) [
      | yes q ↦ inr (here q)
      | no n ↦ elim k [
        | inl r ↦ elim r.1 [
          | inl q ↦ absurd (n (sym r.2 ∙ ap (λ (t : ℕ × A). t.0) q))
          | inr i ↦ inl (r.0, i, r.2)
        ]
        | inr r ↦ inr (subst (λ t. P v t) (sym (get_or-set_other xs e.0 v e.1 d n)) r)
      ]
    ])
  where
    here : v ≡ e.0 → P v (get_or (set xs e.0 e.1) v d)
    here q = subst (λ t. P v t) (sym (ap (λ t. get_or (set xs t e.1) v d) (sym q) ∙ get_or-set_same xs v e.1 d l)) (subst (λ t. P t e.1) (sym q) (h e (inl refl)))

pub written_off : {A : Type 0} (d : A) (es : List (ℕ × A)) (xs : List A) (v : ℕ) → (¬ Has es v) → get_or (written es xs) v d ≡ get_or xs v d
written_off d [] xs v h = refl
written_off d (e ∷ es) xs v h =
    written_off d es (set xs e.0 e.1) v (λ k. h (k.0, inr k.1, k.2)) ∙ get_or-set_other xs e.0 v e.1 d (λ q. h (e, inl refl, sym q))

-- one more entry of a loop, where the entry is an item of plain data
pub written_next : {A B : Type 0} (f : B → ℕ × A) (items : List B) (i : ℕ) (d : B) (start now : List A) → i < length items → now ≡ written (map f (take i items)) start
    → set now (f (get_or items i d)).0 (f (get_or items i d)).1 ≡ written (map f (take (i + 1) items)) start
written_next {A} {B} f items i d start now l so_far =
    sym (ap (λ es. written (map f es) start) (take_more items i d l)
    ∙ ap (λ es. written es start) (map-append f (take i items) (get_or items i d ∷ []))
    ∙ written_append (map f (take i items)) (f (get_or items i d) ∷ []) start
    ∙ ap (λ xs. set xs (f (get_or items i d)).0 (f (get_or items i d)).1) (sym so_far))

-- one table written through a slice of it
pub written_through : {A Z : Type 0} (v : Vec A Z) (es : List (ℕ × A)) (slice now : List A) → slice ≡ v.items → now ≡ written es slice → (with_items v now).items ≡ written es v.items
written_through v es slice now e w = with_items_is v now (ap length w ∙ length_written es slice ∙ ap length e ∙ sym v.ok.0) ∙ w ∙ ap (written es) e

pub written_more : {A B : Type 0} (f : B → ℕ × A) (items : List B) (i : ℕ) (x : B) (start now : List A) → i < length items → x ≡ get_or items i x → now ≡ written (map f (take i items)) start
    → set now (f x).0 (f x).1 ≡ written (map f (take (i + 1) items)) start
written_more {A} {B} f items i x start now l e so_far =
    sym (ap (λ es. written (map f es) start) (take_more items i x l)
    ∙ ap (λ es. written es start) (map-append f (take i items) (get_or items i x ∷ []))
    ∙ written_append (map f (take i items)) (f (get_or items i x) ∷ []) start
    ∙ ap (λ (y : B). set (written (map f (take i items)) start) (f y).0 (f y).1) (sym e)
    ∙ ap (λ xs. set xs (f x).0 (f x).1) (sym so_far))
