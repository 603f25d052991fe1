-- Members of lists, and what stands beside a number.
use Rattle.std.specs.Prelude.{◌≡◌, ◌≢◌, ◌⊎◌, ℕ, ◌<◌, zero, suc, List, [], ◌∷◌, ◌++◌, map, length}
use Rattle.std.specs.List.{flat_map}
use Rattle.std.proofs.Common.{refl, sym, ap, ◌∙◌, subst, inl, inr, arith, get_or, take}
use Rattle.std.proofs.lemmas.Bool.Decides.{eqb_tells}
use Rattle.std.specs.List.Sorted.{IsStrictlyIncreasing}
use Rattle.std.proofs.lemmas.List.{length-map, length-take, get_or-map, get_or-take}
use Rattle.std.proofs.lemmas.List.Kept.{AllPairs-from_increasing}
use Rattle.gain_graphs.specs.Arcs.{IsIn}
use Rattle.gain_graphs.proofs.Lists.{in_append}
use Rattle.np_model.specs.Basis.Pieces.{beside}

-- the list that a member of joined lists comes from
pub record Among {A B : Type 0} (f : A → List B) (xs : List A) (y : B) : Type 0 where
  pub from : A
  pub stands : IsIn from xs
  pub gives : IsIn y (f from)

pub in_flat : {A B : Type 0} (f : A → List B) (xs : List A) (y : B) → IsIn y (flat_map f xs) → Among f xs y
in_flat f [] y i = absurd i
in_flat f (x ∷ xs) y i = elim (in_append y (f x) (flat_map f xs) i) [
  | inl l ↦ record { from = x; stands = inl refl; gives = l }
  | inr r ↦ let h = in_flat f xs y r in record { from = h.from; stands = inr h.stands; gives = h.gives }
]

-- ---- beside a number

-- the entry that tells what stands beside a number
pub record Entry {A : Type 0} (other : A) (xs : List (ℕ × A)) (v : ℕ) : Type 0 where
  pub entry : ℕ × A
  pub stands : IsIn entry xs
  pub number : entry.0 ≡ v
  pub value : beside other xs v ≡ entry.1

module _ {A : Type 0} where
  pub beside_entry : (other : A) (xs : List (ℕ × A)) (v : ℕ) → IsIn v (map (λ x. x.0) xs) → Entry other xs v
  beside_entry other [] v i = absurd i
  beside_entry other (x ∷ xs) v i = elim (eqb_tells v x.0) [
    | inl t ↦ record { entry = x; stands = inl refl; number = sym t.1; value = rw t.0 refl }
    | inr f ↦ elim i [
      | inl e ↦ absurd (f.1 e)
      | inr j ↦ let h = beside_entry other xs v j in record { entry = h.entry; stands = inr h.stands; number = h.number; value = rw f.0 h.value }
    ]
  ]

  pub beside_absent : (other : A) (xs : List (ℕ × A)) (v : ℕ) → (¬ IsIn v (map (λ x. x.0) xs)) → beside other xs v ≡ other
  beside_absent other [] v h = refl
  beside_absent other (x ∷ xs) v h = elim (eqb_tells v x.0) [
    | inl t ↦ absurd (h (inl t.1))
    | inr f ↦ rw f.0 (beside_absent other xs v (λ i. h (inr i)))
  ]

  -- a number stands there, or not
  pub stands_or : (xs : List (ℕ × A)) (v : ℕ) → IsIn v (map (λ x. x.0) xs) ⊎ (¬ IsIn v (map (λ x. x.0) xs))
  stands_or [] v = inr (λ i. absurd i)
  stands_or (x ∷ xs) v = elim (eqb_tells v x.0) [
    | inl t ↦ inl (inl t.1)
    | inr f ↦ elim (stands_or xs v) [ inl i ↦ inl (inr i) | inr n ↦ inr (λ i. elim i [ inl e ↦ f.1 e | inr j ↦ n j ]) ]
  ]

  pub beside_left : (other d : A) (xs ys : List (ℕ × A)) (v : ℕ) → IsIn v (map (λ x. x.0) xs) → beside other (xs ++ ys) v ≡ beside d xs v
  beside_left other d [] ys v i = absurd i
  beside_left other d (x ∷ xs) ys v i = elim (eqb_tells v x.0) [
    | inl t ↦ rw t.0 refl
    | inr f ↦ elim i [ inl e ↦ absurd (f.1 e) | inr j ↦ rw f.0 (beside_left other d xs ys v j) ]
  ]

  pub beside_beyond : (other : A) (xs ys : List (ℕ × A)) (v : ℕ) → (¬ IsIn v (map (λ x. x.0) xs)) → beside other (xs ++ ys) v ≡ beside other ys v
  beside_beyond other [] ys v h = refl
  beside_beyond other (x ∷ xs) ys v h = elim (eqb_tells v x.0) [
    | inl t ↦ absurd (h (inl t.1))
    | inr f ↦ rw f.0 (beside_beyond other xs ys v (λ i. h (inr i)))
  ]

  -- the default does not matter where the number stands
  pub beside_default : (other d : A) (xs : List (ℕ × A)) (v : ℕ) → IsIn v (map (λ x. x.0) xs) → beside other xs v ≡ beside d xs v
  beside_default other d [] v i = absurd i
  beside_default other d (x ∷ xs) v i = elim (eqb_tells v x.0) [
    | inl t ↦ rw t.0 refl
    | inr f ↦ elim i [ inl e ↦ absurd (f.1 e) | inr j ↦ rw f.0 (beside_default other d xs v j) ]
  ]

  -- at a place whose number has not stood before
  pub beside_at : (other : A) (xs : List (ℕ × A)) (i : ℕ) (d : ℕ × A) → i < length xs → ((k : ℕ) → k < i → (get_or xs k d).0 ≢ (get_or xs i d).0)
      → beside other xs (get_or xs i d).0 ≡ (get_or xs i d).1
  beside_at other [] i d l h = absurd (omega arith)
  beside_at other (x ∷ xs) zero d l h = elim (eqb_tells x.0 x.0) [ inl t ↦ rw t.0 refl | inr f ↦ absurd (f.1 refl) ]
  beside_at other (x ∷ xs) (suc i) d l h = elim (eqb_tells (get_or xs i d).0 x.0) [
    | inl t ↦ absurd (h 0 (omega arith) (sym t.1))
    | inr f ↦ rw f.0 (beside_at other xs i d (omega arith) (λ k below. h (suc k) (omega arith)))
  ]

-- ---- ascending lists

pub place_of : (ys : List ℕ) (b : ℕ) → IsIn b ys → (k : ℕ) × (k < length ys) × (get_or ys k 0 ≡ b)
place_of [] b i = absurd i
place_of (y ∷ ys) b (inl e) = (0, omega arith, sym e)
place_of (y ∷ ys) b (inr i) = let p = place_of ys b i in (suc p.0, (let l = p.1 in omega arith), p.2)

module _ {A : Type 0} (xs : List (ℕ × A)) (rises : IsStrictlyIncreasing (map (λ (x : ℕ × A). x.0) xs)) where
  pub rises_at : (k i : ℕ) (d : ℕ × A) → k < i → i < length xs → (get_or xs k d).0 < (get_or xs i d).0
  rises_at k i d l h =
      let own = AllPairs-from_increasing (map (λ (x : ℕ × A). x.0) xs) rises k i 0 l (omega (arith, length-map xs (λ (x : ℕ × A). x.0))) in
      rw (get_or-map (λ (x : ℕ × A). x.0) xs k d 0 (omega arith), get_or-map (λ (x : ℕ × A). x.0) xs i d 0 h) at own

  pub before_below : (b i : ℕ) (d : ℕ × A) → i < length xs → IsIn b (map (λ (x : ℕ × A). x.0) (take i xs)) → b < (get_or xs i d).0
  before_below b i d h k =
      let p = place_of (map (λ (x : ℕ × A). x.0) (take i xs)) b k in
      let long : p.0 < length (take i xs) = omega (arith, p.1, length-map (take i xs) (λ (x : ℕ × A). x.0)) in
      let early : p.0 < i = omega (arith, length-take i xs) in
      let value : (get_or xs p.0 d).0 ≡ b = sym (get_or-map (λ (x : ℕ × A). x.0) (take i xs) p.0 d 0 long ∙ ap (λ (x : ℕ × A). x.0) (get_or-take i xs p.0 d early)) ∙ p.2 in
      subst (λ (n : ℕ). n < (get_or xs i d).0) value (rises_at p.0 i d early h)

  pub own_amount : (other : A) (i : ℕ) (d : ℕ × A) → i < length xs → beside other xs (get_or xs i d).0 ≡ (get_or xs i d).1
  own_amount other i d h = beside_at other xs i d h (λ k l e. let less = rises_at k i d l h in absurd (omega (arith, e)))
