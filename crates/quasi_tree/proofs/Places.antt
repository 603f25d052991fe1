-- What a binary search finds in a list with ascending numbers.
use Rattle.std.specs.Prelude.{◌≡◌, ℕ, ◌<◌, ◌≤◌, zero, suc, Result, Ok, Err, List, [], ◌∷◌, length, map}
use Rattle.std.specs.List.Sorted.{IsStrictlyIncreasing, IsSearchInRange, IsBinarySearchResult, IsNonDecreasingBy}
use Rattle.std.specs.Result.{result_ok}
use Rattle.std.specs.Ordering.{nat_cmp, ordering_index}
use Rattle.std.proofs.Common.{refl, sym, subst, inl, inr, arith, get_or}
use Rattle.std.proofs.lemmas.Bool.{cases_eq}
use Rattle.std.proofs.lemmas.Bool.Decides.{nat_tests}
use Rattle.std.proofs.lemmas.Cmp.{ranked}
use Rattle.std.proofs.lemmas.List.{length-map, get_or-map}
use Rattle.std.proofs.lemmas.List.Kept.{AllPairs-from_increasing}
use Rattle.std.proofs.lemmas.List.Sorted.{IsNonDecreasingBy-from_default}
use Rattle.gain_graphs.specs.Arcs.{IsIn}
use Rattle.quasi_tree.specs.Place.{IsPlace}

module _ {A : Type 0} (number : A → ℕ) where
  -- a number of the list stands at some place
  pub stands : (xs : List A) (k : ℕ) → IsIn k (map number xs) → (i : ℕ) × (i < length xs) × ((d : A) → number (get_or xs i d) ≡ k)
  stands [] k is_in = absurd is_in
  stands (x ∷ xs) k (inl same) = (0, omega arith, λ d. sym same)
  stands (x ∷ xs) k (inr later) = let found = stands xs k later in (suc found.0, omega (arith, found.1), found.2)

  pub is_in_at : (xs : List A) (i : ℕ) (d : A) → i < length xs → IsIn (number (get_or xs i d)) (map number xs)
  is_in_at [] i d below = absurd (omega arith)
  is_in_at (x ∷ xs) zero d below = inl refl
  is_in_at (x ∷ xs) (suc i) d below = inr (is_in_at xs i d (omega arith))

  module _ (xs : List A) (ascend : IsStrictlyIncreasing (map number xs)) where
    -- the numbers rise from place to place
    pub rise : (i j : ℕ) (d : A) → i < j → j < length xs → number (get_or xs i d) < number (get_or xs j d)
    rise i j d before below =
        let long : length (map number xs) ≡ length xs = length-map xs number in
        subst (λ (n : ℕ). n < number (get_or xs j d)) (get_or-map number xs i d 0 (omega arith))
        (subst (λ (n : ℕ). get_or (map number xs) i 0 < n) (get_or-map number xs j d 0 below)
        (AllPairs-from_increasing (map number xs) ascend i j 0 before (omega arith)))

    -- the place of a number is the only one
    pub one_place : (i j : ℕ) (d : A) → i < length xs → j < length xs → number (get_or xs i d) ≡ number (get_or xs j d) → i ≡ j
    one_place i j d at_i at_j same = elim (cases_eq i j) [
      | inl e ↦ e
      | inr differ ↦ absurd (grind (arith, differ, same, at_i, at_j, rise i j d, rise j i d))
    ]

    module _ (k : ℕ) where
      comparisons_rise : A → IsNonDecreasingBy (λ x. ordering_index (nat_cmp (number x) k)) xs
      comparisons_rise d = IsNonDecreasingBy-from_default (λ x. ordering_index (nat_cmp (number x) k)) xs d (λ i j le below. elim (cases_eq i j) [
        | inl same ↦ rw same (omega arith)
        | inr differ ↦ let up = rise i j d (omega (arith, differ)) below in grind (arith, nat_tests)
      ])

      pub found_at : (r : Result ℕ ℕ) → A → IsSearchInRange r (length xs) → IsBinarySearchResult (λ x. nat_cmp (number x) k) xs r → IsPlace number xs k (result_ok r)
      found_at (Ok at) d in_range equal = (in_range, λ e. ranked _ k _ (sym (equal e)))
      found_at (Err at) d in_range parted = λ is_in.
          let found = stands xs k is_in in
          let is : number (get_or xs found.0 d) ≡ k = found.2 d in
          let below : found.0 < at → number (get_or xs found.0 d) < k = λ lt. ranked _ k _ (sym ((parted (comparisons_rise d)).0 found.0 d (omega arith) lt)) in
          let above : at ≤ found.0 → k < number (get_or xs found.0 d) = λ le. ranked _ k _ (sym ((parted (comparisons_rise d)).1 found.0 d le found.1)) in
          grind (arith, is, below, above)
