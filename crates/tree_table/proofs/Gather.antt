-- The values that a row of slots has, from the first on.
use Rattle.std.proofs.Common.{◌≡◌, ℕ, zero, suc, ◌+◌, ◌<◌, ◌≤◌, Bool, true, false, List, [], ◌∷◌, ◌++◌, map, length, take, set, get_or, sym, ap, ◌∙◌, subst, refl, arith, append-nil, get_or-set_other, get_or-set_same}
use mathlib.Core.Logic.{dite}
use native.Mathlib.Decide.{ℕ_discrete}
use mathlib.Core.Option.{some, some-injective, some-ne-none}
use lib.ListN.{get_elem?}
use Rattle.std.specs.Prelude.{Option, Some, None}
use Rattle.np_model.specs.Basis.Pieces.{PieceLists, least_node}
use Rattle.std.specs.List.Sorted.{IsStrictlyIncreasing}
use Rattle.tree_table.specs.Weights.{weigh, AreSame}
use Rattle.tree_table.specs.Slots.{LiesAt}
use Rattle.tree_table.specs.Whole.{weight_at_home}
use Rattle.tree_table.specs.Steps.Closing.{somes}

-- a lesser number before a rising list
rising_more : (n : ℕ) (xs : List ℕ) → IsStrictlyIncreasing xs → (0 < length xs → n < get_or xs 0 0) → IsStrictlyIncreasing (n ∷ xs)
rising_more n xs up first zero near = first (omega arith)
rising_more n xs up first (suc k) near =
    let next : k + 1 ≡ suc k = omega arith in
    let more : suc k + 1 ≡ suc (suc k) = omega arith in
    let later : get_or xs k 0 < get_or xs (suc k) 0 = subst (λ (j : ℕ). get_or xs k 0 < get_or xs j 0) next (up k (omega arith)) in
    subst (λ (j : ℕ). get_or (n ∷ xs) (suc k) 0 < get_or (n ∷ xs) j 0) (sym more) later

module _ {T : Type 0} where
  abbrev one : Option T → List T
  one None = []
  one (Some x) = x ∷ []

  somes_one : (x : Option T) (xs : List (Option T)) → somes (x ∷ xs) ≡ one x ++ somes xs
  somes_one None xs = refl
  somes_one (Some x) xs = refl

  somes_more : (xs : List (Option T)) (k : ℕ) (x : Option T) → get_elem? xs k ≡ some x → somes (take (suc k) xs) ≡ somes (take k xs) ++ one x
  somes_more [] k x e = absurd (some-ne-none x (sym e))
  somes_more (y ∷ ys) zero x e = somes_one y [] ∙ (append-nil (one y) ∙ ap one (some-injective y x e))
  somes_more (None ∷ ys) (suc k) x e = somes_more ys k x e
  somes_more (Some y ∷ ys) (suc k) x e = ap (λ z. y ∷ z) (somes_more ys k x e)

  pub somes_some : (xs : List (Option T)) (k : ℕ) (x : T) → get_elem? xs k ≡ some (Some x) → somes (take (k + 1) xs) ≡ somes (take k xs) ++ x ∷ []
  somes_some xs k x e = let n : k + 1 ≡ suc k = omega arith in ap (λ z. somes (take z xs)) n ∙ somes_more xs k (Some x) e

  pub somes_none : (xs : List (Option T)) (k : ℕ) → get_elem? xs k ≡ some None → somes (take (k + 1) xs) ≡ somes (take k xs)
  somes_none xs k e = let n : k + 1 ≡ suc k = omega arith in ap (λ z. somes (take z xs)) n ∙ (somes_more xs k None e ∙ append-nil (somes (take k xs)))

  module _ (lists : T → PieceLists) where
    pub weigh-somes : (f : PieceLists → ℕ) (xs : List (Option T)) → weigh f (map lists (somes xs)) ≡ weigh (λ x. weight_at_home lists f (some x)) xs
    weigh-somes f [] = refl
    weigh-somes f (None ∷ xs) = omega (arith, weigh-somes f xs)
    weigh-somes f (Some x ∷ xs) = omega (arith, weigh-somes f xs)

    -- the numbers of the slots that have a piece ascend, from n on
    from_slot : (n k : ℕ) (xs : List (Option T)) → ((k : ℕ) (piece : T) → get_elem? xs k ≡ some (Some piece) → least_node (lists piece) ≡ n + k)
        → 0 < length (map least_node (map lists (somes xs))) → n ≤ get_or (map least_node (map lists (somes xs))) 0 0
    from_slot n k [] lies some_there = absurd (omega arith)
    from_slot n k (None ∷ xs) lies some_there = let a = from_slot (suc n) k xs (λ k piece e. lies (suc k) piece e ∙ (omega arith)) some_there in omega arith
    from_slot n k (Some x ∷ xs) lies some_there = let a = lies 0 x refl in omega arith

    ascending_from : (n : ℕ) (xs : List (Option T)) → ((k : ℕ) (piece : T) → get_elem? xs k ≡ some (Some piece) → least_node (lists piece) ≡ n + k)
        → IsStrictlyIncreasing (map least_node (map lists (somes xs)))
    ascending_from n [] lies = λ k near. absurd (omega arith)
    ascending_from n (None ∷ xs) lies = ascending_from (suc n) xs (λ k piece e. lies (suc k) piece e ∙ (omega arith))
    ascending_from n (Some x ∷ xs) lies =
        rising_more (least_node (lists x)) (map least_node (map lists (somes xs))) (ascending_from (suc n) xs (λ k piece e. lies (suc k) piece e ∙ (omega arith)))
        (λ some_there. let a = from_slot (suc n) 0 xs (λ k piece e. lies (suc k) piece e ∙ (omega arith)) some_there in let b = lies 0 x refl in omega arith)

    pub ascending : (xs : List (Option T)) → ((k : ℕ) (piece : T) → get_elem? xs k ≡ some (Some piece) → LiesAt k (lists piece)) → IsStrictlyIncreasing (map least_node (map lists (somes xs)))
    ascending xs lies = ascending_from 0 xs (λ k piece e. (lies k piece e).0 ∙ (let z : k ≡ 0 + k = omega arith in z))

pub still_full : (fs fs' : List Bool) (k n : ℕ) → fs' ≡ set fs k false → ((j : ℕ) → k ≤ j → j < n → get_or fs j false ≡ true) → (j : ℕ) → k + 1 ≤ j → j < n → get_or fs' j false ≡ true
still_full fs fs' k n e full j le near = ap (λ z. get_or z j false) e ∙ (get_or-set_other fs k j false false (λ q. omega arith) ∙ full j (omega arith) near)

pub now_empty : (fs fs' : List Bool) (k : ℕ) → k < length fs → fs' ≡ set fs k false → ((j : ℕ) → j < k → get_or fs j false ≡ false) → (j : ℕ) → j < k + 1 → get_or fs' j false ≡ false
now_empty fs fs' k near e empty j lt =
    ap (λ z. get_or z j false) e
    ∙ dite (ℕ_discrete j k)
    (λ q. ap (λ z. get_or (set fs k false) z false) q ∙ get_or-set_same fs k false false near)
    (λ n. get_or-set_other fs k j false false (λ q. n (omega arith)) ∙ empty j (omega arith))

-- what a closed table gives
pub closed_gives : {T : Type 0} (lists : T → PieceLists) (ys : List T) (slots : List (Option T)) (now : List PieceLists) → ys ≡ somes slots
    → ((f : PieceLists → ℕ) → weigh f now ≡ weigh (λ x. weight_at_home lists f (some x)) slots) → ((k : ℕ) (piece : T) → get_elem? slots k ≡ some (Some piece) → LiesAt k (lists piece))
    → AreSame now (map lists ys) × IsStrictlyIncreasing (map least_node (map lists ys))
closed_gives {T} lists ys slots now is weighs lies =
    let F : List T → Type 0 = λ z. AreSame now (map lists z) × IsStrictlyIncreasing (map least_node (map lists z)) in
    subst F (sym is) ((λ f. weighs f ∙ sym (weigh-somes lists f slots)), ascending lists slots lies)
