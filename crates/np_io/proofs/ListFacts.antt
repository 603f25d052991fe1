-- A list that is cut at two places.
use Rattle.std.proofs.Common.{◌≡◌, ℕ, ◌≤◌, List, ◌++◌, length, take, drop, ap, sym, ◌∙◌, arith}
use Rattle.std.proofs.lemmas.List.{take-append-drop, drop-append-le, length-take}

-- what stands from the first place on is what stands up to the second, and then from the second on
pub drop-cut : {A : Type 0} (n m : ℕ) (xs : List A) → n ≤ m → m ≤ length xs
    → drop n (take m xs) ++ drop m xs ≡ drop n xs
drop-cut n m xs le within =
    sym (drop-append-le n (take m xs) (drop m xs) (rw length-take (omega arith)))
    ∙ ap (drop n) (take-append-drop m xs)
