-- What stands before the first element of a kind.
use Rattle.std.specs.Prelude.{◌≡◌, ℕ, suc, ◌+◌, ◌<◌, Bool, true, false, List, [], ◌∷◌, ◌++◌, length, take}
use Rattle.std.specs.List.{list_any, before_first, position_or_len}
use Rattle.std.proofs.Common.{refl, ap, ◌∙◌, inl, inr, arith}
use Rattle.std.proofs.lemmas.Bool.{cases_Bool}

take-one_more : {X : Type 0} (n : ℕ) (x : X) (xs : List X) → take (1 + n) (x ∷ xs) ≡ x ∷ take n xs
take-one_more n x xs = let e : 1 + n ≡ suc n = omega arith in rw e refl

-- what stands before the first of some
pub before_first-is : {X : Type 0} (p : X → Bool) (before after : List X) (x : X) → list_any p before ≡ false → p x ≡ true → before_first p (before ++ x ∷ after) ≡ before
before_first-is p [] after x none here = rw here refl
before_first-is {X = X} p (b ∷ bs) after x none here = elim (cases_Bool (p b)) [
  | inl t ↦ absurd (cc (rw t at none))
  | inr f ↦ rw f (take-one_more (position_or_len p (bs ++ x ∷ after)) b (bs ++ x ∷ after) ∙ ap (λ (l : List X). b ∷ l) (before_first-is p bs after x (rw f at none) here))
]

-- it is shorter than all
pub before_first-shorter : {X : Type 0} (p : X → Bool) (xs : List X) → list_any p xs ≡ true → length (before_first p xs) < length xs
before_first-shorter p [] h = absurd (cc h)
before_first-shorter p (x ∷ xs) h = elim (cases_Bool (p x)) [
  | inl t ↦ rw t (omega arith)
  | inr f ↦
      let rest = before_first-shorter p xs (rw f at h) in
      rw (f, take-one_more (position_or_len p xs) x xs) (omega arith)
]
