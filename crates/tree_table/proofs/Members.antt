-- What weights say of members.
use Rattle.std.proofs.Common.{◌≡◌, ℕ, ◌+◌, ◌≤◌, List, [], ◌∷◌, sym, ap, subst, refl, inl, inr, ⊎_elim, arith}
use Rattle.gain_graphs.specs.Arcs.{IsIn}
use Rattle.tree_table.specs.Weights.{weigh, AreAmong}

module _ {A : Type 0} where
  -- a list without one of its members
  without_member : (x : A) (xs : List A) → IsIn x xs → (left : List A) × ((f : A → ℕ) → weigh f left + f x ≡ weigh f xs)
  without_member x [] here = absurd here
  without_member x (y ∷ ys) here =
      ⊎_elim
      (λ (e : x ≡ y). (ys, λ f. let s : f x ≡ f y = ap f e in omega arith))
      (λ (later : IsIn x ys). let t = without_member x ys later in (y ∷ t.0, λ f. let s = t.1 f in omega arith))
      here

  module _ (same : Discrete A) where
    abbrev one : {B : Type 0} → Dec B → ℕ
    one (yes _) = 1
    one (no _) = 0

    -- 1 where it is the member
    abbrev is : A → A → ℕ
    is y x = one (same x y)

    is_itself : (y : A) → is y y ≡ 1
    is_itself y = go (same y y)
      where
        go : (c : Dec (y ≡ y)) → one c ≡ 1
        go (yes _) = refl
        go (no n) = absurd (n refl)

    counted : (y : A) (xs : List A) → IsIn y xs → 1 ≤ weigh (is y) xs
    counted y [] here = absurd here
    counted y (x ∷ xs) here =
        ⊎_elim
        (λ (e : y ≡ x). let i : is y x ≡ 1 = subst (λ (z : A). is y z ≡ 1) e (is_itself y) in omega arith)
        (λ (later : IsIn y xs). let a = counted y xs later in omega arith)
        here

    found : (y : A) (xs : List A) → 1 ≤ weigh (is y) xs → IsIn y xs
    found y [] some_there = absurd (omega arith)
    found y (x ∷ xs) some_there = go (found y xs) (same x y) some_there
      where
        go : (1 ≤ weigh (is y) xs → IsIn y xs) → (c : Dec (x ≡ y)) → 1 ≤ one c + weigh (is y) xs → IsIn y (x ∷ xs)
        go later (yes e) h = inl (sym e)
        go later (no n) h = inr (later (omega arith))

    pub member_there : (ys xs : List A) (x : A) → AreAmong xs ys → IsIn x xs → IsIn x ys
    member_there ys xs x among here = found x ys (let a = counted x xs here in let b = among (is x) in omega arith)

    pub others_left : (ys xs : List A) → AreAmong xs ys → (others : List A) × ((f : A → ℕ) → weigh f others + weigh f xs ≡ weigh f ys)
    others_left ys [] among = (ys, λ f. omega arith)
    others_left ys (x ∷ xs) among =
        let t = without_member x ys (member_there ys (x ∷ xs) x among (inl refl)) in
        let u = others_left t.0 xs (λ f. let a = among f in let b = t.1 f in omega arith) in
        (u.0, λ f. let a = u.1 f in let b = t.1 f in omega arith)
