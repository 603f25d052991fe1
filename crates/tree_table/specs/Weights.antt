-- Lists compared by weight: two lists with the same weight under every function have the same members, each as often. (This project's own.)
use Rattle.std.specs.Prelude.{◌≡◌, ◌==◌, ◌≤◌, ℕ, ◌+◌, List, [], ◌∷◌, cond}

-- the weights of the members, added up
abbrev pub weigh : {A : Type 0} → (A → ℕ) → List A → ℕ
weigh f [] = 0
weigh f (x ∷ xs) = f x + weigh f xs

-- the members of xs are among those of ys, each as often at least
abbrev pub AreAmong : {A : Type 0} → List A → List A → Type 0
AreAmong {A} xs ys = (f : A → ℕ) → weigh f xs ≤ weigh f ys

-- they have the same members, each as often
abbrev pub AreSame : {A : Type 0} → List A → List A → Type 0
AreSame {A} xs ys = (f : A → ℕ) → weigh f xs ≡ weigh f ys

-- 1 where the numbers are equal, and else 0
abbrev pub once : ℕ → ℕ → ℕ
once x y = cond (y == x) 1 0

-- how often the number stands in the list
abbrev pub times : ℕ → List ℕ → ℕ
times x xs = weigh (once x) xs

-- the list without the first x in it
abbrev pub without : ℕ → List ℕ → List ℕ
without x [] = []
without x (y ∷ ys) = cond (y == x) ys (y ∷ without x ys)
