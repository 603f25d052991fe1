-- Sums of ratios over a list.
use Rattle.std.specs.Prelude.{◌≡◌, ℕ, zero, suc, ◌+◌, ◌<◌, ◌≤◌, length, List, [], ◌∷◌, ◌++◌, map, set, Bool, true, false, Some, slice_get, if◌then◌else◌}
use Rattle.std.specs.List.{All, AllByRecursion, filter, fold, zip, enumerate_from}
use Rattle.std.proofs.Common.{refl, arith, ap, ap₂, sym, subst, ◌∙◌, get_or, take}
use Rattle.std.proofs.lemmas.List.{take_all}
use Rattle.std.proofs.lemmas.List.Sums.{fold_more, fold-append}
use Rattle.std.proofs.lemmas.Slice.Zip.{length-zip, get_or-zip}
use Rattle.std.proofs.lemmas.List.Elements.{recursion_from_All, All-from_recursion, All-more}
use Rattle.np_frac.specs.Ratio.{Ratio, zero_ratio, ◌≤ᵣ◌, ◌+ᵣ◌, ◌-ᵣ◌, ◌*ᵣ◌, total, product, one_ratio}
use Rattle.np_frac.proofs.Field.{*ᵣ-one}
use Rattle.np_frac.proofs.RatioLaws.{one-*ᵣ, +ᵣ_comm, +ᵣ_assoc, +ᵣ_middle, +ᵣ-zero, zero-+ᵣ, *ᵣ_comm, *ᵣ_assoc, *ᵣ-+ᵣ, +ᵣ-*ᵣ, *ᵣ-zero, zero-*ᵣ, split_by, ≤ᵣ_refl, +ᵣ_at_most}

-- the same sum from the right, on which the laws go by recursion
abbrev pub sum : {A : Type 0} → (A → Ratio) → List A → Ratio
sum f [] = zero_ratio
sum f (x ∷ xs) = f x +ᵣ sum f xs

fold_is : {A : Type 0} (f : A → Ratio) (a : Ratio) (xs : List A) → fold (λ s x. s +ᵣ f x) a xs ≡ a +ᵣ sum f xs
fold_is f a [] = sym (+ᵣ-zero a)
fold_is f a (x ∷ xs) = fold_is f (a +ᵣ f x) xs ∙ +ᵣ_assoc a (f x) (sum f xs)

pub total_is : {A : Type 0} (f : A → Ratio) (xs : List A) → total f xs ≡ sum f xs
total_is f xs = fold_is f zero_ratio xs ∙ zero-+ᵣ (sum f xs)

-- ---- the laws, from the right

sum_same : {A : Type 0} (f g : A → Ratio) (xs : List A) → AllByRecursion (λ x. f x ≡ g x) xs → sum f xs ≡ sum g xs
sum_same f g [] h = refl
sum_same f g (x ∷ xs) h = rw (h.0, sum_same f g xs h.1) refl

sum_at_most : {A : Type 0} (f g : A → Ratio) (xs : List A) → AllByRecursion (λ x. f x ≤ᵣ g x) xs → sum f xs ≤ᵣ sum g xs
sum_at_most f g [] h = ≤ᵣ_refl zero_ratio
sum_at_most f g (x ∷ xs) h = +ᵣ_at_most h.0 (sum_at_most f g xs h.1)

sum_zero : {A : Type 0} (xs : List A) → sum (λ x. zero_ratio) xs ≡ zero_ratio
sum_zero [] = refl
sum_zero (x ∷ xs) = zero-+ᵣ (sum (λ x. zero_ratio) xs) ∙ sum_zero xs

sum-+ᵣ : {A : Type 0} (f g : A → Ratio) (xs : List A) → sum (λ x. f x +ᵣ g x) xs ≡ sum f xs +ᵣ sum g xs
sum-+ᵣ f g [] = sym (+ᵣ-zero zero_ratio)
sum-+ᵣ f g (x ∷ xs) = rw (sum-+ᵣ f g xs) (+ᵣ_middle (f x) (g x) (sum f xs) (sum g xs))

sum-*ᵣ : {A : Type 0} (f : A → Ratio) (c : Ratio) (xs : List A) → sum f xs *ᵣ c ≡ sum (λ x. f x *ᵣ c) xs
sum-*ᵣ f c [] = zero-*ᵣ c
sum-*ᵣ f c (x ∷ xs) = rw (← sum-*ᵣ f c xs) (+ᵣ-*ᵣ (f x) (sum f xs) c)

*ᵣ-sum : {A : Type 0} (f : A → Ratio) (c : Ratio) (xs : List A) → c *ᵣ sum f xs ≡ sum (λ x. c *ᵣ f x) xs
*ᵣ-sum f c [] = *ᵣ-zero c
*ᵣ-sum f c (x ∷ xs) = rw (← *ᵣ-sum f c xs) (*ᵣ-+ᵣ c (f x) (sum f xs))

-- a double sum, in either order
sum_swap : {A B : Type 0} (f : A → B → Ratio) (xs : List A) (ys : List B) → sum (λ x. sum (λ y. f x y) ys) xs ≡ sum (λ y. sum (λ x. f x y) xs) ys
sum_swap f [] ys = sym (sum_zero ys)
sum_swap f (x ∷ xs) ys = rw (sum_swap f xs ys) (sym (sum-+ᵣ (f x) (λ y. sum (λ z. f z y) xs) ys))

-- ---- the laws, from the left

pub total_same : {A : Type 0} (f g : A → Ratio) (xs : List A) → All (λ x. f x ≡ g x) xs → total f xs ≡ total g xs
total_same f g xs h = rw (total_is f xs, total_is g xs) (sum_same f g xs (recursion_from_All (λ x. f x ≡ g x) xs h))

pub total_each : {A : Type 0} {f g : A → Ratio} (xs : List A) → ((x : A) → f x ≡ g x) → total f xs ≡ total g xs
total_each xs h = λ i. total (λ x. h x i) xs

pub total_at_most : {A : Type 0} (f g : A → Ratio) (xs : List A) → All (λ x. f x ≤ᵣ g x) xs → total f xs ≤ᵣ total g xs
total_at_most f g xs h =
    rw (total_is f xs, total_is g xs) (sum_at_most f g xs (recursion_from_All (λ x. f x ≤ᵣ g x) xs h))

pub total_zero : {A : Type 0} (xs : List A) → total (λ x. zero_ratio) xs ≡ zero_ratio
total_zero xs = total_is (λ x. zero_ratio) xs ∙ sum_zero xs

pub total-+ᵣ : {A : Type 0} (f g : A → Ratio) (xs : List A) → total (λ x. f x +ᵣ g x) xs ≡ total f xs +ᵣ total g xs
total-+ᵣ f g xs = rw (total_is (λ x. f x +ᵣ g x) xs, total_is f xs, total_is g xs) (sum-+ᵣ f g xs)

pub total-*ᵣ : {A : Type 0} (f : A → Ratio) (c : Ratio) (xs : List A) → total f xs *ᵣ c ≡ total (λ x. f x *ᵣ c) xs
total-*ᵣ f c xs = rw (total_is f xs, total_is (λ x. f x *ᵣ c) xs) (sum-*ᵣ f c xs)

pub *ᵣ-total : {A : Type 0} (f : A → Ratio) (c : Ratio) (xs : List A) → c *ᵣ total f xs ≡ total (λ x. c *ᵣ f x) xs
*ᵣ-total f c xs = rw (total_is f xs, total_is (λ x. c *ᵣ f x) xs) (*ᵣ-sum f c xs)

pub total_swap : {A B : Type 0} (f : A → B → Ratio) (xs : List A) (ys : List B) → total (λ x. total (λ y. f x y) ys) xs ≡ total (λ y. total (λ x. f x y) xs) ys
total_swap f xs ys =
    (λ i. total_is (λ x. total_is (λ y. f x y) ys i) xs i) ∙ sum_swap f xs ys ∙ sym (λ i. total_is (λ y. total_is (λ x. f x y) xs i) ys i)

-- the potentials at the ends of all arcs, times their amounts, are the potentials times the balance
-- q is the amount of an element, k its coefficient at a node, p the nodes with their potentials
pub exchange : {A N : Type 0} (q : A → Ratio) (k : A → N → Ratio) (p : N → Ratio) (xs : List A) (nodes : List N) → total (λ x. total (λ n. k x n *ᵣ p n) nodes *ᵣ q x) xs ≡ total (λ n. p n *ᵣ total (λ x. k x n *ᵣ q x) xs) nodes
exchange q k p xs nodes =
    total_each xs (λ x. total-*ᵣ (λ n. k x n *ᵣ p n) (q x) nodes ∙ total_each nodes (λ n. rw (*ᵣ_comm (k x n) (p n)) (*ᵣ_assoc (p n) (k x n) (q x))))
    ∙ total_swap (λ x n. p n *ᵣ (k x n *ᵣ q x)) xs nodes
    ∙ total_each nodes (λ n. sym (*ᵣ-total (λ x. k x n *ᵣ q x) (p n) xs))

-- what a flow costs, by potentials: the reduced costs of the flow, and the potentials times the balance
pub priced : {A N : Type 0} (c q : A → Ratio) (k : A → N → Ratio) (p : N → Ratio) (xs : List A) (nodes : List N) → total (λ x. c x *ᵣ q x) xs ≡ total (λ x. (c x -ᵣ total (λ n. k x n *ᵣ p n) nodes) *ᵣ q x) xs +ᵣ total (λ n. p n *ᵣ total (λ x. k x n *ᵣ q x) xs) nodes
priced {A} c q k p xs nodes =
    let pull : A → Ratio = λ x. total (λ n. k x n *ᵣ p n) nodes in
    total_each xs (λ x. split_by (c x) (pull x) (q x))
    ∙ total-+ᵣ (λ x. (c x -ᵣ pull x) *ᵣ q x) (λ x. pull x *ᵣ q x) xs
    ∙ ap (λ s. total (λ x. (c x -ᵣ pull x) *ᵣ q x) xs +ᵣ s) (exchange q k p xs nodes)

-- ---- joined lists, a part of a list, one place changed

sum_joined : {A : Type 0} (f : A → Ratio) (xs ys : List A) → sum f (xs ++ ys) ≡ sum f xs +ᵣ sum f ys
sum_joined f [] ys = sym (zero-+ᵣ (sum f ys))
sum_joined f (x ∷ xs) ys = rw (sum_joined f xs ys) (sym (+ᵣ_assoc (f x) (sum f xs) (sum f ys)))

pub total_joined : {A : Type 0} (f : A → Ratio) (xs ys : List A) → total f (xs ++ ys) ≡ total f xs +ᵣ total f ys
total_joined f xs ys = rw (total_is f (xs ++ ys), total_is f xs, total_is f ys) (sum_joined f xs ys)

kept_or : {A : Type 0} (f : A → Ratio) (keep : A → Bool) (x : A) (xs : List A) (t : Bool) → keep x ≡ t → (t ≡ false → f x ≡ zero_ratio) → sum f (filter keep xs) ≡ sum f xs → sum f (if t then x ∷ filter keep xs else filter keep xs) ≡ f x +ᵣ sum f xs
kept_or f keep x xs true e h same = ap (λ s. f x +ᵣ s) same
kept_or f keep x xs false e h same = rw (h refl, zero-+ᵣ (sum f xs)) same

sum_part : {A : Type 0} (f : A → Ratio) (keep : A → Bool) (xs : List A) → AllByRecursion (λ x. keep x ≡ false → f x ≡ zero_ratio) xs → sum f (filter keep xs) ≡ sum f xs
sum_part f keep [] h = refl
sum_part f keep (x ∷ xs) h = kept_or f keep x xs (keep x) refl h.0 (sum_part f keep xs h.1)

-- the terms that are left out are 0
pub total_part : {A : Type 0} (f : A → Ratio) (keep : A → Bool) (xs : List A) → All (λ x. keep x ≡ false → f x ≡ zero_ratio) xs → total f (filter keep xs) ≡ total f xs
total_part f keep xs h =
    rw (total_is f (filter keep xs), total_is f xs) (sum_part f keep xs (recursion_from_All (λ x. keep x ≡ false → f x ≡ zero_ratio) xs h))

swapped_in : (a b c : Ratio) → (a +ᵣ b) +ᵣ c ≡ (c +ᵣ b) +ᵣ a
swapped_in a b c = +ᵣ_comm (a +ᵣ b) c ∙ ap (λ s. c +ᵣ s) (+ᵣ_comm a b) ∙ sym (+ᵣ_assoc c b a)

sum_changed : {A : Type 0} (f : A → Ratio) (xs : List A) (i : ℕ) (y d : A) → i < length xs → sum f (set xs i y) +ᵣ f (get_or xs i d) ≡ sum f xs +ᵣ f y
sum_changed f [] i y d h = absurd (omega arith)
sum_changed f (x ∷ xs) zero y d h = swapped_in (f y) (sum f xs) (f x)
sum_changed f (x ∷ xs) (suc i) y d h =
    +ᵣ_assoc (f x) (sum f (set xs i y)) (f (get_or xs i d))
    ∙ ap (λ s. f x +ᵣ s) (sum_changed f xs i y d (omega arith))
    ∙ sym (+ᵣ_assoc (f x) (sum f xs) (f y))

-- one place changed
pub total_changed : {A : Type 0} (f : A → Ratio) (xs : List A) (i : ℕ) (y d : A) → i < length xs → total f (set xs i y) +ᵣ f (get_or xs i d) ≡ total f xs +ᵣ f y
total_changed f xs i y d h = rw (total_is f (set xs i y), total_is f xs) (sum_changed f xs i y d h)

there : {A : Type 0} (xs : List A) (i : ℕ) (x : A) → slice_get xs i ≡ Some x → (i < length xs) × (get_or xs i x ≡ x)
there [] i x e = absurd (cc e)
there (y ∷ ys) zero x e = let same : y ≡ x = cc e in (omega arith, same)
there (y ∷ ys) (suc i) x e = let rest = there ys i x e in (omega (arith, rest.0), rest.1)

pub total_changed_at : {A : Type 0} (f : A → Ratio) (xs : List A) (i : ℕ) (x y : A) → slice_get xs i ≡ Some x → total f (set xs i y) +ᵣ f x ≡ total f xs +ᵣ f y
total_changed_at f xs i x y e =
    let at_place = there xs i x e in
    rw (at_place.1) at (total_changed f xs i y x at_place.0)

-- ---- products

fold_product : {A : Type 0} (f : A → Ratio) (a : Ratio) (xs : List A) → fold (λ r x. r *ᵣ f x) a xs ≡ a *ᵣ product f xs
fold_product f a [] = sym (*ᵣ-one a)
fold_product f a (x ∷ xs) =
    fold_product f (a *ᵣ f x) xs
    ∙ *ᵣ_assoc a (f x) (product f xs)
    ∙ ap (λ r. a *ᵣ r) (sym (fold_product f (f x) xs) ∙ ap (λ r. fold (λ s y. s *ᵣ f y) r xs) (sym (one-*ᵣ (f x))))

-- an element more at the front
pub product_more : {A : Type 0} (f : A → Ratio) (x : A) (xs : List A) → product f (x ∷ xs) ≡ f x *ᵣ product f xs
product_more f x xs = ap (λ r. fold (λ s y. s *ᵣ f y) r xs) (one-*ᵣ (f x)) ∙ fold_product f (f x) xs

pub product_joined : {A : Type 0} (f : A → Ratio) (xs ys : List A) → product f (xs ++ ys) ≡ product f xs *ᵣ product f ys
product_joined f xs ys = fold-append (λ r x. r *ᵣ f x) one_ratio xs ys ∙ fold_product f (product f xs) ys

-- ---- sums along two lists

sum_zip_at_most : {A : Type 0} (f g : A × Ratio → Ratio) (P Q : A × Ratio → Type 0) → ((a : A) (q r : Ratio) → P (a, q) → Q (a, r) → f (a, q) ≤ᵣ g (a, r)) → (ws : List A) (xs ys : List Ratio) → length xs ≡ length ws → length ys ≡ length ws → AllByRecursion P (zip ws xs) → AllByRecursion Q (zip ws ys) → sum f (zip ws xs) ≤ᵣ sum g (zip ws ys)
sum_zip_at_most f g P Q h [] xs ys d e p q = ≤ᵣ_refl zero_ratio
sum_zip_at_most f g P Q h (a ∷ ws) [] ys d e p q = absurd (omega arith)
sum_zip_at_most f g P Q h (a ∷ ws) (x ∷ xs) [] d e p q = absurd (omega arith)
sum_zip_at_most f g P Q h (a ∷ ws) (x ∷ xs) (y ∷ ys) d e p q =
    +ᵣ_at_most (h a x y p.0 q.0) (sum_zip_at_most f g P Q h ws xs ys (omega arith) (omega arith) p.1 q.1)

-- two lists beside one, compared place by place
pub total_zip_at_most : {A : Type 0} (f g : A × Ratio → Ratio) (P Q : A × Ratio → Type 0) → ((a : A) (q r : Ratio) → P (a, q) → Q (a, r) → f (a, q) ≤ᵣ g (a, r)) → (ws : List A) (xs ys : List Ratio) → length xs ≡ length ws → length ys ≡ length ws → All P (zip ws xs) → All Q (zip ws ys) → total f (zip ws xs) ≤ᵣ total g (zip ws ys)
total_zip_at_most f g P Q h ws xs ys d e p q =
    rw (total_is f (zip ws xs), total_is g (zip ws ys))
    (sum_zip_at_most f g P Q h ws xs ys d e (recursion_from_All P (zip ws xs) p) (recursion_from_All Q (zip ws ys) q))

each_numbered : {X : Type 0} (P : ℕ × X → Type 0) (n i : ℕ) (xs : List X) → i + length xs ≤ n → ((k : ℕ) (x : X) → k < n → P (k, x)) → AllByRecursion P (enumerate_from i xs)
each_numbered P n i [] h f = tt
each_numbered P n i (x ∷ xs) h f = (f i x (omega arith), each_numbered P n (i + 1) xs (omega arith) f)

-- what holds of each number below n holds along a list of at most n
pub numbered : {X : Type 0} (P : ℕ × X → Type 0) (n : ℕ) (xs : List X) → length xs ≤ n → ((k : ℕ) (x : X) → k < n → P (k, x)) → All P (enumerate_from 0 xs)
numbered P n xs h f = All-from_recursion P (enumerate_from 0 xs) (each_numbered P n 0 xs (omega arith) f)

sum_beside_at_most : {A : Type 0} (g : A → Ratio) (f : A × Ratio → Ratio) (P : A × Ratio → Type 0) (Q : A → Type 0) → ((a : A) (q : Ratio) → Q a → P (a, q) → g a ≤ᵣ f (a, q)) → (ws : List A) (xs : List Ratio) → length xs ≡ length ws → AllByRecursion Q ws → AllByRecursion P (zip ws xs) → sum g ws ≤ᵣ sum f (zip ws xs)
sum_beside_at_most g f P Q h [] xs e q p = ≤ᵣ_refl zero_ratio
sum_beside_at_most g f P Q h (a ∷ ws) [] e q p = absurd (omega arith)
sum_beside_at_most g f P Q h (a ∷ ws) (x ∷ xs) e q p =
    +ᵣ_at_most (h a x q.0 p.0) (sum_beside_at_most g f P Q h ws xs (omega arith) q.1 p.1)

-- a list, compared with the same list beside another
pub total_beside_at_most : {A : Type 0} (g : A → Ratio) (f : A × Ratio → Ratio) (P : A × Ratio → Type 0) (Q : A → Type 0) → ((a : A) (q : Ratio) → Q a → P (a, q) → g a ≤ᵣ f (a, q)) → (ws : List A) (xs : List Ratio) → length xs ≡ length ws → All Q ws → All P (zip ws xs) → total g ws ≤ᵣ total f (zip ws xs)
total_beside_at_most g f P Q h ws xs e q p =
    rw (total_is g ws, total_is f (zip ws xs))
    (sum_beside_at_most g f P Q h ws xs e (recursion_from_All Q ws q) (recursion_from_All P (zip ws xs) p))

sum_zip_map : {A B : Type 0} (f : B × Ratio → Ratio) (h : A → B) (ws : List A) (xs : List Ratio) → sum f (zip (map h ws) xs) ≡ sum (λ (w, q). f (h w, q)) (zip ws xs)
sum_zip_map f h [] xs = refl
sum_zip_map f h (w ∷ ws) [] = refl
sum_zip_map f h (w ∷ ws) (x ∷ xs) = ap (λ s. f (h w, x) +ᵣ s) (sum_zip_map f h ws xs)

pub total_zip_map : {A B : Type 0} (f : B × Ratio → Ratio) (h : A → B) (ws : List A) (xs : List Ratio) → total f (zip (map h ws) xs) ≡ total (λ (w, q). f (h w, q)) (zip ws xs)
total_zip_map {A} f h ws xs =
    let g : A × Ratio → Ratio = λ (w, q). f (h w, q) in
    total_is f (zip (map h ws) xs) ∙ sum_zip_map f h ws xs ∙ sym (total_is g (zip ws xs))

each_zip_map : {A B : Type 0} (P : B × Ratio → Type 0) (h : A → B) (ws : List A) (xs : List Ratio) → AllByRecursion P (zip (map h ws) xs) → AllByRecursion (λ (w, q). P (h w, q)) (zip ws xs)
each_zip_map P h [] xs p = tt
each_zip_map P h (w ∷ ws) [] p = tt
each_zip_map P h (w ∷ ws) (x ∷ xs) p = (p.0, each_zip_map P h ws xs p.1)

pub all_zip_map : {A B : Type 0} (P : B × Ratio → Type 0) (h : A → B) (ws : List A) (xs : List Ratio) → All P (zip (map h ws) xs) → All (λ (w, q). P (h w, q)) (zip ws xs)
all_zip_map P h ws xs p =
    All-from_recursion (λ (w, q). P (h w, q)) (zip ws xs) (each_zip_map P h ws xs (recursion_from_All P (zip (map h ws) xs) p))

each_zip_left : {A : Type 0} (P : A → Type 0) (ws : List A) (xs : List Ratio) → AllByRecursion P ws → AllByRecursion (λ (w, q). P w) (zip ws xs)
each_zip_left P [] xs p = tt
each_zip_left P (w ∷ ws) [] p = tt
each_zip_left P (w ∷ ws) (x ∷ xs) p = (p.0, each_zip_left P ws xs p.1)

pub all_zip_left : {A : Type 0} (P : A → Type 0) (ws : List A) (xs : List Ratio) → All P ws → All (λ (w, q). P w) (zip ws xs)
all_zip_left P ws xs p = All-from_recursion (λ (w, q). P w) (zip ws xs) (each_zip_left P ws xs (recursion_from_All P ws p))

pub length-map : {A B : Type 0} (h : A → B) (ws : List A) → length (map h ws) ≡ length ws
length-map h [] = refl
length-map h (w ∷ ws) = omega (arith, length-map h ws)

-- ---- a loop's running sum

-- one more term
pub total_more : {A : Type 0} (f : A × Ratio → Ratio) (ws : List A) (xs : List Ratio) (i : ℕ) (a : A) (q s s' : Ratio) → length xs ≡ length ws → i < length ws → a ≡ get_or ws i a → q ≡ get_or xs i q → s ≡ total f (take i (zip ws xs)) → s' ≡ s +ᵣ f (a, q) → s' ≡ total f (take (i + 1) (zip ws xs))
total_more {A} f ws xs i a q s s' e h at_a at_q so_far step =
    let pair : get_or (zip ws xs) i (a, q) ≡ (a, q) = get_or-zip ws xs i (a, q) h (omega arith) ∙ ap₂ {A = A} {B = Ratio} {C = A × Ratio} (λ b r. (b, r)) (sym at_a) (sym at_q) in
    let more : total f (take (i + 1) (zip ws xs)) ≡ total f (take i (zip ws xs)) +ᵣ f (get_or (zip ws xs) i (a, q)) = fold_more (λ (s : Ratio) (z : A × Ratio). s +ᵣ f z) zero_ratio (zip ws xs) i (a, q) (omega (arith, length-zip ws xs)) in
    step ∙ rw (so_far, more, pair) refl

pub total_end : {A : Type 0} (f : A × Ratio → Ratio) (ws : List A) (xs : List Ratio) (i : ℕ) (s : Ratio) → length xs ≡ length ws → i ≡ length ws → s ≡ total f (take i (zip ws xs)) → s ≡ total f (zip ws xs)
total_end f ws xs i s e h so_far = so_far ∙ ap (total f) (take_all i (zip ws xs) (omega (arith, length-zip ws xs)))

-- what holds of one more pair
pub all_zip_more : {A : Type 0} (P : A × Ratio → Type 0) (ws : List A) (xs : List Ratio) (i : ℕ) (a : A) (q : Ratio) → length xs ≡ length ws → i < length ws → a ≡ get_or ws i a → q ≡ get_or xs i q → All P (take i (zip ws xs)) → P (a, q) → All P (take (i + 1) (zip ws xs))
all_zip_more {A} P ws xs i a q e h at_a at_q so_far here =
    let below : i < length (zip ws xs) = omega (arith, length-zip ws xs) in
    let pair : get_or (zip ws xs) i (a, q) ≡ (a, q) = get_or-zip ws xs i (a, q) h (omega arith) ∙ ap {B = A × Ratio} (λ b. (b, get_or xs i q)) (sym at_a) ∙ ap {B = A × Ratio} (λ b. (a, b)) (sym at_q) in
    All-more P (zip ws xs) i (a, q) below so_far (subst P (sym pair) here)

pub all_zip_end : {A : Type 0} (P : A × Ratio → Type 0) (ws : List A) (xs : List Ratio) (i : ℕ) → length xs ≡ length ws → length ws ≤ i → All P (take i (zip ws xs)) → All P (zip ws xs)
all_zip_end P ws xs i e h so_far =
    let long : length (zip ws xs) ≤ i = omega (arith, length-zip ws xs) in
    subst (All P) (take_all i (zip ws xs) long) so_far
