-- Lists that are made number by number.
use Rattle.std.specs.Prelude.{◌≡◌, ℕ, zero, suc, ◌+◌, ◌*◌, ◌<◌, ◌≤◌, Bool, false, sum_by, List, [], ◌∷◌, ◌++◌, map, length}
use Rattle.std.specs.List.{AllByRecursion, IsDistinct, flat_map, range_with_len}
use Rattle.std.proofs.Common.{refl, sym, ap, ◌∙◌, arith, le_refl, length-append}
use Rattle.std.proofs.lemmas.List.{append-nil, map-append}
use Rattle.std.proofs.lemmas.List.FromFn.{map-range_with_len_more}
use Rattle.std.proofs.lemmas.List.Folds.{flat_map-map}
use Rattle.std.proofs.lemmas.List.Sums.{sum_by-append}
use Rattle.std.proofs.lemmas.Grind.{flat_map-append}

pub flat_map_range_more : {X : Type 0} (f : ℕ → List X) (k : ℕ) → flat_map f (range_with_len 0 (k + 1)) ≡ flat_map f (range_with_len 0 k) ++ f k
flat_map_range_more f k =
    let own : ℕ → ℕ = λ x. x in
    sym (flat_map-map f own (range_with_len 0 (k + 1)))
    ∙ ap (flat_map f) (map-range_with_len_more own 0 k k (omega arith))
    ∙ flat_map-append f (map own (range_with_len 0 k)) (k ∷ [])
    ∙ ap (λ ys. flat_map f (map own (range_with_len 0 k)) ++ ys) (append-nil (f k))
    ∙ ap (λ ys. ys ++ f k) (flat_map-map f own (range_with_len 0 k))

pub all_joined : {X : Type 0} (P : X → Type 0) (xs ys : List X) → AllByRecursion P xs → AllByRecursion P ys → AllByRecursion P (xs ++ ys)
all_joined P [] ys h k = k
all_joined P (x ∷ xs) ys h k = (h.0, all_joined P xs ys h.1 k)

pub all_weaker : {X : Type 0} (P Q : X → Type 0) (xs : List X) → ((x : X) → P x → Q x) → AllByRecursion P xs → AllByRecursion Q xs
all_weaker P Q [] f h = tt
all_weaker P Q (x ∷ xs) f h = (f x h.0, all_weaker P Q xs f h.1)

pub all_mapped : {X Y : Type 0} (P : Y → Type 0) (f : X → Y) (xs : List X) → AllByRecursion (λ x. P (f x)) xs → AllByRecursion P (map f xs)
all_mapped P f [] h = tt
all_mapped P f (x ∷ xs) h = (h.0, all_mapped P f xs h.1)

-- what holds of what is made of each number
pub all_flat : {X : Type 0} (P : X → Type 0) (f : ℕ → List X) (a m : ℕ) → ((k : ℕ) → a ≤ k → k < a + m → AllByRecursion P (f k)) → AllByRecursion P (flat_map f (range_with_len a m))
all_flat P f a zero h = tt
all_flat P f a (suc m) h =
    all_joined P (f a) (flat_map f (range_with_len (a + 1) m)) (h a (le_refl a) (omega arith)) (all_flat P f (a + 1) m (λ k low high. h k (omega arith) (omega arith)))

pub all_range : {X : Type 0} (P : X → Type 0) (f : ℕ → X) (a m : ℕ) → ((k : ℕ) → a ≤ k → k < a + m → P (f k)) → AllByRecursion P (map f (range_with_len a m))
all_range P f a zero h = tt
all_range P f a (suc m) h = (h a (le_refl a) (omega arith), all_range P f (a + 1) m (λ k low high. h k (omega arith) (omega arith)))

pub map_flat : {X Y : Type 0} (g : X → Y) (f : ℕ → List X) (a m : ℕ) → map g (flat_map f (range_with_len a m)) ≡ flat_map (λ k. map g (f k)) (range_with_len a m)
map_flat g f a zero = refl
map_flat g f a (suc m) =
    map-append g (f a) (flat_map f (range_with_len (a + 1) m)) ∙ ap (λ ys. map g (f a) ++ ys) (map_flat g f (a + 1) m)

pub sum_flat : {X : Type 0} (weight : X → ℕ) (f : ℕ → List X) (most a m : ℕ) → ((k : ℕ) → sum_by weight (f k) ≤ most) → sum_by weight (flat_map f (range_with_len a m)) ≤ most * m
sum_flat weight f most a zero h = omega arith
sum_flat weight f most a (suc m) h =
    let more = sum_flat weight f most (a + 1) m h in
    let here = h a in
    let joined = sum_by-append weight (f a) (flat_map f (range_with_len (a + 1) m)) in
    omega arith

pub length_flat : {X : Type 0} (f : ℕ → List X) (most a m : ℕ) → ((k : ℕ) → length (f k) ≤ most) → length (flat_map f (range_with_len a m)) ≤ most * m
length_flat f most a zero h = omega arith
length_flat f most a (suc m) h =
    let more = length_flat f most (a + 1) m h in
    let here = h a in
    let joined = length-append (f a) (flat_map f (range_with_len (a + 1) m)) in
    omega arith

-- ---- distinct lists

pub distinct_joined : {X : Type 0} (same : X → X → Bool) (xs ys : List X) → IsDistinct same xs → IsDistinct same ys → AllByRecursion (λ x. AllByRecursion (λ y. same x y ≡ false) ys) xs → IsDistinct same (xs ++ ys)
unfolding IsDistinct
distinct_joined same [] ys h k apart = k
distinct_joined same (x ∷ xs) ys h k apart =
    (all_joined (λ y. same x y ≡ false) xs ys h.0 apart.0, distinct_joined same xs ys h.1 k apart.1)
