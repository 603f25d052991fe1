-- Lists with an entry marked, lists of numbers in which none stands twice, and what is in them.
use Rattle.std.specs.Prelude.{◌↔◌, ◌+◌, ◌<◌, zero, Bool, true, false, cond, filter}
use Rattle.std.specs.List.{range_with_len}
use Rattle.std.proofs.Common.{◌≡◌, ◌⊎◌, inl, inr, sym, ap, refl, ◌∙◌, subst, ℕ, suc, ◌≤◌, List, [], ◌∷◌, ◌++◌, length, map, arith, get_or, true≢false}
use native.Mathlib.Decide.{ℕ_discrete}
use Rattle.gain_graphs.specs.Arcs.{IsIn, AreDistinct}

pub in_front : {A : Type 0} (x : A) (xs ys : List A) → IsIn x xs → IsIn x (xs ++ ys)
in_front x [] ys i = absurd i
in_front x (z ∷ xs) ys (inl e) = inl e
in_front x (z ∷ xs) ys (inr i) = inr (in_front x xs ys i)

pub in_back : {A : Type 0} (x : A) (xs ys : List A) → IsIn x ys → IsIn x (xs ++ ys)
in_back x [] ys i = i
in_back x (z ∷ xs) ys i = inr (in_back x xs ys i)

pub in_append : {A : Type 0} (x : A) (xs ys : List A) → IsIn x (xs ++ ys) → IsIn x xs ⊎ IsIn x ys
in_append x [] ys i = inr i
in_append x (z ∷ xs) ys (inl e) = inl (inl e)
in_append x (z ∷ xs) ys (inr i) = elim (in_append x xs ys i) [ inl j ↦ inl (inr j) | inr j ↦ inr j ]

-- a list with one entry marked
pub in_others : {A : Type 0} (x : A) (before : List A) (a : A) (after : List A) → IsIn x (before ++ a ∷ after) → (x ≡ a) ⊎ IsIn x (before ++ after)
in_others x before a after i = elim (in_append x before (a ∷ after) i) [ inl j ↦ inr (in_front x before after j) | inr j ↦ elim j [ inl e ↦ inl e | inr k ↦ inr (in_back x before after k) ] ]

pub in_with : {A : Type 0} (x : A) (before : List A) (a : A) (after : List A) → IsIn x (before ++ after) → IsIn x (before ++ a ∷ after)
in_with x before a after i = elim (in_append x before after i) [ inl j ↦ in_front x before (a ∷ after) j | inr j ↦ in_back x before (a ∷ after) (inr j) ]

pub length_marked : {A : Type 0} (before : List A) (a : A) (after : List A) → length (before ++ a ∷ after) ≡ suc (length (before ++ after))
length_marked [] a after = refl
length_marked (x ∷ before) a after = ap suc (length_marked before a after)

pub in_map : {A B : Type 0} (f : A → B) (x : A) (xs : List A) → IsIn x xs → IsIn (f x) (map f xs)
in_map f x [] i = i
in_map f x (y ∷ ys) (inl e) = inl (ap f e)
in_map f x (y ∷ ys) (inr i) = inr (in_map f x ys i)

pub length_map : {A B : Type 0} (f : A → B) (xs : List A) → length (map f xs) ≡ length xs
length_map f [] = refl
length_map f (x ∷ xs) = ap suc (length_map f xs)

pub map_append : {A B : Type 0} (f : A → B) (xs ys : List A) → map f (xs ++ ys) ≡ map f xs ++ map f ys
map_append f [] ys = refl
map_append f (x ∷ xs) ys = ap (λ t. f x ∷ t) (map_append f xs ys)

pub in_map_of : {A B : Type 0} (f : A → B) (y : B) (xs : List A) → IsIn y (map f xs) → (x : A) × IsIn x xs × (y ≡ f x)
in_map_of f y [] i = absurd i
in_map_of f y (x ∷ xs) (inl e) = (x, inl refl, e)
in_map_of f y (x ∷ xs) (inr i) = let r = in_map_of f y xs i in (r.0, inr r.1, r.2)

pub in_list : {A : Type 0} (xs : List A) (i : ℕ) (d : A) → i < length xs → IsIn (get_or xs i d) xs
in_list [] i d l = absurd (omega arith)
in_list (x ∷ xs) zero d l = inl refl
in_list (x ∷ xs) (suc i) d l = inr (in_list xs i d (omega arith))

pub split_at : {A : Type 0} (x : A) (xs : List A) → IsIn x xs → (before : List A) × (after : List A) × (before ++ x ∷ after ≡ xs)
split_at x [] i = absurd i
split_at x (y ∷ ys) (inl e) = ([], ys, ap (λ t. t ∷ ys) e)
split_at x (y ∷ ys) (inr i) = let r = split_at x ys i in (y ∷ r.0, r.1, ap (λ t. y ∷ t) r.2)

pub decide_in : (v : ℕ) (ns : List ℕ) → Dec (IsIn v ns)
decide_in v [] = no (λ i. i)
decide_in v (n ∷ ns) = go (ℕ_discrete v n) (decide_in v ns)
  where
    go : Dec (v ≡ n) → Dec (IsIn v ns) → Dec (IsIn v (n ∷ ns))
    go (yes e) _ = yes (inl e)
    go (no h) (yes i) = yes (inr i)
    go (no h) (no k) = no (elim [ inl e ↦ h e | inr i ↦ k i ])

-- numbers that are all in a list are no more than it has
pub at_most : (xs ys : List ℕ) → AreDistinct xs → ((v : ℕ) → IsIn v xs → IsIn v ys) → length xs ≤ length ys
at_most [] ys d sub = omega arith
at_most (x ∷ xs) ys d sub =
    let s = split_at x ys (sub x (inl refl)) in
    let e : length ys ≡ suc (length (s.0 ++ s.1)) = sym (ap length s.2) ∙ length_marked s.0 x s.1 in
    let l : length xs ≤ length (s.0 ++ s.1) = at_most xs (s.0 ++ s.1) d.1 (λ v i. elim (in_others v s.0 x s.1 (subst (λ t. IsIn v t) (sym s.2) (sub v (inr i)))) [
      | inl p ↦ absurd (d.0 (subst (λ t. IsIn t xs) p i))
      | inr k ↦ k
    ]) in
    omega arith

pub distinct_append : (ms ns : List ℕ) → AreDistinct ms → AreDistinct ns → ((v : ℕ) → IsIn v ms → ¬ IsIn v ns) → AreDistinct (ms ++ ns)
distinct_append [] ns d e h = e
distinct_append (m ∷ ms) ns d e h =
    (λ i. elim (in_append m ms ns i) [ inl j ↦ d.0 j | inr j ↦ h m (inl refl) j ], distinct_append ms ns d.1 e (λ v i. h v (inr i)))

pub apart_parts : (xs ys : List ℕ) → AreDistinct (xs ++ ys) → (v : ℕ) → IsIn v xs → ¬ IsIn v ys
apart_parts [] ys d v i = absurd i
apart_parts (x ∷ xs) ys d v (inl e) = λ j. d.0 (in_back x xs ys (subst (λ t. IsIn t ys) e j))
apart_parts (x ∷ xs) ys d v (inr i) = apart_parts xs ys d.1 v i

pub once_left : (xs ys : List ℕ) → AreDistinct (xs ++ ys) → AreDistinct xs
once_left [] ys d = record {}
once_left (x ∷ xs) ys d = ((λ i. d.0 (in_front x xs ys i)), once_left xs ys d.1)

pub once_right : (xs ys : List ℕ) → AreDistinct (xs ++ ys) → AreDistinct ys
once_right [] ys d = d
once_right (x ∷ xs) ys d = once_right xs ys d.1

pub swap_once : (xs ys : List ℕ) → AreDistinct (xs ++ ys) → AreDistinct (ys ++ xs)
swap_once xs ys d = distinct_append ys xs (once_right xs ys d) (once_left xs ys d) (λ z i j. apart_parts xs ys d z j i)

-- distinct numbers with one taken out
pub others_once : (before : List ℕ) (a : ℕ) (after : List ℕ) → AreDistinct (before ++ a ∷ after) → AreDistinct (before ++ after) × (¬ IsIn a (before ++ after))
others_once [] a after d = (d.1, d.0)
others_once (b ∷ before) a after d =
    let r = others_once before a after d.1 in (
      (λ i. d.0 (in_with b before a after i), r.0),
      elim [ inl p ↦ d.0 (subst (λ t. IsIn t (before ++ a ∷ after)) p (in_back a before (a ∷ after) (inl refl))) | inr i ↦ r.1 i ],
    )

-- what passes a test
pub filter_holds : {A : Type 0} (p : A → Bool) (xs : List A) (x : A) → IsIn x (filter p xs) ↔ (IsIn x xs × (p x ≡ true))
filter_holds p [] x = ((λ i. absurd i), (λ r. absurd r.0))
filter_holds {A} p (y ∷ xs) x = go (p y) refl (filter_holds p xs x)
  where
    go : (b : Bool) → p y ≡ b → (IsIn x (filter p xs) ↔ (IsIn x xs × (p x ≡ true))) → IsIn x (cond b (y ∷ filter p xs) (filter p xs)) ↔ (IsIn x (y ∷ xs) × (p x ≡ true))
    go true e ih = (
      (λ i. elim i [ inl f ↦ (inl f, ap p f ∙ e) | inr k ↦ (inr (ih.0 k).0, (ih.0 k).1) ]),
      (λ r. elim r.0 [ inl f ↦ inl f | inr k ↦ inr (ih.1 (k, r.1)) ]),
    )
    go false e ih = (
      (λ i. (inr (ih.0 i).0, (ih.0 i).1)),
      (λ r. elim r.0 [ inl f ↦ absurd (true≢false (sym r.1 ∙ ap p f ∙ e)) | inr k ↦ ih.1 (k, r.1) ]),
    )

-- ---- numbers from a place on

pub range_holds : (i n v : ℕ) → i ≤ v → v < i + n → IsIn v (range_with_len i n)
range_holds i zero v h k = absurd (omega arith)
range_holds i (suc n) v h k = elim (cases i v h) [ inl e ↦ inl e | inr l ↦ inr (range_holds (i + 1) n v (omega arith) (omega arith)) ]
  where
    cases : (a b : ℕ) → a ≤ b → (b ≡ a) ⊎ (a < b)
    cases a b l = grind arith

pub range_within : (i n v : ℕ) → IsIn v (range_with_len i n) → (i ≤ v) × (v < i + n)
range_within i zero v k = absurd k
range_within i (suc n) v (inl e) = (omega arith, omega arith)
range_within i (suc n) v (inr k) = let r = range_within (i + 1) n v k in (omega (arith, r.0), omega (arith, r.1))
