-- Ascending lists of numbers.
use Rattle.std.specs.Prelude.{◌≡◌, ◌⊎◌, ℕ, zero, suc, ◌+◌, ◌<◌, List, [], ◌∷◌, slice_index, ⊤}
use Rattle.std.specs.List.Sorted.{IsStrictlyIncreasing}
use Rattle.std.proofs.Common.{refl, sym, ap₂, subst, ◌∙◌, inl, inr, arith}
use Rattle.gain_graphs.specs.Arcs.{IsIn, AreDistinct}

-- each is below all that follow
abbrev pub Ascends : List ℕ → Type 0
Ascends [] = ⊤
Ascends (v ∷ vs) = ((u : ℕ) → IsIn u vs → v < u) × Ascends vs

-- ---- both forms

more : (k : ℕ) → suc k + 1 ≡ suc (k + 1)
more k = omega arith

rest_rises : (x : ℕ) (xs : List ℕ) → IsStrictlyIncreasing (x ∷ xs) → IsStrictlyIncreasing xs
rest_rises x xs h k l = subst (λ t. slice_index xs k < slice_index (x ∷ xs) t) (more k) (h (suc k) (omega arith))

first_below : (x : ℕ) (xs : List ℕ) → IsStrictlyIncreasing (x ∷ xs) → (u : ℕ) → IsIn u xs → x < u
first_below x [] h u i = absurd i
first_below x (y ∷ ys) h u (inl e) = let l : x < y = h 0 (omega arith) in subst (λ t. x < t) (sym e) l
first_below x (y ∷ ys) h u (inr i) = let l : x < y = h 0 (omega arith) in let k : y < u = first_below y ys (rest_rises x (y ∷ ys) h) u i in omega arith

pub ascends : (xs : List ℕ) → IsStrictlyIncreasing xs → Ascends xs
ascends [] h = record {}
ascends (x ∷ xs) h = (first_below x xs h, ascends xs (rest_rises x xs h))

pub rises : (xs : List ℕ) → Ascends xs → IsStrictlyIncreasing xs
rises [] a k l = absurd (omega arith)
rises (x ∷ []) a k l = absurd (omega arith)
rises (x ∷ y ∷ ys) a zero l = a.0 y (inl refl)
rises (x ∷ y ∷ ys) a (suc k) l = subst (λ t. slice_index (y ∷ ys) k < slice_index (x ∷ y ∷ ys) t) (sym (more k)) (rises (y ∷ ys) a.1 k (omega arith))

pub ascends_once : (xs : List ℕ) → Ascends xs → AreDistinct xs
ascends_once [] a = record {}
ascends_once (x ∷ xs) a = ((λ i. let l : x < x = a.0 x i in absurd (omega arith)), ascends_once xs a.1)

-- one number alone
pub one_rises : (x : ℕ) → IsStrictlyIncreasing (x ∷ [])
one_rises x k l = absurd (omega arith)

-- ---- the same numbers in ascending order

pub record Sorted (xs : List ℕ) : Type 0 where
  pub list : List ℕ
  pub ascends : Ascends list
  pub to : (v : ℕ) → IsIn v xs → IsIn v list
  pub from : (v : ℕ) → IsIn v list → IsIn v xs

cases : (a b : ℕ) → (a < b) ⊎ ((a ≡ b) ⊎ (b < a))
cases a b = grind arith

record Inserted (x : ℕ) (ys : List ℕ) : Type 0 where
  list : List ℕ
  ascends : Ascends list
  first : IsIn x list
  to : (v : ℕ) → IsIn v ys → IsIn v list
  from : (v : ℕ) → IsIn v list → (v ≡ x) ⊎ IsIn v ys

insert : (x : ℕ) (ys : List ℕ) → Ascends ys → Inserted x ys
insert x [] a = record { list = x ∷ []; ascends = ((λ u i. absurd i), record {}); first = inl refl; to = λ v i. absurd i; from = λ v. elim [ inl e ↦ inl e | inr i ↦ absurd i ] }
insert x (y ∷ ys) a = go (cases x y) (insert x ys a.1)
  where
    go : (x < y) ⊎ ((x ≡ y) ⊎ (y < x)) → Inserted x ys → Inserted x (y ∷ ys)
    go (inl l) r = record {
      list = x ∷ y ∷ ys;
      ascends = ((λ u. elim [ inl e ↦ subst (λ t. x < t) (sym e) l | inr i ↦ (let m : y < u = a.0 u i in omega arith) ]), a);
      first = inl refl;
      to = λ v i. inr i;
      from = λ v. elim [ inl e ↦ inl e | inr i ↦ inr i ];
    }
    go (inr (inl e)) r = record { list = y ∷ ys; ascends = a; first = inl e; to = λ v i. i; from = λ v i. inr i }
    go (inr (inr l)) r = record {
      list = y ∷ r.list;
      ascends = ((λ u i. elim (r.from u i) [ inl e ↦ subst (λ t. y < t) (sym e) l | inr j ↦ a.0 u j ]), r.ascends);
      first = inr r.first;
      to = λ v. elim [ inl e ↦ inl e | inr i ↦ inr (r.to v i) ];
      from = λ v. elim [ inl e ↦ inr (inl e) | inr i ↦ elim (r.from v i) [ inl e ↦ inl e | inr j ↦ inr (inr j) ] ];
    }

pub sort : (xs : List ℕ) → Sorted xs
sort [] = record { list = []; ascends = record {}; to = λ v i. i; from = λ v i. i }
sort (x ∷ xs) =
    let s : Sorted xs = sort xs in
    let r : Inserted x s.list = insert x s.list s.ascends in
    record {
      list = r.list;
      ascends = r.ascends;
      to = λ v. elim [ inl e ↦ subst (λ t. IsIn t r.list) (sym e) r.first | inr i ↦ r.to v (s.to v i) ];
      from = λ v i. elim (r.from v i) [ inl e ↦ inl e | inr j ↦ inr (s.from v j) ];
    }

-- ascending lists of the same numbers are the same
pub same_list : (xs ys : List ℕ) → Ascends xs → Ascends ys → ((v : ℕ) → IsIn v xs → IsIn v ys) → ((v : ℕ) → IsIn v ys → IsIn v xs) → xs ≡ ys
same_list [] [] a b f g = refl
same_list [] (y ∷ ys) a b f g = absurd (g y (inl refl))
same_list (x ∷ xs) [] a b f g = absurd (f x (inl refl))
same_list (x ∷ xs) (y ∷ ys) a b f g = ap₂ (λ t ts. t ∷ ts) here (same_list xs ys a.1 b.1
    (λ v i. elim (f v (inr i)) [ inl e ↦ (let l : x < v = a.0 v i in absurd (let p : v ≡ x = e ∙ sym here in omega arith)) | inr j ↦ j ])
    (λ v i. elim (g v (inr i)) [ inl e ↦ (let l : y < v = b.0 v i in absurd (let p : v ≡ y = e ∙ here in omega arith)) | inr j ↦ j ]))
  where
    here : x ≡ y
    here = elim (f x (inl refl)) [
      | inl e ↦ e
      | inr i ↦ elim (g y (inl refl)) [ inl e ↦ sym e | inr j ↦ (let l : y < x = b.0 x i in let k : x < y = a.0 y j in absurd (omega arith)) ]
    ]

pub same_rising : (xs ys : List ℕ) → IsStrictlyIncreasing xs → IsStrictlyIncreasing ys → ((v : ℕ) → IsIn v xs → IsIn v ys) → ((v : ℕ) → IsIn v ys → IsIn v xs) → xs ≡ ys
same_rising xs ys a b = same_list xs ys (ascends xs a) (ascends ys b)
