-- The numbers below a bound, those of a list that have a property, and the least of a list.
use Rattle.std.proofs.Common.{lt_irrefl, length, ap, ◌≡◌, ◌⊎◌, ◌↔◌, inl, inr, sym, refl, subst, ℕ, suc, zero, ◌<◌, ◌≤◌, List, [], ◌∷◌, arith}
use Rattle.gain_graphs.specs.Arcs.{IsIn, AreDistinct}

abbrev pub upto : ℕ → List ℕ
upto zero = []
upto (suc n) = n ∷ upto n

pub upto_below : (n v : ℕ) → IsIn v (upto n) → v < n
upto_below zero v i = absurd i
upto_below (suc n) v (inl e) = omega arith
upto_below (suc n) v (inr i) = omega (arith, upto_below n v i)

pub upto_holds : (n v : ℕ) → v < n → IsIn v (upto n)
upto_holds zero v h = absurd (omega arith)
upto_holds (suc n) v h = elim (cases v n h) [ inl e ↦ inl e | inr l ↦ inr (upto_holds n v l) ]
  where
    cases : (a b : ℕ) → a < suc b → (a ≡ b) ⊎ (a < b)
    cases a b l = grind arith

pub upto_once : (n : ℕ) → AreDistinct (upto n)
upto_once zero = record {}
upto_once (suc n) = ((λ i. lt_irrefl n (upto_below n n i)), upto_once n)

pub length_upto : (n : ℕ) → length (upto n) ≡ n
length_upto zero = refl
length_upto (suc n) = ap suc (length_upto n)

-- the numbers of a list that have a property
pub record Selected (P : ℕ → Type 0) (xs : List ℕ) : Type 0 where
  pub list : List ℕ
  pub once : AreDistinct list
  pub holds : (a : ℕ) → IsIn a list ↔ (IsIn a xs × P a)

pub select : (P : ℕ → Type 0) → ((a : ℕ) → Dec (P a)) → (xs : List ℕ) → AreDistinct xs → Selected P xs
select P dec [] d = record { list = []; once = record {}; holds = λ a. ((λ i. absurd i), (λ r. r.0)) }
select P dec (x ∷ xs) d = go (dec x) (select P dec xs d.1)
  where
    go : Dec (P x) → Selected P xs → Selected P (x ∷ xs)
    go (yes p) r = record {
      list = x ∷ r.list;
      once = ((λ i. d.0 ((r.holds x).0 i).0), r.once);
      holds = λ a. (
        (λ i. elim i [ inl e ↦ (inl e, subst P (sym e) p) | inr j ↦ (inr ((r.holds a).0 j).0, ((r.holds a).0 j).1) ]),
        (λ q. elim q.0 [ inl e ↦ inl e | inr j ↦ inr ((r.holds a).1 (j, q.1)) ]),
      );
    }
    go (no h) r = record {
      list = r.list;
      once = r.once;
      holds = λ a. (
        (λ i. (inr ((r.holds a).0 i).0, ((r.holds a).0 i).1)),
        (λ q. elim q.0 [ inl e ↦ absurd (h (subst P e q.1)) | inr j ↦ (r.holds a).1 (j, q.1) ]),
      );
    }

-- the least of a list that is not empty
pub least_of : (x : ℕ) (xs : List ℕ) → (m : ℕ) × IsIn m (x ∷ xs) × ((v : ℕ) → IsIn v (x ∷ xs) → m ≤ v)
least_of x [] = (x, inl refl, λ v. elim [ inl e ↦ omega arith | inr i ↦ absurd i ])
least_of x (y ∷ ys) = go (least_of y ys)
  where
    cases : (a b : ℕ) → (a ≤ b) ⊎ (b < a)
    cases a b = grind arith

    go : (m : ℕ) × IsIn m (y ∷ ys) × ((v : ℕ) → IsIn v (y ∷ ys) → m ≤ v) → (m : ℕ) × IsIn m (x ∷ y ∷ ys) × ((v : ℕ) → IsIn v (x ∷ y ∷ ys) → m ≤ v)
    go r = elim (cases x r.0) [
      | inl h ↦ (x, inl refl, λ v. elim [ inl e ↦ omega arith | inr i ↦ omega (arith, r.2 v i) ])
      | inr h ↦ (r.0, inr r.1, λ v. elim [ inl e ↦ omega arith | inr i ↦ r.2 v i ])
    ]
