-- Sums over lists that change at one place.
use Rattle.std.proofs.Common.{◌≡◌, ℕ, zero, suc, ◌+◌, ◌*◌, ◌<◌, ◌≤◌, ◌≢◌, List, [], ◌∷◌, ◌++◌, length, set, sym, refl, ap, ◌∙◌, subst, arith, cond, eq-eqb, ne_eqb, get_or}
use mathlib.Core.Logic.{dite}
use native.Mathlib.Decide.{ℕ_discrete}
use mathlib.Core.Option.{some, some-injective, some-ne-none}
use lib.ListN.{get_elem?}
use Rattle.tree_table.specs.Weights.{weigh, once, times, without}

module _ {A : Type 0} (g : A → ℕ) where
  pub weigh-append : (l m : List A) → weigh g (l ++ m) ≡ weigh g l + weigh g m
  weigh-append [] m = omega arith
  weigh-append (x ∷ xs) m = omega (arith, weigh-append xs m)

  pub weigh-set : (l : List A) (j : ℕ) (v w : A) → get_elem? l j ≡ some v → weigh g (set l j w) + g v ≡ weigh g l + g w
  weigh-set [] j v w e = absurd (some-ne-none v (sym e))
  weigh-set (x ∷ xs) zero v w e = omega (arith, ap g (some-injective x v e))
  weigh-set (x ∷ xs) (suc j) v w e = omega (arith, weigh-set xs j v w e)

  pub term_le : (l : List A) (j : ℕ) (v : A) → get_elem? l j ≡ some v → g v ≤ weigh g l
  term_le [] j v e = absurd (some-ne-none v (sym e))
  term_le (x ∷ xs) zero v e = omega (arith, ap g (some-injective x v e))
  term_le (x ∷ xs) (suc j) v e = omega (arith, term_le xs j v e)

  pub terms_le : (l : List A) (j k : ℕ) (v u : A) → k ≢ j → get_elem? l j ≡ some v → get_elem? l k ≡ some u → g v + g u ≤ weigh g l
  terms_le [] j k v u n e d = absurd (some-ne-none v (sym e))
  terms_le (x ∷ xs) zero zero v u n e d = absurd (n refl)
  terms_le (x ∷ xs) zero (suc k) v u n e d = omega (arith, ap g (some-injective x v e), term_le xs k u d)
  terms_le (x ∷ xs) (suc j) zero v u n e d = omega (arith, ap g (some-injective x u d), term_le xs j v e)
  terms_le (x ∷ xs) (suc j) (suc k) v u n e d = omega (arith, terms_le xs j k v u (λ h. n (ap suc h)) e d)

  -- where the list has one, it weighs what one of them does, at least
  pub weigh-le : (h : A → ℕ) (l : List A) → ((j : ℕ) (v : A) → get_elem? l j ≡ some v → g v ≤ h v) → weigh g l ≤ weigh h l
  weigh-le h [] le = omega arith
  weigh-le h (x ∷ xs) le = omega (arith, le 0 x refl, weigh-le h xs (λ j v e. le (suc j) v e))

  pub weigh-lt : (h : A → ℕ) (l : List A) (i : ℕ) (u : A) → get_elem? l i ≡ some u → g u + 1 ≤ h u → ((j : ℕ) (v : A) → get_elem? l j ≡ some v → g v ≤ h v) → weigh g l + 1 ≤ weigh h l
  weigh-lt h [] i u e lt le = absurd (some-ne-none u (sym e))
  weigh-lt h (x ∷ xs) zero u e lt le = let lt' : g x + 1 ≤ h x = subst (λ (y : A). g y + 1 ≤ h y) (sym (some-injective x u e)) lt in omega (arith, weigh-le h xs (λ j v d. le (suc j) v d))
  weigh-lt h (x ∷ xs) (suc i) u e lt le = omega (arith, le 0 x refl, weigh-lt h xs i u e lt (λ j v d. le (suc j) v d))

  -- where each member weighs nothing, so does the list
  pub weigh-none : (l : List A) → ((j : ℕ) (v : A) → get_elem? l j ≡ some v → g v ≡ 0) → weigh g l ≡ 0
  weigh-none [] h = refl
  weigh-none (x ∷ xs) h = omega (arith, h 0 x refl, weigh-none xs (λ j v e. h (suc j) v e))

  -- where each other member weighs nothing, the list weighs what one of it does
  pub weigh-only : (l : List A) (i : ℕ) (v : A) → get_elem? l i ≡ some v → ((j : ℕ) (u : A) → j ≢ i → get_elem? l j ≡ some u → g u ≡ 0) → weigh g l ≡ g v
  weigh-only [] i v e h = absurd (some-ne-none v (sym e))
  weigh-only (x ∷ xs) zero v e h = omega (arith, ap g (some-injective x v e), weigh-none xs (λ j u d. h (suc j) u (λ q. omega arith) d))
  weigh-only (x ∷ xs) (suc i) v e h = omega (arith, h 0 x (λ q. omega arith) refl, weigh-only xs i v e (λ j u n d. h (suc j) u (λ q. n (omega arith)) d))

pub once-same : (k : ℕ) → once k k ≡ 1
once-same k = ap (λ b. cond b 1 0) (eq-eqb k k refl)

pub once-other : (j k : ℕ) → k ≢ j → once j k ≡ 0
once-other j k n = ap (λ b. cond b 1 0) (ne_eqb k j n)

-- the least node is a node
pub has_least : (k : ℕ) (ns : List ℕ) → get_or ns 0 0 ≡ k → 0 < length ns → 1 ≤ times k ns
has_least k [] e h = absurd (omega arith)
has_least k (n ∷ ns) e h = let one : once k n ≡ 1 = subst (λ (m : ℕ). once k m ≡ 1) (sym e) (once-same k) in omega arith

-- a list without its first k
pub times-without : (k : ℕ) (xs : List ℕ) → 1 ≤ times k xs → times k (without k xs) + 1 ≡ times k xs
times-without k [] h = absurd (omega arith)
times-without k (x ∷ xs) h =
    dite (ℕ_discrete x k)
    (λ e. subst (λ b. times k (cond b xs (x ∷ without k xs)) + 1 ≡ cond b 1 0 + times k xs) (sym (eq-eqb x k e)) (omega arith))
    (λ ne. subst (λ b. (1 ≤ cond b 1 0 + times k xs) → times k (cond b xs (x ∷ without k xs)) + 1 ≡ cond b 1 0 + times k xs) (sym (ne_eqb x k ne))
    (λ h'. let zero-here : once k x ≡ 0 = once-other k x ne in omega (arith, times-without k xs (omega arith))) h)

pub times-without_other : (j k : ℕ) (xs : List ℕ) → j ≢ k → times j (without k xs) ≡ times j xs
times-without_other j k [] n = refl
times-without_other j k (x ∷ xs) n =
    dite (ℕ_discrete x k)
    (λ e. let zero-here : once j x ≡ 0 = once-other j x (λ d. n (sym d ∙ e)) in subst (λ b. times j (cond b xs (x ∷ without k xs)) ≡ once j x + times j xs) (sym (eq-eqb x k e)) (omega arith))
    (λ ne. subst (λ b. times j (cond b xs (x ∷ without k xs)) ≡ once j x + times j xs) (sym (ne_eqb x k ne)) (omega (arith, times-without_other j k xs n)))

module _ {A : Type 0} where
  pub there : (l : List A) (i : ℕ) → i < length l → (a : A) × (get_elem? l i ≡ some a)
  there [] i h = absurd (omega arith)
  there (x ∷ xs) zero h = (x, refl)
  there (x ∷ xs) (suc i) h = there xs i (omega arith)

  pub within : (l : List A) (i : ℕ) (a : A) → get_elem? l i ≡ some a → i < length l
  within [] i a e = absurd (some-ne-none a (sym e))
  within (x ∷ xs) zero a e = omega arith
  within (x ∷ xs) (suc i) a e = omega (arith, within xs i a e)

pub times-without_le : (j k : ℕ) (xs : List ℕ) → times j (without k xs) ≤ times j xs
times-without_le j k [] = omega arith
times-without_le j k (x ∷ xs) =
    dite (ℕ_discrete x k)
    (λ e. subst (λ b. times j (cond b xs (x ∷ without k xs)) ≤ once j x + times j xs) (sym (eq-eqb x k e)) (omega arith))
    (λ ne. subst (λ b. times j (cond b xs (x ∷ without k xs)) ≤ once j x + times j xs) (sym (ne_eqb x k ne)) (omega (arith, times-without_le j k xs)))

pub weigh-one : {A : Type 0} (l : List A) → weigh (λ _. 1) l ≡ length l
weigh-one [] = refl
weigh-one (x ∷ xs) = omega (arith, weigh-one xs)

pub weigh-times : {A : Type 0} (g : A → ℕ) (l : List A) → weigh (λ x. g x * 4294967296) l ≡ weigh g l * 4294967296
weigh-times g [] = omega arith
weigh-times g (x ∷ xs) = omega (arith, weigh-times g xs)

-- two lists of one length, whose members weigh the same
pub weigh-alike : {A B : Type 0} (g : A → ℕ) (h : B → ℕ) (l : List A) (m : List B) → length l ≡ length m → ((k : ℕ) (a : A) (b : B) → get_elem? l k ≡ some a → get_elem? m k ≡ some b → g a ≡ h b) → weigh g l ≡ weigh h m
weigh-alike g h [] [] e same = refl
weigh-alike g h [] (y ∷ ys) e same = absurd (omega arith)
weigh-alike g h (x ∷ xs) [] e same = absurd (omega arith)
weigh-alike g h (x ∷ xs) (y ∷ ys) e same = omega (arith, same 0 x y refl refl, weigh-alike g h xs ys (omega arith) (λ k a b p q. same (suc k) a b p q))
