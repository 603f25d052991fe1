-- The arcs whose flows change.
use Rattle.std.specs.Prelude.{◌≡◌, ◌<◌, ◌≤◌, ◌⊎◌, ◌+◌, ℕ, zero, suc, Bool, true, false, List, [], ◌∷◌, ◌++◌, length, drop, slice_index_or, if◌then◌else◌}
use Rattle.std.proofs.Common.{refl, sym, ap, subst, ◌∙◌, inl, inr, arith, append_assoc}
use Rattle.np_frac.specs.Ratio.{Ratio}
use Rattle.np_frac.specs.Fits.{Fits}
use Rattle.np_model.specs.declared.arc.Ends.{Ends}
use Rattle.tree_search.proofs.Searches.{default}
use Rattle.tree_flows.specs.Along.{is_zero}
use Rattle.tree_flows.specs.Answers.{moving}

-- one arc more
pub moving_more : (basics : List (ℕ × Ends × Ratio)) (amounts : List Ratio) (place : ℕ) (b : ℕ × Ends × Ratio) (y : Ratio) (before after all : List (ℕ × Ratio)) → place < length basics → length amounts ≡ length basics
    → all ≡ before ++ moving (drop place basics) (drop place amounts)
    → after ≡ before ++ (if is_zero (slice_index_or amounts place y) then [] else ((slice_index_or basics place b).0, slice_index_or amounts place y) ∷ [])
    → all ≡ after ++ moving (drop (place + 1) basics) (drop (place + 1) amounts)
moving_more basics amounts place b y before after all l long e f =
    e ∙ ap (λ t. before ++ t) (step basics amounts place b y l long)
    ∙ sym (append_assoc before _ (moving (drop (place + 1) basics) (drop (place + 1) amounts)))
    ∙ ap (λ t. t ++ moving (drop (place + 1) basics) (drop (place + 1) amounts)) (sym f)
  where
    first : (b : ℕ × Ends × Ratio) (y : Ratio) (basics : List (ℕ × Ends × Ratio)) (amounts : List Ratio) (t : Bool)
        → (if t then moving basics amounts else (b.0, y) ∷ moving basics amounts) ≡ (if t then [] else (b.0, y) ∷ []) ++ moving basics amounts
    first b y basics amounts true = refl
    first b y basics amounts false = refl

    step : (basics : List (ℕ × Ends × Ratio)) (amounts : List Ratio) (place : ℕ) (b : ℕ × Ends × Ratio) (y : Ratio) → place < length basics → length amounts ≡ length basics
        → moving (drop place basics) (drop place amounts)
        ≡ (if is_zero (slice_index_or amounts place y) then [] else ((slice_index_or basics place b).0, slice_index_or amounts place y) ∷ []) ++ moving (drop (place + 1) basics) (drop (place + 1) amounts)
    step [] amounts place b y l long = absurd (omega arith)
    step (c ∷ basics) [] place b y l long = absurd (omega (arith, long))
    step (c ∷ basics) (z ∷ amounts) zero b y l long = first c z basics amounts (is_zero z)
    step (c ∷ basics) (z ∷ amounts) (suc place) b y l long =
        let e : place + 1 ≡ suc place = omega arith in
        let f : suc place + 1 ≡ suc (suc place) = omega arith in
        subst (λ n. moving (drop place basics) (drop place amounts)
        ≡ (if is_zero (slice_index_or amounts place y) then [] else ((slice_index_or basics place b).0, slice_index_or amounts place y) ∷ []) ++ moving (drop n (c ∷ basics)) (drop n (z ∷ amounts))) (sym f)
        (subst (λ n. moving (drop place basics) (drop place amounts)
        ≡ (if is_zero (slice_index_or amounts place y) then [] else ((slice_index_or basics place b).0, slice_index_or amounts place y) ∷ []) ++ moving (drop n basics) (drop n amounts)) e
        (step basics amounts place b y (omega arith) (omega (arith, long))))

-- one amount more fits
pub fit_more : (amounts : List Ratio) (place : ℕ) (y : Ratio) → y ≡ slice_index_or amounts place y → Fits y → ((i : ℕ) (d : Ratio) → i < place → Fits (slice_index_or amounts i d))
    → (i : ℕ) (d : Ratio) → i < place + 1 → place < length amounts → Fits (slice_index_or amounts i d)
fit_more amounts place y is f h i d l within = elim (cases i place) [
  | inl m ↦ h i d m
  | inr m ↦ (let e : i ≡ place = omega (arith, l, m) in subst (λ n. Fits (slice_index_or amounts n d)) (sym e) (subst Fits (is ∙ default amounts place y d within) f))
]
  where
    cases : (i j : ℕ) → (i < j) ⊎ (j ≤ i)
    cases i j = grind arith
