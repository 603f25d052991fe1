-- Places that rise, and amounts that are put at them one after the other.
use Rattle.std.specs.Prelude.{◌≡◌, ◌≢◌, ℕ, zero, suc, ◌+◌, ◌<◌, ◌≤◌, Option, Some, None, List, [], ◌∷◌, ◌++◌, length, map, set, get_or}
use Rattle.std.specs.List.{range_with_len}
use Rattle.std.proofs.Common.{refl, ◌∙◌, arith}
use Rattle.std.proofs.lemmas.List.{length-set, get_or-set_same, get_or-set_other}
use Rattle.np_frac.specs.Ratio.{Ratio}
use Rattle.certificates.specs.Grammar.{amount_at}
use Rattle.certificates.proofs.Found.{get-slice}

-- ---- places

-- the numbers rise strictly, from the first bound on and below the second
abbrev pub Rises : ℕ → ℕ → List ℕ → Type 0
Rises from bound [] = from ≤ bound
Rises from bound (p ∷ ps) = (from ≤ p) × Rises (p + 1) bound ps

pub rises-bound : (from bound : ℕ) (ps : List ℕ) → Rises from bound ps → from ≤ bound
rises-bound from bound [] h = h
rises-bound from bound (p ∷ ps) h =
    let rest = rises-bound (p + 1) bound ps h.1 in
    let here = h.0 in
    omega arith

pub rises-from : (low from bound : ℕ) (ps : List ℕ) → low ≤ from → Rises from bound ps → Rises low bound ps
rises-from low from bound [] l h = omega arith
rises-from low from bound (p ∷ ps) l h = (let here = h.0 in omega arith, h.1)

pub rises-append : (a b c : ℕ) (ps qs : List ℕ) → Rises a b ps → Rises b c qs → Rises a c (ps ++ qs)
rises-append a b c [] qs h k = rises-from a b c qs h k
rises-append a b c (p ∷ ps) qs h k = (h.0, rises-append (p + 1) b c ps qs h.1 k)

pub rises-range : (from count : ℕ) → Rises from (from + count) (range_with_len from count)
rises-range from zero = omega arith
rises-range from (suc n) =
    let e : from + suc n ≡ from + 1 + n = omega arith in
    (omega arith, rw e (rises-range (from + 1) n))

-- ---- amounts

module _ {X : Type 0} (place : X → ℕ) (amount : X → Ratio) where
  -- the amounts, once these are put at their places
  abbrev pub filled : List (Option Ratio) → List X → List (Option Ratio)
  filled given [] = given
  filled given (x ∷ xs) = filled (set given (place x) (Some (amount x))) xs

  pub filled-length : (given : List (Option Ratio)) (xs : List X) → length (filled given xs) ≡ length given
  filled-length given [] = refl
  filled-length given (x ∷ xs) = filled-length (set given (place x) (Some (amount x))) xs ∙ length-set given (place x) (Some (amount x))

  -- below the places nothing is put
  pub filled-before : (given : List (Option Ratio)) (xs : List X) (from bound k : ℕ) → Rises from bound (map place xs) → k < from → get_or (filled given xs) k None ≡ get_or given k None
  filled-before given [] from bound k h l = refl
  filled-before given (x ∷ xs) from bound k h l =
      let low = h.0 in
      let other : k ≢ place x = λ e. absurd (omega arith) in
      filled-before (set given (place x) (Some (amount x))) xs (place x + 1) bound k h.1 (omega arith) ∙ get_or-set_other given (place x) k (Some (amount x)) None other

  -- each place has its amount
  pub filled-amounts : (given : List (Option Ratio)) (xs : List X) (from bound : ℕ) → length given ≡ bound → Rises from bound (map place xs)
      → map (λ x. amount_at (filled given xs) (place x)) xs ≡ map amount xs
  filled-amounts given [] from bound long h = refl
  filled-amounts given (x ∷ xs) from bound long h =
      let next = set given (place x) (Some (amount x)) in
      let within = rises-bound (place x + 1) bound (map place xs) h.1 in
      let got =
      get-slice (filled next xs) (place x) ∙ filled-before next xs (place x + 1) bound (place x) h.1 (omega arith)
      ∙ get_or-set_same given (place x) (Some (amount x)) None (omega arith) in
      let rest = filled-amounts next xs (place x + 1) bound (length-set given (place x) (Some (amount x)) ∙ long) h.1 in
      rw (got, rest) refl
