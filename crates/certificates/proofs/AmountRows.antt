-- Records of amounts are taken one after the other, where their places rise.
use Rattle.std.specs.Prelude.{◌≡◌, ℕ, ◌+◌, ◌<◌, ◌≤◌, true, Option, Some, None, List, [], ◌∷◌, length, map, set, get_or, decimal}
use Rattle.std.specs.List.{AllByRecursion, IsDistinct}
use Rattle.std.specs.Str.{bytes_eq}
use Rattle.std.proofs.Common.{refl, ap, ◌∙◌, arith}
use Rattle.std.proofs.lemmas.List.{get_or-set_other}
use Rattle.np_frac.specs.Ratio.{Ratio}
use Rattle.np_frac.specs.Fits.{Fits}
use Rattle.np_frac.specs.Text.{printed}
use Rattle.np_records.specs.Rows.{is_period}
use Rattle.np_model.specs.Scheme.Names.{name_at}
use Rattle.np_records.proofs.NumberFacts.{period-is}
use Rattle.np_records.proofs.Places.{place-own}
use Rattle.certificates.specs.Claims.{Outline, Claims, place_with}
use Rattle.certificates.specs.Faults.{amount_fault}
use Rattle.certificates.specs.Steps.Claims.{with_amount, with_record}
use Rattle.certificates.proofs.Found.{get-slice}
use Rattle.certificates.proofs.Rising.{Rises, filled}
use Rattle.certificates.proofs.Runs.{IsStep, Runs}
use Rattle.certificates.proofs.WrittenWords.{decimal-number, number-back, fraction-back}

-- ---- periods

few-number : (n : ℕ) → n ≤ 20000 → n < 1000000000
few-number n h = omega arith

period-back : (last n : ℕ) → 1 ≤ n → n ≤ last → n ≤ 20000 → is_period last (decimal n) ≡ true
period-back last n low high few =
    let value = number-back n (omega arith) in
    period-is last (decimal n) (decimal-number n (omega arith)) (omega arith) (omega arith)

-- ---- a record

-- an amount for one of so many names, in a period up to the last one of that name
pub record IsGiven (count last number period : ℕ) (amount : Ratio) : Type 0 where
  pub named : number < count
  pub low : 1 ≤ period
  pub high : period ≤ last
  pub few : period ≤ 20000
  pub fits : Fits amount

abbrev pub given_row : List ℕ → List (List ℕ) → ℕ → ℕ → Ratio → List (List ℕ)
given_row word names number period amount = word ∷ name_at names number ∷ decimal period ∷ printed amount ∷ []

module _ (word : List ℕ) (names : List (List ℕ)) (last place period : ℕ) (amount : Ratio) (given : List (Option Ratio)) where
  fine : IsDistinct bytes_eq names → IsGiven (length names) last place period amount → get_or given (place_with (length names) period place) None ≡ None
      → amount_fault names last given (given_row word names place period amount) ≡ None
  fine d h free =
      let own = place-own names place d h.named in
      let within = period-back last period h.low h.high h.few in
      let free_slot = get-slice given (place_with (length names) period place) ∙ free in
      rw (own, within, fraction-back amount h.fits, number-back period (few-number period h.few), free_slot) refl

  takes : IsDistinct bytes_eq names → IsGiven (length names) last place period amount
      → with_amount names given (given_row word names place period amount) ≡ set given (place_with (length names) period place) (Some amount)
  takes d h = rw (place-own names place d h.named, number-back period (few-number period h.few), fraction-back amount h.fits) refl

-- ---- the records

module _ {X : Type 0} (names : List (List ℕ)) (number period : X → ℕ) where
  abbrev pub place_for : X → ℕ
  place_for x = place_with (length names) (period x) (number x)

module _ {X : Type 0} (names : List (List ℕ)) (number period : X → ℕ) (amount : X → Ratio) (word : List ℕ) where
  abbrev pub row_for : X → List (List ℕ)
  row_for x = given_row word names (number x) (period x) (amount x)

  -- a record without a fault is a step, from the claims with these amounts to those with its amount more
  pub record IsTaken (o : Outline) (put : List (Option Ratio) → Claims) (last : X → ℕ) : Type 0 where
    pub step : (given : List (Option Ratio)) (x : X) → amount_fault names (last x) given (row_for x) ≡ None → IsStep o (put given) (row_for x)
    pub next : (given : List (Option Ratio)) (x : X) → with_record o (put given) (row_for x) ≡ put (with_amount names given (row_for x))

  module _ (o : Outline) (put : List (Option Ratio) → Claims) (last : X → ℕ) (taken : IsTaken o put last) (distinct : IsDistinct bytes_eq names) where
    abbrev pub IsGivenFor : X → Type 0
    IsGivenFor x = IsGiven (length names) (last x) (number x) (period x) (amount x)

    pub runs-amounts : (given : List (Option Ratio)) (xs : List X) (from bound : ℕ) → Rises from bound (map (place_for names number period) xs)
        → ((k : ℕ) → from ≤ k → get_or given k None ≡ None) → AllByRecursion IsGivenFor xs
        → Runs o (put given) (map row_for xs) (put (filled (place_for names number period) amount given xs))
    runs-amounts given [] from bound rises free all = refl
    runs-amounts given (x ∷ xs) from bound rises free all =
        let place = place_for names number period x in
        let low = rises.0 in
        let fault = fine word names (last x) (number x) (period x) (amount x) given distinct all.0 (free place low) in
        let next = taken.next given x ∙ ap put (takes word names (last x) (number x) (period x) (amount x) given distinct all.0) in
        let still : (k : ℕ) → place + 1 ≤ k → get_or (set given place (Some (amount x))) k None ≡ None =
        λ k h. get_or-set_other given place k (Some (amount x)) None (λ e. absurd (omega arith)) ∙ free k (omega arith) in
        (taken.step given x fault, rw next (runs-amounts (set given place (Some (amount x))) xs (place + 1) bound rises.1 still all.1))
