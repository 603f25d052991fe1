-- The amounts of staged arcs and the prices are read back from the records that are written for them.
use Rattle.std.specs.Prelude.{◌≡◌, ℕ, zero, suc, ◌+◌, ◌-◌, ◌*◌, ◌/◌, ◌%◌, ◌<◌, ◌≤◌, Option, None, unwrap_or, List, [], ◌∷◌, length, map, get_or, replicate, codes, slice_get}
use Rattle.std.specs.List.{All, AllByRecursion, zip, enumerate_from, range_with_len}
use Rattle.std.proofs.Common.{refl, sym, ap, ◌∙◌, arith}
use Rattle.std.proofs.Math.Nat.{div-lt_iff_lt-mul, mod-lt}
use Rattle.std.proofs.lemmas.Nat.{div-add-mod'}
use Rattle.std.proofs.lemmas.List.{length-map, length-replicate, get_or-map}
use Rattle.std.proofs.lemmas.List.Elements.{recursion_from_All}
use Rattle.std.proofs.lemmas.List.FromFn.{fill_by_all}
use Rattle.std.proofs.lemmas.Slice.Zip.{firsts-zip, seconds-zip}
use Rattle.np_frac.specs.Ratio.{Ratio, zero_ratio}
use Rattle.np_frac.specs.Fits.{Fits}
use Rattle.np_model.specs.declared.scheme.Scheme.{Scheme}
use Rattle.np_model.specs.Scheme.Plans.{staged}
use Rattle.np_model.specs.Scheme.Segments.{Stage}
use Rattle.certificates.specs.Claims.{Claims, outline_of, place_with}
use Rattle.np_model.specs.Scheme.Names.{flow_names}
use Rattle.certificates.specs.Faults.{last_for}
use Rattle.certificates.specs.Grammar.{amount_at, staged_amounts, node_amounts}
use Rattle.certificates.specs.Writing.{staged_rows, price_rows}
use Rattle.certificates.proofs.AmountRows.{IsGiven, place_for, row_for, IsTaken, runs-amounts}
use Rattle.certificates.proofs.Found.{get-slice}
use Rattle.np_records.proofs.Places.{place-own}
use Rattle.certificates.proofs.Rising.{Rises, rises-range, filled, filled-length, filled-amounts}
use Rattle.certificates.proofs.Runs.{Runs}
use Rattle.certificates.proofs.StagedPlaces.{stage_place, IsArcOf, rises-staged, arcs-staged}

map-both : {X Y Z : Type 0} (f : Y → Z) (g : X → Y) (xs : List X) → map (λ x. f (g x)) xs ≡ map f (map g xs)
map-both f g [] = refl
map-both f g (x ∷ xs) = ap (λ zs. f (g x) ∷ zs) (map-both f g xs)

none-at : (o : Option Ratio) (n k : ℕ) → get_or (replicate n o) k o ≡ o
none-at o zero k = refl
none-at o (suc n) zero = refl
none-at o (suc n) (suc k) = none-at o n k

all-none : (given : List (Option Ratio)) (n : ℕ) → given ≡ replicate n None → (k : ℕ) → 0 ≤ k → get_or given k None ≡ None
all-none given n e k h = rw e (none-at None n k)

-- ---- the amounts of staged arcs

module _ (scheme : Scheme) (word : List ℕ) (amounts : List Ratio) (size : length amounts ≡ length (staged scheme)) (fits : All Fits amounts) where
  abbrev names : List (List ℕ)
  names = flow_names scheme.flows

  abbrev pairs : List (Stage × Ratio)
  pairs = zip (staged scheme) amounts

  abbrev flow_number : Stage × Ratio → ℕ
  flow_number x = x.0.flow

  abbrev arc_period : Stage × Ratio → ℕ
  arc_period x = x.0.period

  abbrev arc_amount : Stage × Ratio → Ratio
  arc_amount x = x.1

  abbrev arc_place : Stage × Ratio → ℕ
  arc_place = place_for names flow_number arc_period

  abbrev arc_row : Stage × Ratio → List (List ℕ)
  arc_row = row_for names flow_number arc_period arc_amount word

  abbrev arc_last : Stage × Ratio → ℕ
  arc_last x = last_for (outline_of scheme) (arc_row x)

  names-count : length names ≡ length scheme.flows
  names-count = length-map scheme.flows (λ flow. flow.name)

  places-are : map arc_place pairs ≡ map (stage_place (length scheme.flows)) (staged scheme)
  places-are =
      map-both (stage_place (length names)) (λ (x : Stage × Ratio). x.0) pairs
      ∙ rw (firsts-zip (staged scheme) amounts size, names-count) refl

  arcs-rise : Rises 0 (scheme.periods * length scheme.flows) (map arc_place pairs)
  arcs-rise = rw places-are (rises-staged scheme)

  last-of-row : (x : Stage × Ratio) → x.0.flow < length scheme.flows → arc_last x ≡ unwrap_or (slice_get (outline_of scheme).last x.0.flow) 0
  last-of-row x h = rw (place-own names x.0.flow scheme.valid.flow_names.distinct (rw names-count h)) refl

  abbrev IsArcGiven : Stage × Ratio → Type 0
  IsArcGiven x = IsGiven (length names) (arc_last x) x.0.flow x.0.period x.1

  abbrev IsArc : Stage → Type 0
  IsArc arc = IsArcOf (length scheme.flows) scheme.periods (outline_of scheme).last arc

  arc-given : (arc : Stage) (amount : Ratio) → IsArc arc → Fits amount → IsArcGiven (arc, amount)
  arc-given arc amount h f =
      let within = h.within in
      let few = scheme.valid.few_periods in
      record { named = rw names-count h.flow; low = h.low; high = rw (last-of-row (arc, amount) h.flow) h.high; few = omega arith; fits = f }

  pairs-given : (arcs : List Stage) (xs : List Ratio) → AllByRecursion IsArc arcs → AllByRecursion Fits xs → AllByRecursion IsArcGiven (zip arcs xs)
  pairs-given [] xs h f = tt
  pairs-given (a ∷ arcs) [] h f = tt
  pairs-given (a ∷ arcs) (x ∷ xs) h f = (arc-given a x h.0 f.0, pairs-given arcs xs h.1 f.1)

  arcs-given : AllByRecursion IsArcGiven pairs
  arcs-given = pairs-given (staged scheme) amounts (recursion_from_All IsArc (staged scheme) (arcs-staged scheme)) (recursion_from_All Fits amounts fits)

  -- these amounts with those of the arcs
  abbrev with_arcs : List (Option Ratio) → List (Option Ratio)
  with_arcs given = filled arc_place arc_amount given pairs

  arcs-back : (given : List (Option Ratio)) → length given ≡ scheme.periods * length scheme.flows → staged_amounts scheme (with_arcs given) ≡ amounts
  arcs-back given long =
      let put = with_arcs given in
      ap (λ (n : ℕ). map (λ arc. amount_at put (stage_place n arc)) (staged scheme)) (sym names-count)
      ∙ ap (map (λ arc. amount_at put (stage_place (length names) arc))) (sym (firsts-zip (staged scheme) amounts size))
      ∙ sym (map-both (λ arc. amount_at put (stage_place (length names) arc)) (λ (x : Stage × Ratio). x.0) pairs)
      ∙ filled-amounts arc_place arc_amount given pairs 0 (scheme.periods * length scheme.flows) long arcs-rise
      ∙ seconds-zip (staged scheme) amounts size

  -- from claims with no amounts of this kind
  runs-arcs : (put : List (Option Ratio) → Claims) → IsTaken names flow_number arc_period arc_amount word (outline_of scheme) put arc_last
      → (none : List (Option Ratio)) → none ≡ replicate (scheme.periods * length scheme.flows) None
      → (given : List (Option Ratio)) × Runs (outline_of scheme) (put none) (staged_rows word scheme amounts) (put given) × (staged_amounts scheme given ≡ amounts)
  runs-arcs put taken none e =
      let n = scheme.periods * length scheme.flows in (
        with_arcs none,
        runs-amounts names flow_number arc_period arc_amount word (outline_of scheme) put arc_last taken scheme.valid.flow_names.distinct none pairs 0 n
            arcs-rise (all-none none n e) arcs-given,
        arcs-back none (ap length e ∙ length-replicate n None),
      )

pub runs-flows : (scheme : Scheme) (t : Claims) (amounts : List Ratio) → length amounts ≡ length (staged scheme) → All Fits amounts
    → t.flows ≡ replicate (scheme.periods * length scheme.flows) None
    → (given : List (Option Ratio)) × Runs (outline_of scheme) t (staged_rows (codes "flow") scheme amounts) (record t { flows = given }) × (staged_amounts scheme given ≡ amounts)
runs-flows scheme t amounts size fits none =
    runs-arcs scheme (codes "flow") amounts size fits (λ given. record t { flows = given })
    (record { step = λ given x h. record { goes = refl; right = h }; next = λ given x. refl }) t.flows none

pub runs-ray : (scheme : Scheme) (t : Claims) (amounts : List Ratio) → length amounts ≡ length (staged scheme) → All Fits amounts
    → t.ray ≡ replicate (scheme.periods * length scheme.flows) None
    → (given : List (Option Ratio)) × Runs (outline_of scheme) t (staged_rows (codes "ray") scheme amounts) (record t { ray = given }) × (staged_amounts scheme given ≡ amounts)
runs-ray scheme t amounts size fits none =
    runs-arcs scheme (codes "ray") amounts size fits (λ given. record t { ray = given })
    (record { step = λ given x h. record { goes = refl; right = h }; next = λ given x. refl }) t.ray none

-- ---- the prices

module _ (scheme : Scheme) where
  abbrev count : ℕ
  count = length scheme.nodes

  abbrev node_number : ℕ × Ratio → ℕ
  node_number x = x.0 % count

  abbrev price_period : ℕ × Ratio → ℕ
  price_period x = x.0 / count + 1

  abbrev price_amount : ℕ × Ratio → Ratio
  price_amount x = x.1

  abbrev price_place : ℕ × Ratio → ℕ
  price_place = place_for scheme.nodes node_number price_period

  place-again : (k n : ℕ) → place_with n (k / n + 1) (k % n) ≡ k
  place-again k n = let e : k / n + 1 - 1 ≡ k / n = omega arith in rw e (div-add-mod' k n)

  price-places : (from : ℕ) (prices : List Ratio) → map price_place (enumerate_from from prices) ≡ range_with_len from (length prices)
  price-places from [] = refl
  price-places from (p ∷ ps) = rw (place-again from count, price-places (from + 1) ps) refl

  abbrev IsPriceGiven : ℕ × Ratio → Type 0
  IsPriceGiven x = IsGiven count scheme.periods (x.0 % count) (x.0 / count + 1) x.1

  some-node : (place periods n : ℕ) → place < periods * n → 0 < n
  some-node place periods zero h = absurd (omega arith)
  some-node place periods (suc n) h = omega arith

  price-given : (place : ℕ) (price : Ratio) → place < scheme.periods * count → Fits price → IsPriceGiven (place, price)
  price-given place price h f =
      let few = scheme.valid.few_periods in
      let some = some-node place scheme.periods count h in
      let period = (div-lt_iff_lt-mul some).1 h in
      record { named = mod-lt place some; low = omega arith; high = omega arith; few = omega arith; fits = f }

  prices-given : (from : ℕ) (prices : List Ratio) → from + length prices ≤ scheme.periods * count → AllByRecursion Fits prices → AllByRecursion IsPriceGiven (enumerate_from from prices)
  prices-given from [] h f = tt
  prices-given from (p ∷ ps) h f = (price-given from p (omega arith) f.0, prices-given (from + 1) ps (omega arith) f.1)

  -- these amounts with the prices
  abbrev with_prices : List (Option Ratio) → List Ratio → List (Option Ratio)
  with_prices given prices = filled price_place price_amount given (enumerate_from 0 prices)

  amounts-listed : (given : List (Option Ratio)) (n : ℕ) → length given ≡ n → node_amounts given ≡ map (amount_at given) (range_with_len 0 n)
  amounts-listed given n long =
      fill_by_all (amount_at given) (node_amounts given) n zero_ratio (length-map given (λ amount. unwrap_or amount zero_ratio) ∙ long)
      (λ k h. get_or-map (λ (amount : Option Ratio). unwrap_or amount zero_ratio) given k None zero_ratio (omega arith) ∙ ap (λ (o : Option Ratio). unwrap_or o zero_ratio) (sym (get-slice given k)))

  amounts-of : (from : ℕ) (prices : List Ratio) → map price_amount (enumerate_from from prices) ≡ prices
  amounts-of from [] = refl
  amounts-of from (p ∷ ps) = ap (λ xs. p ∷ xs) (amounts-of (from + 1) ps)

  prices-rise : (prices : List Ratio) → Rises 0 (length prices) (map price_place (enumerate_from 0 prices))
  prices-rise prices =
      let all : 0 + length prices ≡ length prices = omega arith in
      rw (price-places 0 prices) (rw all at (rises-range 0 (length prices)))

  prices-back : (given : List (Option Ratio)) (prices : List Ratio) → length given ≡ length prices → node_amounts (with_prices given prices) ≡ prices
  prices-back given prices long =
      let put = with_prices given prices in
      let pairs = enumerate_from 0 prices in
      amounts-listed put (length prices) (filled-length price_place price_amount given pairs ∙ long)
      ∙ ap (map (amount_at put)) (sym (price-places 0 prices))
      ∙ sym (map-both (amount_at put) price_place pairs)
      ∙ filled-amounts price_place price_amount given pairs 0 (length prices) long (prices-rise prices)
      ∙ amounts-of 0 prices

pub runs-prices : (scheme : Scheme) (t : Claims) (prices : List Ratio) → length prices ≡ length scheme.supply → All Fits prices
    → t.prices ≡ replicate (scheme.periods * length scheme.nodes) None
    → (given : List (Option Ratio)) × Runs (outline_of scheme) t (price_rows scheme prices) (record t { prices = given }) × (node_amounts given ≡ prices)
runs-prices scheme t prices size fits none =
    let n = scheme.periods * length scheme.nodes in
    let all : length prices ≡ n = size ∙ scheme.valid.one_each in
    let long : length t.prices ≡ length prices = ap length none ∙ length-replicate n None ∙ sym all in
    let taken : IsTaken scheme.nodes (node_number scheme) (price_period scheme) (price_amount scheme) (codes "price") (outline_of scheme) (λ given. record t { prices = given }) (λ x. scheme.periods) =
    record { step = λ given x h. record { goes = refl; right = h }; next = λ given x. refl } in (
      with_prices scheme t.prices prices,
      runs-amounts scheme.nodes (node_number scheme) (price_period scheme) (price_amount scheme) (codes "price") (outline_of scheme) (λ given. record t { prices = given }) (λ x. scheme.periods)
          taken scheme.valid.node_names.distinct t.prices (enumerate_from 0 prices) 0 (length prices) (prices-rise scheme prices)
          (all-none t.prices n none) (prices-given scheme 0 prices (omega arith) (recursion_from_All Fits prices fits)),
      prices-back scheme t.prices prices long,
    )
