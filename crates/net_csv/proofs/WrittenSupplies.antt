-- The records of the supply are taken, and give the supply back.
use Rattle.std.specs.Prelude.{◌≡◌, ◌≢◌, ℕ, zero, suc, ◌+◌, ◌*◌, ◌/◌, ◌%◌, ◌<◌, ◌≤◌, ◌==◌, ◌&&◌, true, false, Option, Some, None, unwrap_or, List, [], ◌∷◌, ◌++◌, length, get_or, codes, decimal, if◌then◌else◌}
use Rattle.std.specs.List.{IsDistinct, AllByRecursion, filter_map, enumerate_from}
use Rattle.std.specs.Option.{option_or}
use Rattle.std.specs.Str.{bytes_eq}
use Rattle.std.proofs.Common.{refl, sym, ◌∙◌, inl, inr, arith, append_assoc}
use Rattle.std.proofs.Math.Nat.{div-lt_iff_lt-mul, mod-lt, div-add-mod}
use Rattle.std.proofs.lemmas.Bool.{cases_Bool}
use Rattle.std.proofs.lemmas.Bool.Decides.{nat_tests}
use Rattle.std.proofs.lemmas.List.{append-nil}
use Rattle.np_frac.specs.Ratio.{Ratio, zero_ratio}
use Rattle.np_frac.specs.Order.{ratio_eq, tests_true}
use Rattle.np_frac.specs.Amount.{is_amount}
use Rattle.np_records.specs.Names.{place_of}
use Rattle.net_csv.specs.declared.given.Given.{Given}
use Rattle.net_csv.specs.Network.{last_given}
use Rattle.net_csv.specs.Faults.{supply_fault}
use Rattle.net_csv.specs.Steps.Tables.{Tables, with_record}
use Rattle.net_csv.specs.AmountText.{amount_text}
use Rattle.np_model.specs.Scheme.Names.{name_at}
use Rattle.net_csv.specs.Writing.{supply_row}
use Rattle.net_csv.proofs.AmountTexts.{amount_text-value}
use Rattle.np_records.proofs.Places.{place-own}
use Rattle.net_csv.proofs.WrittenFields.{amount-fine, used-fine, period-fine, period-value}
use Rattle.net_csv.proofs.Runs.{IsStep, Runs, runs-step}

-- what the record of a supply gives, where the amount is not 0
abbrev pub gift : ℕ → ℕ × Ratio → Option Given
gift n (place, amount) = if ratio_eq amount zero_ratio then None else Some (record { node = place % n; period = Some (place / n + 1); amount = amount })

abbrev pub with_supplies : Tables → List Given → Tables
with_supplies t supplies = record t { supplies = supplies }

-- ---- a record

supply-fine : (periods period k : ℕ) (nodes : List (List ℕ)) (amount : Ratio) → place_of nodes (name_at nodes k) ≡ Some k → 1 ≤ period → period ≤ periods → periods ≤ 20000 → is_amount amount ≡ true
    → supply_fault periods nodes (codes "supply" ∷ name_at nodes k ∷ decimal period ∷ amount_text amount ∷ []) ≡ None
supply-fine periods period k nodes amount place low high few h = rw (used-fine nodes (name_at nodes k) k place, period-fine periods period low high few, amount-fine amount h) refl

supply-step : (t : Tables) (supplies : List Given) (period k : ℕ) (amount : Ratio) → place_of t.nodes (name_at t.nodes k) ≡ Some k → 1 ≤ period → period ≤ t.periods → t.periods ≤ 20000 → is_amount amount ≡ true
    → IsStep (with_supplies t supplies) (codes "supply" ∷ name_at t.nodes k ∷ decimal period ∷ amount_text amount ∷ [])
    × (with_record (with_supplies t supplies) (codes "supply" ∷ name_at t.nodes k ∷ decimal period ∷ amount_text amount ∷ [])
    ≡ with_supplies t (supplies ++ record { node = k; period = Some period; amount = amount } ∷ []))
supply-step t supplies period k amount place low high few h = (
  record { goes = refl; right = supply-fine t.periods period k t.nodes amount place low high few h },
  rw (place, period-value t.periods period low high few, amount_text-value amount h) refl,
)

-- a place of the supply is a node in a period
within-node : (place n : ℕ) → 0 < n → place % n < n
within-node place n h = mod-lt place h

within-period : (place n periods : ℕ) → 0 < n → place < periods * n → place / n < periods
within-period place n periods h few = (div-lt_iff_lt-mul h).1 few

pub some-node : (place periods n : ℕ) → place < periods * n → 0 < n
some-node place periods zero h = absurd (omega arith)
some-node place periods (suc n) h = omega arith

pub runs-supplies : (t : Tables) (supply : List Ratio) (place : ℕ) (supplies : List Given) → IsDistinct bytes_eq t.nodes → place + length supply ≤ t.periods * length t.nodes → t.periods ≤ 20000
    → AllByRecursion (λ amount. is_amount amount ≡ true) supply
    → Runs (with_supplies t supplies) (filter_map (supply_row t.nodes) (enumerate_from place supply)) (with_supplies t (supplies ++ filter_map (gift (length t.nodes)) (enumerate_from place supply)))
runs-supplies t [] place supplies d within few amounts = rw (append-nil supplies) refl
runs-supplies t (x ∷ xs) place supplies d within few amounts =
    let rest = λ (given : List Given). runs-supplies t xs (place + 1) given d (omega arith) few amounts.1 in
    elim (cases_Bool (ratio_eq x zero_ratio)) [
      | inl none ↦ rw none (rest supplies)
      | inr some ↦
          let n = length t.nodes in
          let nodes = some-node place t.periods n (omega arith) in
          let node = within-node place n nodes in
          let period = within-period place n t.periods nodes (omega arith) in
          let step = supply-step t supplies (place / n + 1) (place % n) x (place-own t.nodes (place % n) d node) (omega arith) (omega arith) few amounts.0 in
          let here : Given = record { node = place % n; period = Some (place / n + 1); amount = x } in
          let left = rest (supplies ++ here ∷ []) in
          rw some (runs-step _ _ _ _ _ step.0 step.1 (rw (append_assoc supplies (here ∷ []) (filter_map (gift n) (enumerate_from (place + 1) xs))) at left))
    ]

-- ---- what the records give

apart : (p q n : ℕ) → p ≢ q → ((p % n == q % n) && (p / n + 1 == q / n + 1)) ≡ false
apart p q n differ = elim (cases_Bool (p % n == q % n)) [
  | inl t ↦ elim (cases_Bool (p / n + 1 == q / n + 1)) [
    | inl u ↦
        let a = div-add-mod p n in
        let b = div-add-mod q n in
        let same : p % n ≡ q % n = grind (arith, nat_tests) in
        let by : p / n ≡ q / n = grind (arith, nat_tests) in
        absurd (differ (sym a ∙ rw (by, same) b))
    | inr f ↦ rw (t, f) refl
  ]
  | inr f ↦ rw f refl
]

-- no record of a later place covers it
given-none : (n : ℕ) (xs : List Ratio) (from place : ℕ) → place < from → last_given (filter_map (gift n) (enumerate_from from xs)) (place % n) (place / n + 1) ≡ None
given-none n [] from place h = refl
given-none n (x ∷ xs) from place h =
    let rest = given-none n xs (from + 1) place (omega arith) in
    elim (cases_Bool (ratio_eq x zero_ratio)) [
      | inl none ↦ rw none rest
      | inr some ↦ let other = apart from place n (λ e. omega arith) in rw (some, rest, other) refl
    ]

or-none : (o : Option Ratio) → option_or o None ≡ o
or-none None = refl
or-none (Some x) = refl

-- the amount at a place
pub given-at : (n : ℕ) (xs : List Ratio) (from place k : ℕ) → place ≡ from + k → k < length xs
    → unwrap_or (last_given (filter_map (gift n) (enumerate_from from xs)) (place % n) (place / n + 1)) zero_ratio ≡ get_or xs k zero_ratio
given-at n [] from place k e h = absurd (omega arith)
given-at n (x ∷ xs) from place zero e h =
    let same : place ≡ from = omega arith in
    let rest = given-none n xs (from + 1) from (omega arith) in
    elim (cases_Bool (ratio_eq x zero_ratio)) [
      | inl none ↦ rw (same, none, rest) (sym (tests_true x zero_ratio none))
      | inr some ↦
          let node : (from % n == from % n) ≡ true = grind (arith, nat_tests) in
          let period : (from / n + 1 == from / n + 1) ≡ true = grind (arith, nat_tests) in
          rw (same, some, rest, node, period) refl
    ]
given-at n (x ∷ xs) from place (suc k) e h =
    let rest = given-at n xs (from + 1) place k (omega arith) (omega arith) in
    elim (cases_Bool (ratio_eq x zero_ratio)) [
      | inl none ↦ rw none rest
      | inr some ↦
          let other = apart from place n (λ same. omega arith) in
          rw (some, other, or-none (last_given (filter_map (gift n) (enumerate_from (from + 1) xs)) (place % n) (place / n + 1))) rest
    ]
