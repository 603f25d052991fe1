-- What stands behind `end`.
use Rattle.std.specs.Prelude.{◌≡◌, ℕ, suc, zero, ◌+◌, ◌<◌, ◌≤◌, ◌==◌, nat_lt, true, false, None, Ok, Err, List, [], ◌∷◌, length, drop}
use Rattle.std.proofs.Common.{refl, subst, inl, inr, arith}
use Rattle.std.proofs.lemmas.Bool.{cases_lt}
use Rattle.net_csv.proofs.FirstPlaces.{told-at, told-none}
use Rattle.std.proofs.lemmas.Bool.Decides.{nat_tests}
use Rattle.np_model.specs.declared.scheme.Scheme.{Scheme}
use Rattle.net_csv.specs.declared.refused.Code.TheVariants as code
use Rattle.net_csv.specs.declared.refused.Tail.{Tail}
use Rattle.net_csv.specs.declared.refused.Tail.TheVariants as tail
use Rattle.net_csv.specs.Grammar.{read_records, fault_at, after_fault, periods_in, body_of, IsSchemeOf}
use Rattle.net_csv.specs.Steps.Tables.{Tables, IsMadeOf, IsReady, tables_of}
use Rattle.net_csv.specs.Reading.{ReadsScheme}
use Rattle.net_csv.specs.Steps.Reading.{IsTextRead, IsWholeRead}

-- what is told behind `end`
behind : (tail : Tail) (rows after : List (List (List ℕ))) (t : Tables) (count place : ℕ) → IsTextRead rows after t count → count ≤ place → place < length rows → fault_at tail rows place ≡ after_fault tail
behind tail rows after t count place h past within =
    let size = h.records in
    let there : nat_lt place (length rows) ≡ true = grind (arith, nat_tests) in
    let not_first : (place == 0) ≡ false = grind (arith, nat_tests) in
    let not_second : (place == 1) ≡ false = grind (arith, nat_tests) in
    rw (there, not_first, not_second, h.ended place past) refl

at-last : (tail : Tail) (rows after : List (List (List ℕ))) (t : Tables) (count : ℕ) → IsTextRead rows after t count → fault_at tail rows (length rows) ≡ None
at-last tail rows after t count h =
    let out : nat_lt (length rows) (length rows) ≡ false = grind (arith, nat_tests) in
    rw (out, h.ended (length rows) h.within) refl

-- where nothing is wrong behind `end`, nothing is wrong
told-right : (tail : Tail) (rows after : List (List (List ℕ))) (t : Tables) (count : ℕ) → IsTextRead rows after t count
    → ((place : ℕ) → count ≤ place → place < length rows → fault_at tail rows place ≡ None) → read_records tail rows ≡ Ok count
told-right tail rows after t count h none = rw h.records (told-none tail rows (λ place l. elim (cases_lt place count) [
  | inl before ↦ h.right tail place before
  | inr past ↦ elim (cases_lt place (length rows)) [
    | inl within ↦ none place past within
    | inr out ↦ let last : place ≡ length rows = omega arith in rw last (at-last tail rows after t count h)
  ]
]))

pub told-plan : (rows after : List (List (List ℕ))) (t : Tables) (count : ℕ) → IsTextRead rows after t count → read_records tail.Plan rows ≡ Ok count
told-plan rows after t count h = told-right tail.Plan rows after t count h (λ place past within. behind tail.Plan rows after t count place h past within)

none-left : {X : Type 0} (k : ℕ) (xs : List X) → [] ≡ drop k xs → length xs ≤ k
none-left zero [] e = omega arith
none-left zero (x ∷ xs) e = absurd (cc e)
none-left (suc k) [] e = omega arith
none-left (suc k) (x ∷ xs) e = let h = none-left k xs e in omega arith

some-left : {X : Type 0} (k : ℕ) (xs ys : List X) (y : X) → y ∷ ys ≡ drop k xs → k < length xs
some-left zero [] ys y e = absurd (cc e)
some-left zero (x ∷ xs) ys y e = omega arith
some-left (suc k) [] ys y e = absurd (cc e)
some-left (suc k) (x ∷ xs) ys y e = let h = some-left k xs ys y e in omega arith

pub told-nothing : (rows : List (List (List ℕ))) (t : Tables) (count : ℕ) → IsTextRead rows [] t count → read_records tail.Nothing rows ≡ Ok count
told-nothing rows t count h =
    let short = none-left count rows h.left in
    told-right tail.Nothing rows [] t count h (λ place past within. absurd (omega arith))

-- the whole text

pub whole-plan : (rows after : List (List (List ℕ))) (t : Tables) (count : ℕ) → IsTextRead rows after t count → IsReady t → IsWholeRead tail.Plan rows t count
whole-plan rows after t count h ready = record { told = told-plan rows after t count h; tables = h.tables; ready = ready }

pub whole-nothing : (rows : List (List (List ℕ))) (t : Tables) (count : ℕ) → IsTextRead rows [] t count → IsReady t → IsWholeRead tail.Nothing rows t count
whole-nothing rows t count h ready = record { told = told-nothing rows t count h; tables = h.tables; ready = ready }

-- the scheme that is made of the tables of a text
pub scheme-of : (rows : List (List (List ℕ))) (tables : Tables) (scheme : Scheme) → tables ≡ tables_of (periods_in rows) (body_of rows) → IsMadeOf tables scheme → IsSchemeOf rows scheme
unfolding tables_of
scheme-of rows tables scheme e m =
    let made : IsMadeOf (tables_of (periods_in rows) (body_of rows)) scheme = subst (λ (t : Tables). IsMadeOf t scheme) e m in
    record { periods = made.periods; nodes = made.nodes; supply = made.supply; flows = made.flows }

-- the scheme that is made of its tables
pub scheme-read : (t : Tail) (rows : List (List (List ℕ))) (tables : Tables) (count : ℕ) (scheme : Scheme) → IsWholeRead t rows tables count → IsMadeOf tables scheme
    → ReadsScheme t rows (Ok (scheme, count))
scheme-read t rows tables count scheme h m = (h.told, scheme-of rows tables scheme h.tables m)

pub told-after : (rows after : List (List (List ℕ))) (r : List (List ℕ)) (t : Tables) (count : ℕ) → IsTextRead rows (r ∷ after) t count → read_records tail.Nothing rows ≡ Err (count + 1, code.AfterEnd)
told-after rows after r t count h =
    let long = some-left count rows after r h.left in
    told-at tail.Nothing rows count code.AfterEnd (omega arith) (h.right tail.Nothing) (behind tail.Nothing rows (r ∷ after) t count count h (omega arith) long)
