-- The first place that has a fault.
use Rattle.std.specs.Prelude.{◌≡◌, ℕ, ◌+◌, ◌<◌, ◌≤◌, suc, zero, Option, Some, None, option_map, Result, Ok, Err, List, length}
use Rattle.std.specs.List.{range_with_len}
use Rattle.std.specs.Option.{option_or, option_map_or}
use Rattle.std.proofs.Common.{refl, sym, ◌∙◌, arith}
use Rattle.net_csv.specs.declared.refused.Code.{Code}
use Rattle.net_csv.specs.declared.refused.Refused.TheVariants as refused
use Rattle.net_csv.specs.declared.refused.Tail.{Tail}
use Rattle.np_records.specs.Faults.{found, first_place}
use Rattle.net_csv.specs.Grammar.{fault_at, text_fault, count_of, read_records}
use Rattle.net_csv.specs.Steps.Reading.{RefusesAt}

abbrev placed : {C : Type 0} → (ℕ → Option C) → ℕ → Option (ℕ × C)
placed f place = option_map (λ c. (place, c)) (f place)

found-at : {C : Type 0} (f : ℕ → Option C) (from n k : ℕ) (c : C) → k < n → ((i : ℕ) → i < k → f (from + i) ≡ None) → f (from + k) ≡ Some c → found (placed f) (range_with_len from n) ≡ Some (from + k, c)
found-at f from zero k c h none here = absurd (omega arith)
found-at f from (suc n) zero c h none here =
    let z : from + 0 ≡ from = omega arith in
    let fault : f from ≡ Some c = rw z at here in
    rw (z, fault) refl
found-at f from (suc n) (suc k) c h none here =
    let z : from + 0 ≡ from = omega arith in
    let first : f from ≡ None = rw z at (none 0 (omega arith)) in
    let s : from + suc k ≡ (from + 1) + k = omega arith in
    rw (first, s) (found-at f (from + 1) n k c (omega arith) (λ i l. let e : from + suc i ≡ (from + 1) + i = omega arith in rw e at (none (suc i) (omega arith))) (rw s at here))

found-none : {C : Type 0} (f : ℕ → Option C) (from n : ℕ) → ((i : ℕ) → i < n → f (from + i) ≡ None) → found (placed f) (range_with_len from n) ≡ None
found-none f from zero none = refl
found-none f from (suc n) none =
    let z : from + 0 ≡ from = omega arith in
    let first : f from ≡ None = rw z at (none 0 (omega arith)) in
    rw first (found-none f (from + 1) n (λ i l. let e : from + suc i ≡ (from + 1) + i = omega arith in rw e at (none (suc i) (omega arith))))

none-found : {C : Type 0} (f : ℕ → Option C) (from n k : ℕ) → found (placed f) (range_with_len from n) ≡ None → k < n → f (from + k) ≡ None
none-found f from zero k h l = absurd (omega arith)
none-found f from (suc n) zero h l =
    let z : from + 0 ≡ from = omega arith in
    rw z (first _ (f from) h)
  where
    first : {C : Type 0} (R : Option (ℕ × C)) (o : Option C) → option_or (option_map (λ c. (from, c)) o) R ≡ None → o ≡ None
    first R None e = refl
    first R (Some c) e = absurd (cc e)
none-found f from (suc n) (suc k) h l =
    let s : from + suc k ≡ (from + 1) + k = omega arith in
    rw s (none-found f (from + 1) n k (rest _ (f from) h) (omega arith))
  where
    rest : {C : Type 0} (R : Option (ℕ × C)) (o : Option C) → option_or (option_map (λ c. (from, c)) o) R ≡ None → R ≡ None
    rest R None e = e
    rest R (Some c) e = absurd (cc e)

pub first_place-at : {C : Type 0} (f : ℕ → Option C) (places k : ℕ) (c : C) → k < places → ((i : ℕ) → i < k → f i ≡ None) → f k ≡ Some c → first_place f places ≡ Some (k, c)
first_place-at f places k c h none here =
    let z : 0 + k ≡ k = omega arith in
    rw z at (found-at f 0 places k c h (λ i l. let e : 0 + i ≡ i = omega arith in rw e (none i l)) (rw z here))

pub first_place-none : {C : Type 0} (f : ℕ → Option C) (places : ℕ) → ((i : ℕ) → i < places → f i ≡ None) → first_place f places ≡ None
first_place-none f places none = found-none f 0 places (λ i l. let e : 0 + i ≡ i = omega arith in rw e (none i l))

pub none-first_place : {C : Type 0} (f : ℕ → Option C) (places k : ℕ) → first_place f places ≡ None → k < places → f k ≡ None
none-first_place f places k h l = let z : 0 + k ≡ k = omega arith in rw z at (none-found f 0 places k h l)

-- ---- a text

pub told-at : (tail : Tail) (rows : List (List (List ℕ))) (place : ℕ) (c : Code) → place ≤ length rows → ((i : ℕ) → i < place → fault_at tail rows i ≡ None) → fault_at tail rows place ≡ Some c
    → read_records tail rows ≡ Err (place + 1, c)
told-at tail rows place c h none here = let first = first_place-at (fault_at tail rows) (length rows + 1) place c (omega arith) none here in rw first refl

pub told-none : (tail : Tail) (rows : List (List (List ℕ))) → ((i : ℕ) → i ≤ length rows → fault_at tail rows i ≡ None) → read_records tail rows ≡ Ok (count_of rows)
told-none tail rows none = let first = first_place-none (fault_at tail rows) (length rows + 1) (λ i l. none i (omega arith)) in rw first refl

-- what a text that is read has at each place, and how many records it has
pub right-at : (tail : Tail) (rows : List (List (List ℕ))) (count place : ℕ) → read_records tail rows ≡ Ok count → place ≤ length rows → (fault_at tail rows place ≡ None) × (count ≡ count_of rows)
right-at tail rows count place told h = by (text_fault tail rows) _ told refl (λ e. none-first_place (fault_at tail rows) (length rows + 1) place e (omega arith))
  where
    by : {P : Type 0} (o : Option (ℕ × Code)) (r : Result ℕ (ℕ × Code)) → r ≡ Ok count → option_map_or (λ first. Err (first.0 + 1, first.1)) o (Ok (count_of rows)) ≡ r → (o ≡ None → P) → P × (count ≡ count_of rows)
    by None r k e go = (go refl, cc (sym k ∙ sym e))
    by (Some x) r k e go = absurd (cc (sym k ∙ sym e))

-- the first fault, whatever may stand behind `end`
pub refuses-at : (rows : List (List (List ℕ))) (place at : ℕ) (c : Code) → place ≤ length rows → ((tail : Tail) (i : ℕ) → i < place → fault_at tail rows i ≡ None)
    → ((tail : Tail) → fault_at tail rows place ≡ Some c) → at ≡ place + 1 → RefusesAt (refused.Fault at c) rows
refuses-at rows place at c h none fault e tail = rw e (told-at tail rows place c h (none tail) (fault tail))
