-- The first fault of the records of a plan text.
use Rattle.std.specs.Prelude.{◌≡◌, ℕ, zero, suc, ◌+◌, ◌<◌, ◌≤◌, nat_lt, true, Option, Some, None, option_map, List, ◌∷◌, length}
use Rattle.std.specs.List.{range_with_len}
use Rattle.std.proofs.Common.{refl, ap, arith}
use Rattle.std.proofs.lemmas.Bool.Decides.{nat_tests}
use Rattle.certificates.specs.declared.refused.PlanCode.{PlanCode}
use Rattle.certificates.specs.declared.refused.PlanCode.TheVariants as code
use Rattle.certificates.specs.Claims.{Outline}
use Rattle.np_records.specs.Faults.{first_place, found}
use Rattle.certificates.specs.Grammar.{numbered, is_header, verdict_in, fault_at, plan_fault}

found-range : {Y : Type 0} (f : ℕ → Option Y) (from n k : ℕ) (y : Y) → k < n → ((i : ℕ) → i < k → f (from + i) ≡ None) → f (from + k) ≡ Some y → found f (range_with_len from n) ≡ Some y
found-range f from zero k y h none here = absurd (omega arith)
found-range f from (suc n) zero y h none here =
    let z : from + 0 ≡ from = omega arith in
    let first : f from ≡ Some y = rw z at here in
    rw first refl
found-range f from (suc n) (suc k) y h none here =
    let z : from + 0 ≡ from = omega arith in
    let first : f from ≡ None = rw z at (none 0 (omega arith)) in
    let s : from + suc k ≡ (from + 1) + k = omega arith in
    rw first (found-range f (from + 1) n k y (omega arith) (λ i l. let e : from + suc i ≡ (from + 1) + i = omega arith in rw e at (none (suc i) (omega arith))) (rw s at here))

found-nowhere : {Y : Type 0} (f : ℕ → Option Y) (from n : ℕ) → ((i : ℕ) → i < n → f (from + i) ≡ None) → found f (range_with_len from n) ≡ None
found-nowhere f from zero none = refl
found-nowhere f from (suc n) none =
    let z : from + 0 ≡ from = omega arith in
    let first : f from ≡ None = rw z at (none 0 (omega arith)) in
    rw first (found-nowhere f (from + 1) n (λ i l. let e : from + suc i ≡ (from + 1) + i = omega arith in rw e at (none (suc i) (omega arith))))

pub refuses-at : (skip : ℕ) (o : Outline) (rows : List (List (List ℕ))) (k at : ℕ) (c : PlanCode) → k ≤ length rows → ((i : ℕ) → i < k → fault_at o rows i ≡ None) → fault_at o rows k ≡ Some c
    → at ≡ skip + k + 1 → plan_fault skip o rows ≡ Some (at, c)
refuses-at skip o rows k at c h none here e =
    let first : first_place (fault_at o rows) (length rows + 1) ≡ Some (k, c) =
    found-range (λ place. option_map (λ c. (place, c)) (fault_at o rows place)) 0 (length rows + 1) k (k, c) (omega arith)
    (λ i l. let z : 0 + i ≡ i = omega arith in rw (z, none i l) refl) (let z : 0 + k ≡ k = omega arith in rw (z, here) refl) in
    rw e (ap (option_map (numbered skip)) first)

pub no-fault : (skip : ℕ) (o : Outline) (rows : List (List (List ℕ))) → ((i : ℕ) → i ≤ length rows → fault_at o rows i ≡ None) → plan_fault skip o rows ≡ None
no-fault skip o rows none =
    let first : first_place (fault_at o rows) (length rows + 1) ≡ None =
    found-nowhere (λ place. option_map (λ c. (place, c)) (fault_at o rows place)) 0 (length rows + 1)
    (λ i l. let z : 0 + i ≡ i = omega arith in rw (z, none i (omega arith)) refl) in
    ap (option_map (numbered skip)) first

-- the second record gives no verdict
pub verdict-refused : (skip : ℕ) (o : Outline) (rows : List (List (List ℕ))) (a b : List (List ℕ)) (left after : List (List (List ℕ))) → rows ≡ a ∷ left → left ≡ b ∷ after
    → is_header a ≡ true → verdict_in b ≡ None → plan_fault skip o rows ≡ Some (skip + 2, code.Header)
verdict-refused skip o rows a b left after first second header none =
    let all : rows ≡ a ∷ b ∷ after = rw second at first in
    let two : nat_lt 1 (length (a ∷ b ∷ after)) ≡ true = grind (arith, nat_tests) in
    let one : nat_lt 0 (length (a ∷ b ∷ after)) ≡ true = grind (arith, nat_tests) in
    let before : (i : ℕ) → i < 1 → fault_at o (a ∷ b ∷ after) i ≡ None = λ i h. let z : i ≡ 0 = omega arith in rw (z, one, header) refl in
    let here : fault_at o (a ∷ b ∷ after) 1 ≡ Some code.Header = rw (two, none) refl in
    rw all (refuses-at skip o (a ∷ b ∷ after) 1 (skip + 2) code.Header (omega arith) before here (omega arith))
