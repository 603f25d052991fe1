-- Faults of the two records at the head.
use Rattle.std.specs.Prelude.{◌≡◌, ℕ, suc, zero, ◌<◌, ◌≤◌, ◌&&◌, nat_le, Some, None, List, [], ◌∷◌, length, true, nat_lt, codes}
use Rattle.std.proofs.Common.{refl, ◌∙◌, arith}
use Rattle.std.proofs.lemmas.Bool.{and_parts}
use Rattle.std.proofs.lemmas.Bool.Decides.{nat_tests}
use Rattle.net_csv.specs.declared.refused.Code.{Code}
use Rattle.net_csv.specs.declared.refused.Code.TheVariants as code
use Rattle.net_csv.specs.declared.refused.Refused.TheVariants as refused
use Rattle.np_records.specs.Faults.{unless}
use Rattle.np_frac.specs.Text.{number, is_number}
use Rattle.np_records.specs.Records.{field_of}
use Rattle.np_records.proofs.FaultFacts.{or-first, or-rest, unless-none}
use Rattle.net_csv.specs.declared.refused.Tail.{Tail}
use Rattle.net_csv.specs.Fields.{fields_fault}
use Rattle.np_records.specs.Rows.{is_period, is_kind}
use Rattle.net_csv.specs.Grammar.{is_header, periods_fault, fault_at, periods_in}
use Rattle.net_csv.specs.Steps.Reading.{IsHeadRead, RefusesAt}
use Rattle.net_csv.proofs.FirstPlaces.{refuses-at}

first-header : (tail : Tail) (a : List (List ℕ)) (rest : List (List (List ℕ))) → fault_at tail (a ∷ rest) 0 ≡ unless (is_header a) code.Header
first-header tail a rest = let there : nat_lt 0 (length (a ∷ rest)) ≡ true = grind (arith, nat_tests) in rw there refl

second-periods : (tail : Tail) (a b : List (List ℕ)) (rest : List (List (List ℕ))) → fault_at tail (a ∷ b ∷ rest) 1 ≡ periods_fault b
second-periods tail a b rest = let there : nat_lt 1 (length (a ∷ b ∷ rest)) ≡ true = grind (arith, nat_tests) in rw there refl

none-before-first : (rows : List (List (List ℕ))) (tail : Tail) (i : ℕ) → i < 0 → fault_at tail rows i ≡ None
none-before-first rows tail i h = absurd (omega arith)

none-before-second : (a : List (List ℕ)) (rest : List (List (List ℕ))) → unless (is_header a) code.Header ≡ None → (tail : Tail) (i : ℕ) → i < 1 → fault_at tail (a ∷ rest) i ≡ None
none-before-second a rest header tail zero h = first-header tail a rest ∙ header
none-before-second a rest header tail (suc i) h = absurd (omega arith)

-- two records at the head that are right have no fault
pub none-in-head : (a b : List (List ℕ)) (rest : List (List (List ℕ))) → unless (is_header a) code.Header ≡ None → periods_fault b ≡ None → (tail : Tail) (i : ℕ) → i < 2 → fault_at tail (a ∷ b ∷ rest) i ≡ None
none-in-head a b rest header second tail zero h = first-header tail a (b ∷ rest) ∙ header
none-in-head a b rest header second tail (suc zero) h = second-periods tail a b rest ∙ second
none-in-head a b rest header second tail (suc (suc i)) h = absurd (omega arith)

pub first-missing : RefusesAt (refused.Fault 1 code.NoEnd) []
first-missing = refuses-at [] 0 1 code.NoEnd (omega arith) (none-before-first []) (λ tail. refl) refl

pub header-refused : (rows left : List (List (List ℕ))) (a : List (List ℕ)) (c : Code) → rows ≡ a ∷ left → unless (is_header a) code.Header ≡ Some c → RefusesAt (refused.Fault 1 c) rows
header-refused rows left a c e fault = rw e (refuses-at (a ∷ left) 0 1 c (omega arith) (none-before-first (a ∷ left)) (λ tail. first-header tail a left ∙ fault) refl)

pub second-missing : (rows left : List (List (List ℕ))) (a : List (List ℕ)) → rows ≡ a ∷ left → left ≡ [] → unless (is_header a) code.Header ≡ None → RefusesAt (refused.Fault 2 code.NoEnd) rows
second-missing rows left a e f header = rw (e, f) (refuses-at (a ∷ []) 1 2 code.NoEnd (omega arith) (none-before-second a [] header) (λ tail. refl) refl)

pub periods-refused : (rows middle left : List (List (List ℕ))) (a b : List (List ℕ)) (c : Code) → rows ≡ a ∷ middle → middle ≡ b ∷ left
    → unless (is_header a) code.Header ≡ None → periods_fault b ≡ Some c → RefusesAt (refused.Fault 2 c) rows
periods-refused rows middle left a b c e f header fault =
    rw (e, f) (refuses-at (a ∷ b ∷ left) 1 2 c (omega arith) (none-before-second a (b ∷ left) header) (λ tail. second-periods tail a b left ∙ fault) refl)

-- the number of periods is one of a scheme
periods-within : (b : List (List ℕ)) → periods_fault b ≡ None → (1 ≤ number (field_of b 1)) × (number (field_of b 1) ≤ 20000)
periods-within b h =
    let all : is_period 20000 (field_of b 1) ≡ true = unless-none _ _ (or-first (unless (is_period 20000 (field_of b 1)) code.BadPeriod) None (or-rest (fields_fault 2 b) _ (or-rest (unless (is_kind b (codes "periods")) code.Header) _ h))) in
    let high = and_parts (is_number 9 (field_of b 1) && nat_le 1 (number (field_of b 1))) (nat_le (number (field_of b 1)) 20000) all in
    let low = and_parts (is_number 9 (field_of b 1)) (nat_le 1 (number (field_of b 1))) high.0 in
    (let a = low.1 in grind (arith, nat_tests), let a = high.1 in grind (arith, nat_tests))

pub head-right : (a b : List (List ℕ)) (left : List (List (List ℕ))) → unless (is_header a) code.Header ≡ None → periods_fault b ≡ None → IsHeadRead (a ∷ b ∷ left) left (periods_in (a ∷ b ∷ left))
head-right a b left header second =
    let within = periods-within b second in
    let low = within.0 in
    record {
      header = header;
      second = second;
      two = omega arith;
      left = refl;
      number = refl;
      some = omega arith;
      few = within.1;
    }
