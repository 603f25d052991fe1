-- One more record of a plan text, and what all records claim then.
use Rattle.std.specs.Prelude.{◌≡◌, ℕ, zero, suc, ◌+◌, ◌-◌, ◌*◌, ◌<◌, ◌≤◌, ◌==◌, ◌&&◌, nat_le, true, Option, Some, None, IsSome, is_some, unwrap_or, List, [], ◌∷◌, ◌++◌, length, codes, slice_get, if◌then◌else◌}
use Rattle.std.specs.Str.{bytes_eq}
use Rattle.std.specs.List.{All, filter_map, cons_option}
use Rattle.std.specs.Option.{option_or, option_to_list}
use Rattle.std.proofs.Common.{refl, ap, ◌∙◌, subst, inl, inr, arith}
use Rattle.std.proofs.lemmas.Bool.{cases_Bool}
use Rattle.std.proofs.lemmas.Bool.Decides.{nat_tests}
use Rattle.std.proofs.lemmas.List.Elements.{filter_map-append, All-head, All-tail}
use Rattle.std.proofs.lemmas.List.{length-append}
use Rattle.std.proofs.lemmas.Nat.{mul-add-lt}
use Rattle.np_frac.specs.Ratio.{Ratio}
use Rattle.np_frac.specs.Text.{number, is_number}
use Rattle.np_records.specs.Names.{place_of, place_in}
use Rattle.np_records.specs.Records.{field_of}
use Rattle.np_model.specs.declared.log.Entry.{Entry}
use Rattle.np_records.specs.Rows.{is_period, is_kind, whole_in}
use Rattle.np_records.proofs.Places.{place-is, place-within}
use Rattle.np_records.proofs.FieldFacts.{kind-is}
use Rattle.np_frac.proofs.TextTests.{and-left, and-right}
use Rattle.np_records.proofs.FaultFacts.{or-first, or-rest, unless-none}
use Rattle.certificates.specs.declared.refused.PlanCode.{PlanCode}
use Rattle.certificates.specs.declared.refused.PlanCode.TheVariants as code
use Rattle.np_records.specs.Faults.{unless, found}
use Rattle.certificates.specs.Fields.{fraction_in, overflow_in, entry_in, fields_fault, used_fault, period_fault, given_fault}
use Rattle.certificates.specs.Claims.{Outline, Claims, claims_of, of_kind, amounts_given}
use Rattle.certificates.specs.Faults.{once_fault, name_fault, put_fault, amount_fault, pivot_fault, is_free, is_next, place_named, last_for, record_fault}
use Rattle.certificates.specs.Steps.Claims.{IsOutline, part_after, with_amount, with_record}
use Rattle.certificates.proofs.Found.{found-same, found-new, listed-same, amounts-same, amounts-put, none-from}

-- ---- what a record without a fault has

last-of-three : (a b c : Option PlanCode) → option_or a (option_or b (option_or c None)) ≡ None → c ≡ None
last-of-three a b c h = or-first c None (or-rest b (option_or c None) (or-rest a (option_or b (option_or c None)) h))

once-free : {X Y : Type 0} (count : ℕ) (given : Option X) (before : Option Y) (r : List (List ℕ)) → once_fault count given before r ≡ None → before ≡ None
once-free count given before r h = none-from before (unless-none _ code.Repeated (last-of-three (fields_fault count r) (given_fault given) _ h))

used-some : (ns : List (List ℕ)) (n : List ℕ) → used_fault ns n ≡ None → IsSome (place_of ns n)
used-some ns n h = by (place_of ns n) h
  where
    by : (o : Option ℕ) → unless (is_some o) code.NoSuchName ≡ None → IsSome o
    by None e = absurd (cc e)
    by (Some x) e = refl

named-some : (names : List (List ℕ)) (last : ℕ) (given : List (Option Ratio)) (r : List (List ℕ)) → amount_fault names last given r ≡ None → IsSome (place_of names (field_of r 1))
named-some names last given r h =
    used-some names (field_of r 1) (or-first (used_fault names (field_of r 1)) None
    (or-rest (fields_fault 4 r) (option_or (used_fault names (field_of r 1)) None) (or-first (name_fault names r) (put_fault names last given r) h)))

in-period : (names : List (List ℕ)) (last : ℕ) (given : List (Option Ratio)) (r : List (List ℕ)) → amount_fault names last given r ≡ None → is_period last (field_of r 2) ≡ true
in-period names last given r h =
    unless-none (is_period last (field_of r 2)) code.BadPeriod (or-first (period_fault last (field_of r 2)) _ (or-rest (name_fault names r) (put_fault names last given r) h))

place-free : (names : List (List ℕ)) (last : ℕ) (given : List (Option Ratio)) (r : List (List ℕ)) → amount_fault names last given r ≡ None → is_free given (place_named names r) ≡ true
place-free names last given r h =
    unless-none (is_free given (place_named names r)) code.Repeated
    (last-of-three (period_fault last (field_of r 2)) (given_fault (fraction_in (field_of r 3))) _ (or-rest (name_fault names r) (put_fault names last given r) h))

-- the place is one of those of the names in the periods
place-inside : (names : List (List ℕ)) (last periods : ℕ) (given : List (Option Ratio)) (r : List (List ℕ)) → last ≤ periods → amount_fault names last given r ≡ None
    → place_named names r < periods * length names
place-inside names last periods given r few h =
    let p = in-period names last given r h in
    let low : nat_le 1 (number (field_of r 2)) ≡ true = and-right (is_number 9 (field_of r 2)) _ (and-left (is_number 9 (field_of r 2) && nat_le 1 (number (field_of r 2))) _ p) in
    let high : nat_le (number (field_of r 2)) last ≡ true = and-right (is_number 9 (field_of r 2) && nat_le 1 (number (field_of r 2))) _ p in
    let one : 1 ≤ number (field_of r 2) = grind (arith, nat_tests) in
    let most : number (field_of r 2) ≤ last = grind (arith, nat_tests) in
    let inside = mul-add-lt (number (field_of r 2) - 1) (length names) (place_in names (field_of r 1)) periods (omega arith) (place-within names (field_of r 1) (named-some names last given r h)) in
    omega arith

-- ---- the amounts grow

pub amounts-more : (word : List ℕ) (names : List (List ℕ)) (periods last : ℕ) (rows : List (List (List ℕ))) (r : List (List ℕ)) → is_kind r word ≡ true → last ≤ periods
    → amount_fault names last (amounts_given word names periods rows) r ≡ None
    → amounts_given word names periods (rows ++ r ∷ []) ≡ with_amount names (amounts_given word names periods rows) r
amounts-more word names periods last rows r kind few h =
    amounts-put word names periods (place_in names (field_of r 1)) (place_named names r) rows r kind
    (place-is names (field_of r 1) (named-some names last _ r h)) refl (place-inside names last periods _ r few h) (place-free names last _ r h)

cons-list : {X : Type 0} (o : Option X) → cons_option o [] ≡ option_to_list o
cons-list None = refl
cons-list (Some x) = refl

-- ---- the claims

module _ (rows : List (List (List ℕ))) (r : List (List ℕ)) where
  -- a part that is claimed at most once
  once-more : {X : Type 0} (word : List ℕ) (reads : List (List ℕ) → Option X) → (is_kind r word ≡ true → found (of_kind word reads) rows ≡ None)
      → found (of_kind word reads) (rows ++ r ∷ []) ≡ part_after word r (reads r) (found (of_kind word reads) rows)
  once-more word reads free = elim (cases_Bool (is_kind r word)) [
    | inl t ↦ rw t (found-new (of_kind word reads) rows r (reads r) (free t) (rw t refl))
    | inr f ↦ rw f (found-same (of_kind word reads) rows r (rw f refl))
  ]

  -- amounts
  given-more : (word : List ℕ) (names : List (List ℕ)) (periods last : ℕ) → last ≤ periods → (is_kind r word ≡ true → amount_fault names last (amounts_given word names periods rows) r ≡ None)
      → amounts_given word names periods (rows ++ r ∷ []) ≡ part_after word r (with_amount names (amounts_given word names periods rows) r) (amounts_given word names periods rows)
  given-more word names periods last few right = elim (cases_Bool (is_kind r word)) [
    | inl t ↦ rw t (amounts-more word names periods last rows r t few (right t))
    | inr f ↦ rw f (amounts-same word names periods rows r f)
  ]

  -- the pivots
  listed-more : {X : Type 0} (word : List ℕ) (reads : List (List ℕ) → Option X)
      → filter_map (of_kind word reads) (rows ++ r ∷ []) ≡ part_after word r (filter_map (of_kind word reads) rows ++ option_to_list (reads r)) (filter_map (of_kind word reads) rows)
  listed-more {X} word reads = elim (cases_Bool (is_kind r word)) [
    | inl t ↦ rw t (filter_map-append (of_kind word reads) rows (r ∷ []) ∙ rw t (ap (λ (l : List X). filter_map (of_kind word reads) rows ++ l) (cons-list (reads r))))
    | inr f ↦ rw f (listed-same (of_kind word reads) rows r (rw f refl))
  ]

-- the last period of a flow is one of those of the text
last-within : (xs : List ℕ) (most k : ℕ) → All (λ last. last ≤ most) xs → unwrap_or (slice_get xs k) 0 ≤ most
last-within [] most k h = omega arith
last-within (x ∷ xs) most zero h = All-head (λ last. last ≤ most) x xs h
last-within (x ∷ xs) most (suc k) h = last-within xs most k (All-tail (λ last. last ≤ most) x xs h)

claims-eq : (a b : Claims) → a.cost ≡ b.cost → a.gap ≡ b.gap → a.arc ≡ b.arc → a.overflow ≡ b.overflow → a.flows ≡ b.flows → a.prices ≡ b.prices → a.ray ≡ b.ray
    → a.turned ≡ b.turned → a.entries ≡ b.entries → a ≡ b
claims-eq a b cost gap arc overflow flows prices ray turned entries =
    let same : record { cost = a.cost; gap = a.gap; arc = a.arc; overflow = a.overflow; flows = a.flows; prices = a.prices; ray = a.ray; turned = a.turned; entries = a.entries }
    ≡ record { cost = b.cost; gap = b.gap; arc = b.arc; overflow = b.overflow; flows = b.flows; prices = b.prices; ray = b.ray; turned = b.turned; entries = b.entries } =
    rw (cost, gap, arc, overflow, flows, prices, ray, turned, entries) refl in
    same

-- what is wrong with a record, by its kind
abbrev fault_by : Outline → Claims → List (List ℕ) → List ℕ → Option PlanCode
fault_by o t r word =
    if bytes_eq word (codes "cost") then once_fault 2 (fraction_in (field_of r 1)) t.cost r
    else if bytes_eq word (codes "gap") then once_fault 2 (fraction_in (field_of r 1)) t.gap r
    else if bytes_eq word (codes "arc") then once_fault 2 (whole_in (field_of r 1)) t.arc r
    else if bytes_eq word (codes "past") then once_fault 6 (overflow_in r) t.overflow r
    else if bytes_eq word (codes "flow") then amount_fault o.flows (last_for o r) t.flows r
    else if bytes_eq word (codes "price") then amount_fault o.nodes o.periods t.prices r
    else if bytes_eq word (codes "ray") then amount_fault o.flows (last_for o r) t.ray r
    else if bytes_eq word (codes "turned") then once_fault 2 (whole_in (field_of r 1)) t.turned r
    else if bytes_eq word (codes "pivot") then pivot_fault (length t.entries) r
    else Some code.Unknown

by-kind : (o : Outline) (t : Claims) (r : List (List ℕ)) (word : List ℕ) → record_fault o t r ≡ None → is_kind r word ≡ true → fault_by o t r word ≡ None
by-kind o t r word h k =
    let same : fault_by o t r (field_of r 0) ≡ None = h in
    subst (λ (w : List ℕ). fault_by o t r w ≡ None) (kind-is r word k) same

pub claims-more : (o : Outline) (rows : List (List (List ℕ))) (r : List (List ℕ)) → IsOutline o → record_fault o (claims_of o rows) r ≡ None
    → claims_of o (rows ++ r ∷ []) ≡ with_record o (claims_of o rows) r
unfolding claims_of
claims-more o rows r out h =
    let t = claims_of o rows in
    let last = last-within o.last o.periods (place_in o.flows (field_of r 1)) out.within in
    claims-eq (claims_of o (rows ++ r ∷ [])) (with_record o t r)
    (once-more rows r (codes "cost") (λ x. fraction_in (field_of x 1)) (λ k. once-free 2 (fraction_in (field_of r 1)) t.cost r (by-kind o t r (codes "cost") h k)))
    (once-more rows r (codes "gap") (λ x. fraction_in (field_of x 1)) (λ k. once-free 2 (fraction_in (field_of r 1)) t.gap r (by-kind o t r (codes "gap") h k)))
    (once-more rows r (codes "arc") (λ x. whole_in (field_of x 1)) (λ k. once-free 2 (whole_in (field_of r 1)) t.arc r (by-kind o t r (codes "arc") h k)))
    (once-more rows r (codes "past") overflow_in (λ k. once-free 6 (overflow_in r) t.overflow r (by-kind o t r (codes "past") h k)))
    (given-more rows r (codes "flow") o.flows o.periods (last_for o r) last (by-kind o t r (codes "flow") h))
    (given-more rows r (codes "price") o.nodes o.periods o.periods (omega arith) (by-kind o t r (codes "price") h))
    (given-more rows r (codes "ray") o.flows o.periods (last_for o r) last (by-kind o t r (codes "ray") h))
    (once-more rows r (codes "turned") (λ x. whole_in (field_of x 1)) (λ k. once-free 2 (whole_in (field_of r 1)) t.turned r (by-kind o t r (codes "turned") h k)))
    (listed-more rows r (codes "pivot") entry_in)

-- ---- the pivots stay few

at-most-one : (e : Option Entry) → length (option_to_list e) ≤ 1
at-most-one None = omega arith
at-most-one (Some x) = omega arith

pivot-few : (entries : List Entry) (r : List (List ℕ)) → pivot_fault (length entries) r ≡ None → length (entries ++ option_to_list (entry_in r)) ≤ 1000000
pivot-few entries r h =
    let next : is_next (length entries) (field_of r 1) ≡ true = unless-none (is_next (length entries) (field_of r 1)) code.BadNumber (or-first _ _ (or-rest (fields_fault 5 r) _ h)) in
    let one : (number (field_of r 1) == length entries + 1) ≡ true = and-right (is_number 9 (field_of r 1)) _ (and-left (is_number 9 (field_of r 1) && (number (field_of r 1) == length entries + 1)) _ next) in
    let few : nat_le (number (field_of r 1)) 1000000 ≡ true = and-right (is_number 9 (field_of r 1) && (number (field_of r 1) == length entries + 1)) _ next in
    let same : number (field_of r 1) ≡ length entries + 1 = grind (arith, nat_tests) in
    let most : number (field_of r 1) ≤ 1000000 = grind (arith, nat_tests) in
    let all = length-append entries (option_to_list (entry_in r)) in
    let more = at-most-one (entry_in r) in
    omega arith

pub few-more : (o : Outline) (t : Claims) (r : List (List ℕ)) → length t.entries ≤ 1000000 → record_fault o t r ≡ None → length (with_record o t r).entries ≤ 1000000
few-more o t r few h = elim (cases_Bool (is_kind r (codes "pivot"))) [
  | inl k ↦ rw k (pivot-few t.entries r (by-kind o t r (codes "pivot") h k))
  | inr f ↦ rw f few
]
