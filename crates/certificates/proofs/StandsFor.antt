-- A plan text without a fault stands for a plan that fits the scheme.
use Rattle.std.specs.Prelude.{◌≡◌, ℕ, zero, suc, ◌+◌, ◌<◌, ◌≤◌, nat_lt, true, false, Option, Some, None, is_some, option_map, List, [], ◌∷◌, length, if◌then◌else◌}
use Rattle.std.specs.List.{range_with_len, list_any}
use Rattle.std.proofs.Common.{refl, sym, ◌∙◌, inl, inr, arith}
use Rattle.std.proofs.lemmas.Bool.{cases_Bool}
use Rattle.std.proofs.lemmas.Bool.Decides.{nat_tests}
use Rattle.std.proofs.lemmas.List.{take_all}
use Rattle.np_records.proofs.FaultFacts.{or-first, or-rest, unless-none}
use Rattle.np_model.specs.declared.plan.Verdict.{Verdict}
use Rattle.np_model.specs.declared.scheme.Scheme.{Scheme}
use Rattle.certificates.specs.declared.refused.PlanCode.TheVariants as code
use Rattle.certificates.specs.Claims.{Outline, Claims, claims_of, outline_of}
use Rattle.np_records.specs.Faults.{first_place, found}
use Rattle.certificates.specs.Faults.{record_fault, end_fault}
use Rattle.certificates.specs.Grammar.{numbered, is_end, is_header, verdict_in, fault_at, plan_fault, IsMadeOf}
use Rattle.np_records.specs.Rows.{body_before}
use Rattle.certificates.specs.Reading.{StandsForAPlan}
use Rattle.certificates.specs.Steps.Claims.{IsOutline, with_record}
use Rattle.certificates.specs.Steps.Texts.{IsHeadRead, IsTextRead, IsWholeRead}
use Rattle.certificates.proofs.OnePlan.{plan_with}
use Rattle.certificates.proofs.OutlineFacts.{outline-is}
use Rattle.certificates.proofs.PlanRead.{plan-read}
use Rattle.certificates.proofs.SoFar.{IsSoFar, so_far-size, so_far-fault, so_far-head, so_far-more, so_far-end, told-after, whole-read}

-- ---- no place has a fault

found-none : {Y : Type 0} (f : ℕ → Option Y) (from n : ℕ) → found f (range_with_len from n) ≡ None → (i : ℕ) → i < n → f (from + i) ≡ None
found-none f from zero h i l = absurd (omega arith)
found-none f from (suc n) h zero l =
    let z : from + 0 ≡ from = omega arith in
    rw z (or-first (f from) (found f (range_with_len (from + 1) n)) h)
found-none f from (suc n) h (suc i) l =
    let s : from + suc i ≡ (from + 1) + i = omega arith in
    rw s (found-none f (from + 1) n (or-rest (f from) (found f (range_with_len (from + 1) n)) h) i (omega arith))

map-none : {X Y : Type 0} (g : X → Y) (o : Option X) → option_map g o ≡ None → o ≡ None
map-none g None h = refl
map-none g (Some x) h = absurd (cc h)

-- at no place up to the one behind the last record
abbrev HasNoFault : Outline → List (List (List ℕ)) → Type 0
HasNoFault o rows = (i : ℕ) → i ≤ length rows → fault_at o rows i ≡ None

no-fault-at : (skip : ℕ) (o : Outline) (rows : List (List (List ℕ))) → plan_fault skip o rows ≡ None → HasNoFault o rows
no-fault-at skip o rows h i l =
    let z : 0 + i ≡ i = omega arith in
    let first = map-none (numbered skip) (first_place (fault_at o rows) (length rows + 1)) h in
    map-none (λ c. (i, c)) (fault_at o rows i) (rw z at (found-none (λ place. option_map (λ c. (place, c)) (fault_at o rows place)) 0 (length rows + 1) first i (omega arith)))

-- ---- the records are read to the end

-- what is read of a whole text: some claims
abbrev IsReadWhole : ℕ → Outline → List (List (List ℕ)) → Verdict → Type 0
IsReadWhole skip o rows verdict = (t : Claims) × IsWholeRead skip o rows verdict t

module _ (skip : ℕ) (o : Outline) (rows : List (List (List ℕ))) (verdict : Verdict) (out : IsOutline o) (whole : plan_fault skip o rows ≡ None) where
  -- `end` is the last record
  ended : (left : List (List (List ℕ))) (t : Claims) (place : ℕ) → IsTextRead skip o rows left verdict t place → IsReadWhole skip o rows verdict
  ended [] t place h = (t, whole-read skip o rows verdict t place h)
  ended (r ∷ after) t place h = absurd (let told : plan_fault skip o rows ≡ Some (place + 1, code.AfterEnd) = told-after skip o rows after r verdict t place (place + 1) h refl in cc (told, whole))

  read-on : (left : List (List (List ℕ))) (t : Claims) (place : ℕ) → IsSoFar skip o verdict rows left place t → list_any is_end left ≡ true → IsReadWhole skip o rows verdict
  read-on [] t place s some = absurd (cc some)
  read-on (r ∷ left) t place s some =
      let size = so_far-size skip o verdict rows (r ∷ left) place t s in
      let here : fault_at o rows (length s.before) ≡ None = no-fault-at skip o rows whole (length s.before) (omega arith) in
      let fine : (if is_end r then end_fault verdict t r else record_fault o t r) ≡ None = sym (so_far-fault skip o verdict rows left place t r s) ∙ here in
      elim (cases_Bool (is_end r)) [
        | inl e ↦ ended left t (place + 1) (so_far-end skip o verdict rows left place (place + 1) t r s refl e (rw e at fine))
        | inr f ↦ read-on left (with_record o t r) (place + 1) (so_far-more skip o verdict rows left place (place + 1) t (with_record o t r) r out s refl f (rw f at fine) refl) (rw f at some)
      ]

-- ---- the head

-- behind the last record `end` was read
end-read : (o : Outline) (rows : List (List (List ℕ))) → HasNoFault o rows → list_any is_end (body_before rows (length rows)) ≡ true
end-read o rows none =
    let out : nat_lt (length rows) (length rows) ≡ false = grind (arith, nat_tests) in
    let last = none (length rows) (omega arith) in
    unless-none (list_any is_end (body_before rows (length rows))) code.NoEnd (rw out at last)

some-is : {X : Type 0} (o : Option X) → is_some o ≡ true → (x : X) × (o ≡ Some x)
some-is None h = absurd (cc h)
some-is (Some x) h = (x, refl)

whole-text : (skip : ℕ) (o : Outline) (rows : List (List (List ℕ))) → IsOutline o → plan_fault skip o rows ≡ None → (v : Verdict) × IsReadWhole skip o rows v
whole-text skip o [] out h = absurd (let e = end-read o [] (no-fault-at skip o [] h) in cc e)
whole-text skip o (a ∷ []) out h = absurd (let e = end-read o (a ∷ []) (no-fault-at skip o (a ∷ []) h) in cc e)
whole-text skip o (a ∷ b ∷ rest) out h =
    let rows = a ∷ b ∷ rest in
    let none = no-fault-at skip o rows h in
    let there : nat_lt 0 (length rows) ≡ true = grind (arith, nat_tests) in
    let also : nat_lt 1 (length rows) ≡ true = grind (arith, nat_tests) in
    let first = none 0 (omega arith) in
    let second = none 1 (omega arith) in
    let header : is_header a ≡ true = unless-none (is_header a) code.Header (rw there at first) in
    let given : is_some (verdict_in b) ≡ true = unless-none (is_some (verdict_in b)) code.Header (rw also at second) in
    let verdict = some-is (verdict_in b) given in
    let head : IsHeadRead rows rest verdict.0 = record { header = header; verdict_is = verdict.1; two = omega arith; left = refl } in
    let start = so_far-head skip o verdict.0 rows rest (skip + 2) (claims_of o []) head refl refl in
    let all = end-read o rows none in
    (verdict.0, read-on skip o rows verdict.0 out h rest (claims_of o []) (skip + 2) start (rw (take_all (length rest) rest (omega arith)) at all))

-- ---- the plan

pub stands-for : (skip : ℕ) (scheme : Scheme) (rows : List (List (List ℕ))) → plan_fault skip (outline_of scheme) rows ≡ None → StandsForAPlan scheme rows
stands-for skip scheme rows h =
    let read = whole-text skip (outline_of scheme) rows (outline-is scheme) h in
    let plan = plan_with scheme read.1.0 read.0 in
    let made : IsMadeOf scheme read.1.0 plan = record { amount = refl; flows = refl; prices = refl; ray = refl; arc = refl; overflow = refl; turned = refl; entries = refl } in
    let is = plan-read skip scheme rows read.0 read.1.0 plan read.1.1 refl made in
    record { plan = plan; is_its_plan = is.1; fits = is.2 }
