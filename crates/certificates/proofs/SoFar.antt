-- Reading the records of a plan text, one by one.
use Rattle.std.specs.Prelude.{◌≡◌, ℕ, suc, zero, ◌+◌, ◌-◌, ◌<◌, ◌≤◌, ◌==◌, ◌||◌, nat_lt, Bool, true, false, Some, None, Err, List, [], ◌∷◌, ◌++◌, length, drop, slice_get, codes, if◌then◌else◌}
use Rattle.std.specs.List.{list_any}
use Rattle.std.proofs.Common.{refl, sym, ap, ◌∙◌, inl, inr, arith, append_assoc}
use Rattle.std.proofs.lemmas.Bool.{cases_eq}
use Rattle.std.proofs.lemmas.Bool.Decides.{nat_tests}
use Rattle.std.proofs.lemmas.List.{length_push, length-append, take_at}
use Rattle.np_model.specs.declared.plan.Verdict.{Verdict}
use Rattle.certificates.specs.declared.refused.PlanCode.{PlanCode}
use Rattle.certificates.specs.declared.refused.PlanCode.TheVariants as code
use Rattle.certificates.specs.declared.refused.PlanRefused.{PlanRefused}
use Rattle.certificates.specs.declared.refused.PlanRefused.TheVariants as refused
use Rattle.certificates.specs.Fields.{fields_fault}
use Rattle.certificates.specs.Claims.{Outline, Claims, claims_of}
use Rattle.certificates.specs.Faults.{record_fault, end_fault, is_complete}
use Rattle.certificates.specs.Grammar.{is_end, is_header, verdict_in, body_fault, fault_at}
use Rattle.np_records.specs.Rows.{row_at, body_before}
use Rattle.certificates.specs.Steps.Claims.{IsOutline, HasAmountPlaces, with_record}
use Rattle.certificates.specs.Steps.Texts.{IsHeadRead, IsTextRead, IsWholeRead, IsRowTaken, RefusesAt}
use Rattle.certificates.proofs.Found.{amounts-length}
use Rattle.np_records.proofs.FaultFacts.{or-first, or-rest, unless-none}
use Rattle.certificates.proofs.ClaimsMore.{claims-more, few-more}
use Rattle.certificates.proofs.FirstFault.{refuses-at, no-fault}

pub record IsSoFar (skip : ℕ) (o : Outline) (verdict : Verdict) (rows left : List (List (List ℕ))) (place : ℕ) (t : Claims) : Type 0 where
  pub before : List (List (List ℕ))
  pub whole : rows ≡ before ++ left
  pub number : place ≡ skip + length before
  pub two : 2 ≤ length before
  pub none : (i : ℕ) → i < length before → fault_at o rows i ≡ None
  pub going : list_any is_end (drop 2 before) ≡ false
  pub verdict_is : verdict_in (row_at rows 1) ≡ Some verdict
  pub claims : t ≡ claims_of o (drop 2 before)
  pub few : length t.entries ≤ 1000000

-- ---- the claims have their places

places-of : (o : Outline) (rows : List (List (List ℕ))) (t : Claims) → t ≡ claims_of o rows → length t.entries ≤ 1000000 → HasAmountPlaces o t
unfolding claims_of
places-of o rows t e few =
    record {
      flows = ap (λ (x : Claims). length x.flows) e ∙ amounts-length (codes "flow") o.flows o.periods rows;
      prices = ap (λ (x : Claims). length x.prices) e ∙ amounts-length (codes "price") o.nodes o.periods rows;
      ray = ap (λ (x : Claims). length x.ray) e ∙ amounts-length (codes "ray") o.flows o.periods rows;
      few = few;
    }

pub so_far-places : (skip : ℕ) (o : Outline) (verdict : Verdict) (rows left : List (List (List ℕ))) (place : ℕ) (t : Claims) → IsSoFar skip o verdict rows left place t → HasAmountPlaces o t
so_far-places skip o verdict rows left place t s = places-of o (drop 2 s.before) t s.claims s.few

-- ---- the head

head-none : (o : Outline) (verdict : Verdict) (a b : List (List ℕ)) (rest : List (List (List ℕ))) → is_header a ≡ true → verdict_in b ≡ Some verdict → (i : ℕ) → i < 2
    → fault_at o (a ∷ b ∷ rest) i ≡ None
head-none o verdict a b rest h v zero l = let there : nat_lt 0 (length (a ∷ b ∷ rest)) ≡ true = grind (arith, nat_tests) in rw (there, h) refl
head-none o verdict a b rest h v (suc zero) l = let there : nat_lt 1 (length (a ∷ b ∷ rest)) ≡ true = grind (arith, nat_tests) in rw (there, v) refl
head-none o verdict a b rest h v (suc (suc i)) l = absurd (omega arith)

no-entries : (o : Outline) → length (claims_of o []).entries ≡ 0
unfolding claims_of
no-entries o = refl

pub so_far-head : (skip : ℕ) (o : Outline) (verdict : Verdict) (rows left : List (List (List ℕ))) (place : ℕ) (t : Claims) → IsHeadRead rows left verdict → place ≡ skip + 2 → t ≡ claims_of o []
    → IsSoFar skip o verdict rows left place t
so_far-head skip o verdict [] left place t h at e = absurd (let two = h.two in omega arith)
so_far-head skip o verdict (a ∷ []) left place t h at e = absurd (let two = h.two in omega arith)
so_far-head skip o verdict (a ∷ b ∷ rest) left place t h at e =
    let none = no-entries o in
    record {
      before = a ∷ b ∷ [];
      whole = rw h.left refl;
      number = at;
      two = omega arith;
      none = head-none o verdict a b rest h.header h.verdict_is;
      going = refl;
      verdict_is = h.verdict_is;
      claims = e;
      few = rw e (omega arith);
    }

-- ---- a record

at-length : (before left : List (List (List ℕ))) (r : List (List ℕ)) → slice_get (before ++ r ∷ left) (length before) ≡ Some r
at-length [] left r = refl
at-length (b ∷ bs) left r = at-length bs left r

row-here : (before left : List (List (List ℕ))) (r : List (List ℕ)) → row_at (before ++ r ∷ left) (length before) ≡ r
row-here before left r = rw (at-length before left r) refl

body-here : (before left : List (List (List ℕ))) → body_before (before ++ left) (length before) ≡ drop 2 before
body-here before left = rw (take_at before left (length before) refl) refl

-- what the record behind these has
next-fault : (o : Outline) (verdict : Verdict) (before left : List (List (List ℕ))) (r : List (List ℕ)) → 2 ≤ length before → verdict_in (row_at (before ++ r ∷ left) 1) ≡ Some verdict
    → fault_at o (before ++ r ∷ left) (length before) ≡ body_fault o (Some verdict) (drop 2 before) r
next-fault o verdict before left r two v =
    let all = length-append before (r ∷ left) in
    let there : nat_lt (length before) (length (before ++ r ∷ left)) ≡ true = grind (arith, nat_tests) in
    let not_first : (length before == 0) ≡ false = grind (arith, nat_tests) in
    let not_second : (length before == 1) ≡ false = grind (arith, nat_tests) in
    rw (there, not_first, not_second, row-here before left r, body-here before (r ∷ left), v) (refl {a = body_fault o (Some verdict) (drop 2 before) r})

pub so_far-fault : (skip : ℕ) (o : Outline) (verdict : Verdict) (rows left : List (List (List ℕ))) (place : ℕ) (t : Claims) (r : List (List ℕ)) → (s : IsSoFar skip o verdict rows (r ∷ left) place t)
    → fault_at o rows (length s.before) ≡ (if is_end r then end_fault verdict t r else record_fault o t r)
so_far-fault skip o verdict rows left place t r s =
    let known = rw s.whole at s.verdict_is in
    let next : fault_at o rows (length s.before) ≡ body_fault o (Some verdict) (drop 2 s.before) r = rw s.whole (next-fault o verdict s.before left r s.two known) in
    let last : body_fault o (Some verdict) (drop 2 s.before) r ≡ (if is_end r then end_fault verdict t r else record_fault o t r) = rw (s.going, sym s.claims) refl in
    next ∙ last

pub so_far-size : (skip : ℕ) (o : Outline) (verdict : Verdict) (rows left : List (List (List ℕ))) (place : ℕ) (t : Claims) → (s : IsSoFar skip o verdict rows left place t) → length s.before + length left ≡ length rows
so_far-size skip o verdict rows left place t s =
    let all = length-append s.before left in
    rw s.whole (omega arith)

pub so_far-refused : (skip : ℕ) (o : Outline) (verdict : Verdict) (rows left : List (List (List ℕ))) (place at : ℕ) (t : Claims) (r : List (List ℕ)) (c : PlanCode)
    → IsSoFar skip o verdict rows (r ∷ left) place t → at ≡ place + 1
    → (if is_end r then end_fault verdict t r else record_fault o t r) ≡ Some c → RefusesAt (refused.Fault at c) skip o rows
so_far-refused skip o verdict rows left place at t r c s e fault =
    let size = so_far-size skip o verdict rows (r ∷ left) place t s in
    let number = s.number in
    refuses-at skip o rows (length s.before) at c (omega arith) s.none (so_far-fault skip o verdict rows left place t r s ∙ fault) (omega arith)

-- what taking a row answered
pub row-refused : (why : PlanRefused) (skip : ℕ) (o : Outline) (verdict : Verdict) (rows left : List (List (List ℕ))) (place at : ℕ) (t u : Claims) (r : List (List ℕ))
    → IsSoFar skip o verdict rows (r ∷ left) place t → at ≡ place + 1 → IsRowTaken (Err why) o verdict t u r at → RefusesAt why skip o rows
row-refused (refused.Fault k c) skip o verdict rows left place at t u r s e h = so_far-refused skip o verdict rows left place k t r c s (h.0 ∙ e) h.1
row-refused refused.Memory skip o verdict rows left place at t u r s e h = tt

pub so_far-no_end : (skip : ℕ) (o : Outline) (verdict : Verdict) (rows : List (List (List ℕ))) (place at : ℕ) (t : Claims) → IsSoFar skip o verdict rows [] place t → at ≡ place + 1
    → RefusesAt (refused.Fault at code.NoEnd) skip o rows
so_far-no_end skip o verdict rows place at t s e =
    let size = so_far-size skip o verdict rows [] place t s in
    let number = s.number in
    let out : nat_lt (length s.before) (length rows) ≡ false = grind (arith, nat_tests) in
    let body : body_before rows (length s.before) ≡ drop 2 s.before = rw s.whole (body-here s.before []) in
    refuses-at skip o rows (length s.before) at code.NoEnd (omega arith) s.none (rw (out, body, s.going) refl) (omega arith)

drop-push : (before : List (List (List ℕ))) (r : List (List ℕ)) → 2 ≤ length before → drop 2 (before ++ r ∷ []) ≡ drop 2 before ++ r ∷ []
drop-push [] r h = absurd (omega arith)
drop-push (a ∷ []) r h = absurd (omega arith)
drop-push (a ∷ b ∷ rest) r h = refl

or-false : (b : Bool) → (b || false) ≡ b
or-false true = refl
or-false false = refl

or-or : (a b c : Bool) → (a || (b || c)) ≡ ((a || b) || c)
or-or true b c = refl
or-or false b c = refl

any-push : {X : Type 0} (p : X → Bool) (xs : List X) (x : X) → list_any p (xs ++ x ∷ []) ≡ (list_any p xs || p x)
any-push p [] x = or-false (p x)
any-push p (y ∷ ys) x = ap (λ b. p y || b) (any-push p ys x) ∙ or-or (p y) (list_any p ys) (p x)

-- the faults of the records so far and of one more
none-more : (o : Outline) (rows : List (List (List ℕ))) (k : ℕ) → ((i : ℕ) → i < k → fault_at o rows i ≡ None) → fault_at o rows k ≡ None → (i : ℕ) → i < k + 1 → fault_at o rows i ≡ None
none-more o rows k none here i h = elim (cases_eq i k) [
  | inl last ↦ rw last here
  | inr other ↦ none i (omega arith)
]

pub so_far-more : (skip : ℕ) (o : Outline) (verdict : Verdict) (rows left : List (List (List ℕ))) (place at : ℕ) (t u : Claims) (r : List (List ℕ)) → IsOutline o
    → IsSoFar skip o verdict rows (r ∷ left) place t → at ≡ place + 1
    → is_end r ≡ false → record_fault o t r ≡ None → u ≡ with_record o t r → IsSoFar skip o verdict rows left at u
so_far-more skip o verdict rows left place at t u r out s e goes fine made =
    let more = length_push s.before r in
    let number = s.number in
    let two = s.two in
    let here : fault_at o rows (length s.before) ≡ None = so_far-fault skip o verdict rows left place t r s ∙ rw (goes, fine) refl in
    let grown = drop-push s.before r two in
    let right = rw s.claims at fine in
    record {
      before = s.before ++ r ∷ [];
      whole = s.whole ∙ sym (append_assoc s.before (r ∷ []) left);
      number = omega arith;
      two = omega arith;
      none = λ i h. none-more o rows (length s.before) s.none here i (omega arith);
      going = ap (list_any is_end) grown ∙ any-push is_end (drop 2 s.before) r ∙ rw (s.going, goes) refl;
      verdict_is = s.verdict_is;
      claims = made ∙ ap (λ (x : Claims). with_record o x r) s.claims ∙ sym (claims-more o (drop 2 s.before) r out right) ∙ ap (claims_of o) (sym grown);
      few = rw made (few-more o t r s.few fine);
    }

pub so_far-end : (skip : ℕ) (o : Outline) (verdict : Verdict) (rows left : List (List (List ℕ))) (place at : ℕ) (t : Claims) (r : List (List ℕ))
    → IsSoFar skip o verdict rows (r ∷ left) place t → at ≡ place + 1
    → is_end r ≡ true → end_fault verdict t r ≡ None → IsTextRead skip o rows left verdict t at
so_far-end skip o verdict rows left place at t r s e end fine =
    let size = so_far-size skip o verdict rows (r ∷ left) place t s in
    let number = s.number in
    let two = s.two in
    let here : fault_at o rows (length s.before) ≡ None = so_far-fault skip o verdict rows left place t r s ∙ rw (end, fine) refl in
    let grown = drop-push s.before r two in
    let more = length_push s.before r in
    let all : rows ≡ (s.before ++ r ∷ []) ++ left = s.whole ∙ sym (append_assoc s.before (r ∷ []) left) in
    let taken : body_before rows (length s.before + 1) ≡ drop 2 s.before ++ r ∷ [] = rw (all, sym more) (body-here (s.before ++ r ∷ []) left) ∙ grown in
    let less : length s.before + 1 - 1 ≡ length s.before = omega arith in
    let body : body_before rows (length s.before) ≡ drop 2 s.before = rw s.whole (body-here s.before (r ∷ left)) in
    record {
      count = length s.before + 1;
      none = none-more o rows (length s.before) s.none here;
      number = omega arith;
      size = omega arith;
      some = omega arith;
      verdict_is = s.verdict_is;
      ended = ap (list_any is_end) taken ∙ any-push is_end (drop 2 s.before) r ∙ rw (s.going, end) refl;
      claims_are = s.claims ∙ ap (claims_of o) (sym (rw less body));
      complete = unless-none (is_complete verdict t) code.Missing (or-first _ None (or-rest (fields_fault 1 r) _ fine));
      few = s.few;
    }

-- ---- behind `end`

pub told-after : (skip : ℕ) (o : Outline) (rows after : List (List (List ℕ))) (r : List (List ℕ)) (verdict : Verdict) (t : Claims) (place at : ℕ) → IsTextRead skip o rows (r ∷ after) verdict t place
    → at ≡ place + 1 → RefusesAt (refused.Fault at code.AfterEnd) skip o rows
told-after skip o rows after r verdict t place at h e =
    let size = h.size in
    let some = h.some in
    let number = h.number in
    let there : nat_lt h.count (length rows) ≡ true = grind (arith, nat_tests) in
    let not_first : (h.count == 0) ≡ false = grind (arith, nat_tests) in
    let not_second : (h.count == 1) ≡ false = grind (arith, nat_tests) in
    refuses-at skip o rows h.count at code.AfterEnd (omega arith) h.none (rw (there, not_first, not_second, h.ended) refl) (omega arith)

pub whole-read : (skip : ℕ) (o : Outline) (rows : List (List (List ℕ))) (verdict : Verdict) (t : Claims) (place : ℕ) → IsTextRead skip o rows [] verdict t place → IsWholeRead skip o rows verdict t
whole-read skip o rows verdict t place h =
    let size = h.size in
    let out : nat_lt h.count (length rows) ≡ false = grind (arith, nat_tests) in
    let beyond : fault_at o rows h.count ≡ None = rw (out, h.ended) refl in
    let last : h.count - 1 ≡ length rows - 1 = omega arith in
    record {
      fault = no-fault skip o rows (λ i l. none-more o rows h.count h.none beyond i (omega arith));
      verdict_is = h.verdict_is;
      claims_are = rw last at h.claims_are;
      complete = h.complete;
      few = h.few;
    }
