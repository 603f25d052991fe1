-- What was read of a text so far, and where reading stops.
use Rattle.std.specs.Prelude.{Bool, true, false, ◌≡◌, ℕ, ◌+◌, ◌-◌, ◌<◌, ◌≤◌, ⊤, Some, None, Result, Ok, Err, List, length, drop, if◌then◌else◌}
use Rattle.np_model.specs.declared.plan.Verdict.{Verdict}
use Rattle.certificates.specs.declared.refused.PlanRefused.{PlanRefused}
use Rattle.certificates.specs.declared.refused.PlanRefused.TheVariants as refused
use Rattle.certificates.specs.Claims.{Outline, Claims, claims_of}
use Rattle.certificates.specs.Faults.{record_fault, end_fault, is_complete}
use Rattle.certificates.specs.Steps.Claims.{with_record}
use Rattle.certificates.specs.Grammar.{is_header, verdict_in, is_end, body_of, fault_at, plan_fault}
use Rattle.np_records.specs.Rows.{body_before, row_at}
use Rattle.std.specs.List.{list_any}

-- what was found at a record with this number: whether it is `end`, or the fault
abbrev pub IsRowTaken : Result Bool PlanRefused → Outline → Verdict → Claims → Claims → List (List ℕ) → ℕ → Type 0
IsRowTaken (Ok true) o verdict old new r place = (is_end r ≡ true) × (end_fault verdict old r ≡ None) × (new ≡ old)
IsRowTaken (Ok false) o verdict old new r place = (is_end r ≡ false) × (record_fault o old r ≡ None) × (new ≡ with_record o old r)
IsRowTaken (Err (refused.Fault at c)) o verdict old new r place =
    (at ≡ place) × ((if is_end r then end_fault verdict old r else record_fault o old r) ≡ Some c)
IsRowTaken (Err refused.Memory) o verdict old new r place = ⊤

-- reading stops at this fault, or memory ran out
abbrev pub RefusesAt : PlanRefused → ℕ → Outline → List (List (List ℕ)) → Type 0
RefusesAt (refused.Fault place c) skip o rows = plan_fault skip o rows ≡ Some (place, c)
RefusesAt refused.Memory skip o rows = ⊤

-- the same at the two records of the head, whatever the plan may speak of
abbrev pub RefusesHead : PlanRefused → ℕ → List (List (List ℕ)) → Type 0
RefusesHead refused skip rows = (o : Outline) → RefusesAt refused skip o rows

-- the two records at the head are right
pub record IsHeadRead (rows after : List (List (List ℕ))) (verdict : Verdict) : Type 0 where
  pub header : is_header (row_at rows 0) ≡ true
  pub verdict_is : verdict_in (row_at rows 1) ≡ Some verdict
  pub two : 2 ≤ length rows
  pub left : after ≡ drop 2 rows

-- the text up to and with its `end` has no fault, and these are its claims
pub record IsTextRead (skip : ℕ) (o : Outline) (rows after : List (List (List ℕ))) (verdict : Verdict) (claims : Claims) (place : ℕ) : Type 0 where
  pub count : ℕ
  pub none : (i : ℕ) → i < count → fault_at o rows i ≡ None
  pub number : place ≡ skip + count
  pub size : count + length after ≡ length rows
  pub some : 3 ≤ count
  pub verdict_is : verdict_in (row_at rows 1) ≡ Some verdict
  pub ended : list_any is_end (body_before rows count) ≡ true
  pub claims_are : claims ≡ claims_of o (body_before rows (count - 1))
  pub complete : is_complete verdict claims ≡ true
  pub few : length claims.entries ≤ 1000000

-- the whole text has no fault
pub record IsWholeRead (skip : ℕ) (o : Outline) (rows : List (List (List ℕ))) (verdict : Verdict) (claims : Claims) : Type 0 where
  pub fault : plan_fault skip o rows ≡ None
  pub verdict_is : verdict_in (row_at rows 1) ≡ Some verdict
  pub claims_are : claims ≡ claims_of o (body_of rows)
  pub complete : is_complete verdict claims ≡ true
  pub few : length claims.entries ≤ 1000000
