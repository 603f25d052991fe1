-- The plan texts, over the list of their records: the first fault, or the plan.
use Rattle.std.specs.Prelude.{◌≡◌, ℕ, ◌+◌, ◌-◌, ◌==◌, ◌&&◌, nat_lt, not, Bool, Option, Some, None, is_some, option_map, unwrap_or, List, [], length, map, codes, slice_get, if◌then◌else◌}
use Rattle.std.specs.List.{list_any}
use Rattle.std.specs.Option.{option_and_then}
use Rattle.std.specs.Str.{bytes_eq}
use Rattle.np_frac.specs.Ratio.{Ratio, zero_ratio}
use Rattle.np_records.specs.Records.{field_of}
use Rattle.np_model.specs.declared.scheme.Scheme.{Scheme}
use Rattle.np_model.specs.declared.plan.Verdict.{Verdict}
use Rattle.np_model.specs.Scheme.Verdicts.{parts_of}
use Rattle.np_model.specs.declared.rows.Overflow.{Overflow}
use Rattle.np_model.specs.declared.plan.Plan.{Plan}
use Rattle.np_model.specs.Scheme.Plans.{staged}
use Rattle.np_records.specs.Rows.{is_kind, row_at, body_before}
use Rattle.certificates.specs.declared.refused.PlanCode.{PlanCode}
use Rattle.certificates.specs.declared.refused.PlanCode.TheVariants as code
use Rattle.certificates.specs.Words.{verdict_of}
use Rattle.np_records.specs.Faults.{first_place, unless}
use Rattle.certificates.specs.Claims.{Outline, Claims, outline_of, place_with, claims_of}
use Rattle.certificates.specs.Faults.{record_fault, end_fault}

-- ---- the records at the head

-- the first record of a plan text
abbrev pub is_header : List (List ℕ) → Bool
is_header r = (length r == 2) && bytes_eq (field_of r 0) (codes "netplan-plan") && bytes_eq (field_of r 1) (codes "1")

-- the verdict that a record gives
abbrev pub verdict_in : List (List ℕ) → Option Verdict
verdict_in r = if (length r == 2) && is_kind r (codes "verdict") then verdict_of (field_of r 1) else None

-- ---- the body

-- the record that ends a plan text
abbrev pub is_end : List (List ℕ) → Bool
is_end r = is_kind r (codes "end")

-- a record of the body, where these stand before it
abbrev pub body_fault : Outline → Option Verdict → List (List (List ℕ)) → List (List ℕ) → Option PlanCode
body_fault o verdict before r =
    if list_any is_end before then Some code.AfterEnd
    else if is_end r then option_and_then (λ v. end_fault v (claims_of o before) r) verdict
    else record_fault o (claims_of o before) r

-- what is wrong at a place, from 0, where all records before it are right; behind the last record `end` is missing where it was not read
abbrev pub fault_at : Outline → List (List (List ℕ)) → ℕ → Option PlanCode
fault_at o rows place =
    let r = row_at rows place in
    if not (nat_lt place (length rows)) then unless (list_any is_end (body_before rows place)) code.NoEnd
    else if place == 0 then unless (is_header r) code.Header
    else if place == 1 then unless (is_some (verdict_in r)) code.Header
    else body_fault o (verdict_in (row_at rows 1)) (body_before rows place) r

-- a place, from 0, is that of a record with this number behind so many others
abbrev pub numbered : ℕ → ℕ × PlanCode → ℕ × PlanCode
numbered skip (place, c) = (skip + place + 1, c)

-- the number of the record with the first fault, where so many stand before the plan text, and the fault; None where there is none
abbrev pub plan_fault : ℕ → Outline → List (List (List ℕ)) → Option (ℕ × PlanCode)
plan_fault skip o rows = option_map (numbered skip) (first_place (fault_at o rows) (length rows + 1))

-- ---- the plan

-- the records between the head and `end`, which is the last one
abbrev pub body_of : List (List (List ℕ)) → List (List (List ℕ))
body_of rows = body_before rows (length rows - 1)

-- the amount for a place, 0 where none is given
abbrev pub amount_at : List (Option Ratio) → ℕ → Ratio
amount_at given place = unwrap_or (unwrap_or (slice_get given place) None) zero_ratio

-- the amounts of the staged arcs
abbrev pub staged_amounts : Scheme → List (Option Ratio) → List Ratio
staged_amounts scheme given = map (λ arc. amount_at given (place_with (length scheme.flows) arc.period arc.flow)) (staged scheme)

-- the amounts of the nodes in each period
abbrev pub node_amounts : List (Option Ratio) → List Ratio
node_amounts given = map (λ amount. unwrap_or amount zero_ratio) given

-- ---- the parts that a verdict prints; of the others its plan has nothing

-- a cost or a gap
abbrev pub claimed_amount : Verdict → Claims → Option Ratio
claimed_amount verdict claims = if (parts_of verdict).cost then claims.cost else if (parts_of verdict).gap then claims.gap else None

abbrev pub claimed_flows : Verdict → Scheme → Claims → List Ratio
claimed_flows verdict scheme claims = if (parts_of verdict).flows then staged_amounts scheme claims.flows else []

abbrev pub claimed_prices : Verdict → Claims → List Ratio
claimed_prices verdict claims = if (parts_of verdict).prices then node_amounts claims.prices else []

abbrev pub claimed_ray : Verdict → Scheme → Claims → List Ratio
claimed_ray verdict scheme claims = if (parts_of verdict).ray then staged_amounts scheme claims.ray else []

abbrev pub claimed_arc : Verdict → Claims → Option ℕ
claimed_arc verdict claims = if (parts_of verdict).arc then claims.arc else None

abbrev pub claimed_overflow : Verdict → Claims → Option Overflow
claimed_overflow verdict claims = if (parts_of verdict).overflow then claims.overflow else None

-- the plan with these claims
pub record IsMadeOf (scheme : Scheme) (claims : Claims) (plan : Plan) : Type 0 where
  pub amount : plan.amount ≡ claimed_amount plan.verdict claims
  pub flows : plan.flows ≡ claimed_flows plan.verdict scheme claims
  pub prices : plan.prices ≡ claimed_prices plan.verdict claims
  pub ray : plan.ray ≡ claimed_ray plan.verdict scheme claims
  pub arc : plan.arc ≡ claimed_arc plan.verdict claims
  pub overflow : plan.overflow ≡ claimed_overflow plan.verdict claims
  pub turned : plan.log.turned ≡ claims.turned
  pub entries : plan.log.entries ≡ claims.entries

-- the plan of a text without a fault
pub record IsPlanOf (scheme : Scheme) (rows : List (List (List ℕ))) (plan : Plan) : Type 0 where
  pub verdict : verdict_in (row_at rows 1) ≡ Some plan.verdict
  pub made : IsMadeOf scheme (claims_of (outline_of scheme) (body_of rows)) plan
