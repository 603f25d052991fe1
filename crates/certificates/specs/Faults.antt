-- What is wrong with a record of a plan text, where these are the claims of those before it. The tests are made in the order in which
-- they stand here, and the first that fails tells the fault.
use Rattle.std.specs.Prelude.{ℕ, ◌+◌, ◌==◌, ◌&&◌, ◌||◌, nat_le, not, Bool, Option, Some, None, is_some, unwrap_or, List, [], ◌∷◌, length, codes, slice_get, if◌then◌else◌}
use Rattle.std.specs.Option.{option_or}
use Rattle.np_frac.specs.Ratio.{Ratio}
use Rattle.np_frac.specs.Text.{number, is_number}
use Rattle.np_records.specs.Records.{field_of}
use Rattle.np_model.specs.declared.plan.Verdict.{Verdict}
use Rattle.np_model.specs.Scheme.Verdicts.{parts_of}
use Rattle.np_records.specs.Names.{place_in}
use Rattle.np_records.specs.Rows.{is_kind, whole_in}
use Rattle.certificates.specs.declared.refused.PlanCode.{PlanCode}
use Rattle.certificates.specs.declared.refused.PlanCode.TheVariants as code
use Rattle.np_records.specs.Faults.{unless, first_fault}
use Rattle.certificates.specs.Fields.{fields_fault, used_fault, period_fault, given_fault, fraction_in, overflow_in, entry_in}
use Rattle.certificates.specs.Claims.{Outline, Claims, place_with}

-- a record that may stand once, with so many fields, which gives something
abbrev pub once_fault : {X Y : Type 0} → ℕ → Option X → Option Y → List (List ℕ) → Option PlanCode
once_fault count given before r =
    first_fault (
    fields_fault count r
    ∷ given_fault given
    ∷ unless (not (is_some before)) code.Repeated
    ∷ [])

-- the place that a record names among these names
abbrev pub place_named : List (List ℕ) → List (List ℕ) → ℕ
place_named names r = place_with (length names) (number (field_of r 2)) (place_in names (field_of r 1))

-- nothing was given at a place
abbrev pub is_free : List (Option Ratio) → ℕ → Bool
is_free given place = not (is_some (unwrap_or (slice_get given place) None))

-- a name that an amount is for
abbrev pub name_fault : List (List ℕ) → List (List ℕ) → Option PlanCode
name_fault names r = first_fault (fields_fault 4 r ∷ used_fault names (field_of r 1) ∷ [])

-- the amount, in a period up to the last one of the name
abbrev pub put_fault : List (List ℕ) → ℕ → List (Option Ratio) → List (List ℕ) → Option PlanCode
put_fault names last given r =
    first_fault (
    period_fault last (field_of r 2)
    ∷ given_fault (fraction_in (field_of r 3))
    ∷ unless (is_free given (place_named names r)) code.Repeated
    ∷ [])

-- a name, and an amount for it
abbrev pub amount_fault : List (List ℕ) → ℕ → List (Option Ratio) → List (List ℕ) → Option PlanCode
amount_fault names last given r = option_or (name_fault names r) (put_fault names last given r)

-- the last period of the flow that a record names
abbrev pub last_for : Outline → List (List ℕ) → ℕ
last_for o r = unwrap_or (slice_get o.last (place_in o.flows (field_of r 1))) 0

-- a pivot is numbered by one more than the last, up to a million
abbrev pub is_next : ℕ → List ℕ → Bool
is_next count bs = is_number 9 bs && (number bs == count + 1) && nat_le (number bs) 1000000

-- the next pivot
abbrev pub pivot_fault : ℕ → List (List ℕ) → Option PlanCode
pivot_fault count r =
    first_fault (
    fields_fault 5 r
    ∷ unless (is_next count (field_of r 1)) code.BadNumber
    ∷ given_fault (entry_in r)
    ∷ [])

-- a record that is not `end`, by its first field
abbrev pub record_fault : Outline → Claims → List (List ℕ) → Option PlanCode
record_fault o claims r =
    if is_kind r (codes "cost") then once_fault 2 (fraction_in (field_of r 1)) claims.cost r
    else if is_kind r (codes "gap") then once_fault 2 (fraction_in (field_of r 1)) claims.gap r
    else if is_kind r (codes "arc") then once_fault 2 (whole_in (field_of r 1)) claims.arc r
    else if is_kind r (codes "past") then once_fault 6 (overflow_in r) claims.overflow r
    else if is_kind r (codes "flow") then amount_fault o.flows (last_for o r) claims.flows r
    else if is_kind r (codes "price") then amount_fault o.nodes o.periods claims.prices r
    else if is_kind r (codes "ray") then amount_fault o.flows (last_for o r) claims.ray r
    else if is_kind r (codes "turned") then once_fault 2 (whole_in (field_of r 1)) claims.turned r
    else if is_kind r (codes "pivot") then pivot_fault (length claims.entries) r
    else Some code.Unknown

-- a part that is asked for is claimed
abbrev pub is_there : {X : Type 0} → Bool → Option X → Bool
is_there asked part = not asked || is_some part

-- what a verdict cannot do without is claimed: of its parts the cost, the gap, the arc or the operation
abbrev pub is_complete : Verdict → Claims → Bool
is_complete verdict claims =
    let parts = parts_of verdict in
    is_there parts.cost claims.cost && is_there parts.gap claims.gap && is_there parts.arc claims.arc && is_there parts.overflow claims.overflow

-- `end`
abbrev pub end_fault : Verdict → Claims → List (List ℕ) → Option PlanCode
end_fault verdict claims r = first_fault (fields_fault 1 r ∷ unless (is_complete verdict claims) code.Missing ∷ [])
