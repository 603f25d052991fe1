-- The fields of plan texts: what each one stands for, and what is wrong with it.
use Rattle.std.specs.Prelude.{ℕ, ◌==◌, Option, Some, None, is_some, option_map, List, length, codes, if◌then◌else◌}
use Rattle.std.specs.Option.{option_and_then}
use Rattle.std.specs.Str.{bytes_eq}
use Rattle.np_frac.specs.Ratio.{Ratio}
use Rattle.np_frac.specs.Text.{is_fraction_text, fraction_of}
use Rattle.np_frac.specs.declared.frac.Past.{Past}
use Rattle.np_records.specs.Names.{place_of}
use Rattle.np_records.specs.Records.{field_of}
use Rattle.np_model.specs.declared.log.Entry.{Entry}
use Rattle.np_model.specs.declared.rows.Row.{Row}
use Rattle.np_model.specs.declared.rows.Row.TheVariants.{A1, A2, A3, A4, A5, A6, A7, A8}
use Rattle.np_model.specs.declared.rows.Place.{Place}
use Rattle.np_model.specs.declared.rows.Place.TheVariants.{Node, Arc, Turn, Check}
use Rattle.np_model.specs.declared.rows.Overflow.{Overflow}
use Rattle.np_records.specs.Rows.{is_period, whole_in}
use Rattle.np_records.specs.Faults.{unless}
use Rattle.certificates.specs.declared.refused.PlanCode.{PlanCode}
use Rattle.certificates.specs.declared.refused.PlanCode.TheVariants as code
use Rattle.certificates.specs.Words.{mark_of, op_of, row_of, check_row_of}

-- the fraction that a field writes
abbrev pub fraction_in : List ℕ → Option Ratio
fraction_in bs = if is_fraction_text bs then Some (fraction_of bs) else None

-- ---- faults

-- a record has so many fields
abbrev pub fields_fault : ℕ → List (List ℕ) → Option PlanCode
fields_fault count r = unless (length r == count) code.FieldCount

-- a name that is used, where these are defined
abbrev pub used_fault : List (List ℕ) → List ℕ → Option PlanCode
used_fault names name = unless (is_some (place_of names name)) code.NoSuchName

-- a period from 1 to the last one
abbrev pub period_fault : ℕ → List ℕ → Option PlanCode
period_fault last bs = unless (is_period last bs) code.BadPeriod

-- a field is wrong where it gives nothing
abbrev pub given_fault : {X : Type 0} → Option X → Option PlanCode
given_fault given = unless (is_some given) code.BadNumber

-- ---- what fields give together

-- the place of an operation, as its row asks for it
abbrev pub place_in_row : Row → List ℕ → Option Place
place_in_row A1 bs = option_map Node (whole_in bs)
place_in_row A2 bs = option_map Arc (whole_in bs)
place_in_row A3 bs = if bytes_eq bs (codes "turn") then Some Turn else option_map Arc (whole_in bs)
place_in_row A4 bs = option_map Arc (whole_in bs)
place_in_row A5 bs = option_map Arc (whole_in bs)
place_in_row A6 bs = option_map Arc (whole_in bs)
place_in_row A7 bs = if bytes_eq bs (codes "turn") then Some Turn else option_map Arc (whole_in bs)
place_in_row A8 bs = option_map Check (check_row_of bs)

-- an operation and its operands
abbrev pub past_in : List (List ℕ) → Option Past
past_in r =
    option_and_then (λ op. option_and_then (λ left. option_map (λ right. record { op = op; left = left; right = right })
    (fraction_in (field_of r 5))) (fraction_in (field_of r 4))) (op_of (field_of r 3))

-- the operation that overflowed, with its row and its place
abbrev pub overflow_in : List (List ℕ) → Option Overflow
overflow_in r =
    option_and_then (λ row. option_and_then (λ place. option_map (λ past. record { row = row; place = place; past = past })
    (past_in r)) (place_in_row row (field_of r 2))) (row_of (field_of r 1))

-- the arc that enters, the arc that leaves, and where it comes to rest
abbrev pub entry_in : List (List ℕ) → Option Entry
entry_in r =
    option_and_then (λ enter. option_and_then (λ leave. option_map (λ mark. record { enter = enter; leave = leave; leave_at = mark })
    (mark_of (field_of r 4))) (whole_in (field_of r 3))) (whole_in (field_of r 2))
