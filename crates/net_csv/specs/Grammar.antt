-- The network texts, over the list of their records: the first fault, or the number of records up to and with `end`.
use Rattle.std.specs.Prelude.{◌≡◌, ℕ, ◌+◌, ◌*◌, ◌&&◌, ◌==◌, nat_lt, not, Bool, Option, Some, None, List, [], ◌∷◌, length, map, drop, codes, Result, Ok, Err, if◌then◌else◌}
use Rattle.std.specs.List.{range_with_len, list_any, before_first}
use Rattle.std.specs.Option.{option_map_or}
use Rattle.std.specs.Str.{bytes_eq}
use Rattle.np_frac.specs.Ratio.{Ratio}
use Rattle.np_frac.specs.Text.{number}
use Rattle.np_records.specs.Records.{field_of}
use Rattle.np_model.specs.declared.scheme.Scheme.{Scheme}
use Rattle.net_csv.specs.declared.refused.Code.{Code}
use Rattle.net_csv.specs.declared.refused.Code.TheVariants as code
use Rattle.net_csv.specs.declared.refused.Tail.{Tail}
use Rattle.net_csv.specs.declared.refused.Tail.TheVariants as tail
use Rattle.np_records.specs.Faults.{first_fault, first_place, unless}
use Rattle.np_records.specs.Rows.{is_kind, has_fields, is_period, row_at, body_before}
use Rattle.net_csv.specs.Fields.{fields_fault}
use Rattle.net_csv.specs.Network.{defined_nodes, supplies_of, supply_from, flows_of}
use Rattle.net_csv.specs.Faults.{body_fault}

-- ---- the records at the head

abbrev pub is_header : List (List ℕ) → Bool
is_header r = has_fields 2 r && is_kind r (codes "netplan") && bytes_eq (field_of r 1) (codes "1")

abbrev pub periods_fault : List (List ℕ) → Option Code
periods_fault r =
    first_fault (
    unless (is_kind r (codes "periods")) code.Header
    ∷ fields_fault 2 r
    ∷ unless (is_period 20000 (field_of r 1)) code.BadPeriod
    ∷ [])

-- the number of periods of the text
abbrev pub periods_in : List (List (List ℕ)) → ℕ
periods_in rows = number (field_of (row_at rows 1) 1)

-- ---- the body

abbrev pub is_end : List (List ℕ) → Bool
is_end r = is_kind r (codes "end")

-- the records between the head and the first `end`
abbrev pub body_of : List (List (List ℕ)) → List (List (List ℕ))
body_of rows = before_first is_end (drop 2 rows)

-- a record behind `end`: it may be one of a plan text, where one follows
abbrev pub after_fault : Tail → Option Code
after_fault tail.Nothing = Some code.AfterEnd
after_fault tail.Plan = None

-- a record behind the head, where these are the records between
abbrev pub row_fault : Tail → ℕ → List (List (List ℕ)) → List (List ℕ) → Option Code
row_fault tail periods before r =
    if list_any is_end before then after_fault tail
    else if is_end r then fields_fault 1 r
    else body_fault periods before r

-- what is wrong at a place, from 0, where all records before it are right; behind the last record `end` is missing where none was read
abbrev pub fault_at : Tail → List (List (List ℕ)) → ℕ → Option Code
fault_at tail rows place =
    let r = row_at rows place in
    if not (nat_lt place (length rows)) then unless (list_any is_end (body_before rows place)) code.NoEnd
    else if place == 0 then unless (is_header r) code.Header
    else if place == 1 then periods_fault r
    else row_fault tail (periods_in rows) (body_before rows place) r

-- the first place that has a fault, from 0, with the fault
abbrev pub text_fault : Tail → List (List (List ℕ)) → Option (ℕ × Code)
text_fault tail rows = first_place (fault_at tail rows) (length rows + 1)

-- how many records a text without a fault has up to and with `end`: two at its head, its body, and `end`
abbrev pub count_of : List (List (List ℕ)) → ℕ
count_of rows = length (body_of rows) + 3

-- the number of records up to and with `end`; else the number of the record with the first fault, from 1, and the fault
abbrev pub read_records : Tail → List (List (List ℕ)) → Result ℕ (ℕ × Code)
read_records tail rows = option_map_or (λ first. Err (first.0 + 1, first.1)) (text_fault tail rows) (Ok (count_of rows))

-- ---- the scheme

-- the supply at a place of the scheme
abbrev pub supply_at : List (List (List ℕ)) → ℕ → Ratio
supply_at body place = supply_from (length (defined_nodes body)) (supplies_of body) place

-- the scheme of a text without a fault
pub record IsSchemeOf (rows : List (List (List ℕ))) (scheme : Scheme) : Type 0 where
  pub periods : scheme.periods ≡ periods_in rows
  pub nodes : scheme.nodes ≡ defined_nodes (body_of rows)
  pub supply : scheme.supply ≡ map (supply_at (body_of rows)) (range_with_len 0 (periods_in rows * length (defined_nodes (body_of rows))))
  pub flows : scheme.flows ≡ flows_of (body_of rows)

-- the records are those of some scheme
abbrev pub StandsForAScheme : List (List (List ℕ)) → Type 0
StandsForAScheme rows = (scheme : Scheme) × IsSchemeOf rows scheme
