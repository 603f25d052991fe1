-- The records of a text by place, and the fields that network texts and plan texts share.
use Rattle.std.specs.Prelude.{ℕ, ◌==◌, ◌&&◌, nat_le, Bool, Option, Some, None, unwrap_or, List, [], length, take, drop, slice_get, if◌then◌else◌}
use Rattle.std.specs.Str.{bytes_eq}
use Rattle.np_frac.specs.Text.{is_number, number}
use Rattle.np_records.specs.Records.{field_of}

-- ---- a record

-- its first field is this word
abbrev pub is_kind : List (List ℕ) → List ℕ → Bool
is_kind r word = bytes_eq (field_of r 0) word

-- it has so many fields
abbrev pub has_fields : ℕ → List (List ℕ) → Bool
has_fields count r = length r == count

-- ---- the records of a text

-- the record at a place, from 0; no fields where there is none
abbrev pub row_at : List (List (List ℕ)) → ℕ → List (List ℕ)
row_at rows place = unwrap_or (slice_get rows place) []

-- the records between the head, which has two, and the one at a place
abbrev pub body_before : List (List (List ℕ)) → ℕ → List (List (List ℕ))
body_before rows place = drop 2 (take place rows)

-- ---- numbers

-- the whole number that 1 to 9 digits write
abbrev pub whole_in : List ℕ → Option ℕ
whole_in bs = if is_number 9 bs then Some (number bs) else None

-- a period from 1 to the last one, in 1 to 9 digits
abbrev pub is_period : ℕ → List ℕ → Bool
is_period last bs = is_number 9 bs && nat_le 1 (number bs) && nat_le (number bs) last
