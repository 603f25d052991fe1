-- What the steps of reading a network text give.
use Rattle.std.specs.Prelude.{◌≡◌, true, ℕ, ◌<◌, ◌≤◌, None, Ok, List, length, drop}
use Rattle.std.specs.List.{list_any}
use Rattle.np_records.specs.Faults.{unless}
use Rattle.net_csv.specs.declared.refused.Code.TheVariants as code
use Rattle.net_csv.specs.declared.refused.Refused.{Refused}
use Rattle.net_csv.specs.declared.refused.Tail.{Tail}
use Rattle.np_records.specs.Rows.{row_at, body_before}
use Rattle.net_csv.specs.Grammar.{is_header, periods_fault, periods_in, is_end, body_of, fault_at, count_of, read_records}
use Rattle.net_csv.specs.Reading.{IsRefusal}
use Rattle.net_csv.specs.Steps.Tables.{Tables, IsReady, tables_of}

-- this is the first fault, whatever may stand behind `end`; or memory ran out
abbrev pub RefusesAt : Refused → List (List (List ℕ)) → Type 0
RefusesAt why rows = (tail : Tail) → IsRefusal why (read_records tail rows)

-- the two records at the head are right
pub record IsHeadRead (rows after : List (List (List ℕ))) (periods : ℕ) : Type 0 where
  pub header : unless (is_header (row_at rows 0)) code.Header ≡ None
  pub second : periods_fault (row_at rows 1) ≡ None
  pub two : 2 ≤ length rows
  pub left : after ≡ drop 2 rows
  pub number : periods ≡ periods_in rows
  pub some : 0 < periods
  pub few : periods ≤ 20000

-- the text up to and with its `end` has no fault, and these are the tables of its body
pub record IsTextRead (rows after : List (List (List ℕ))) (t : Tables) (count : ℕ) : Type 0 where
  pub right : (tail : Tail) (place : ℕ) → place < count → fault_at tail rows place ≡ None
  pub ended : (place : ℕ) → count ≤ place → list_any is_end (body_before rows place) ≡ true
  pub records : count ≡ count_of rows
  pub within : count ≤ length rows
  pub tables : t ≡ tables_of (periods_in rows) (body_of rows)
  pub left : after ≡ drop count rows

-- the text has no fault, and these are the tables of its body
pub record IsWholeRead (tail : Tail) (rows : List (List (List ℕ))) (t : Tables) (count : ℕ) : Type 0 where
  pub told : read_records tail rows ≡ Ok count
  pub tables : t ≡ tables_of (periods_in rows) (body_of rows)
  pub ready : IsReady t
