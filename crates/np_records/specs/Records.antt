-- The records of a text.
use Rattle.std.specs.Prelude.{◌≡◌, ◌+◌, [], ℕ, List, true, Some, IsSome, length, slice_get, unwrap_or}
use Rattle.std.specs.Option.{option_map_or}
use Rattle.std.specs.Borrow.{Bor}
use Rattle.csv.specs.Reading.{Ready, default_config, is_flexible, reader_config, reader_state, reader_trim, records, records_from, source_of, strip_bom}
use Rattle.csv.specs.declared.reader.Reader.{Reader}
use Rattle.csv.specs.declared.reader.Trim.TheVariants as trim

-- the records of these bytes, as `csv` reads them with no header row: each is a list of fields, and
-- a field is a list of bytes; a byte order mark at the very start is no part of the first field
abbrev pub records_of : List ℕ → List (List (List ℕ))
records_of bytes = records default_config (strip_bom bytes)

-- the field of a record at a place, from 0; the empty field where the record has none there
abbrev pub field_of : List (List ℕ) → ℕ → List ℕ
field_of fields place = unwrap_or (slice_get fields place) []

-- the records that a reader of bytes in memory has left
abbrev pub left_in : Reader (Bor (List ℕ)) → List (List (List ℕ))
left_in reader =
    option_map_or (λ bytes. records_from default_config (length bytes + 1) (reader_state reader) bytes)
    (source_of (λ s. Some s.now) reader) []

-- a reader of bytes in memory that is between two records, and reads as `records_of` does
pub record IsReading (reader : Reader (Bor (List ℕ))) : Type 0 where
  pub trim : reader_trim reader ≡ trim.None
  pub config : reader_config reader ≡ default_config
  pub flexible : is_flexible reader ≡ true
  pub ready : Ready reader
  pub known : IsSome (source_of (λ s. Some s.now) reader)
