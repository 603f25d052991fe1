-- The text of records.
use Rattle.std.specs.Prelude.{◌≡◌, [], ℕ, List, Bool, true, false, Some, Vec}
use Rattle.std.specs.List.{flat_map}
use Rattle.std.specs.Option.{option_map_or}
use Rattle.std.specs.declared.alloc.Global.{Global}
use Rattle.csv.specs.Writing.{default_writer, fields_written, has_written, row_text, text_written, with_flexible, writer_setup}
use Rattle.csv.specs.declared.writer.Writer.{Writer}
use Rattle.csv.specs.declared.writer.WriterBuilder.{WriterBuilder}

-- how a text is written: commas between fields, quotes only where a field needs them, a line feed
-- after each record, and records of any lengths one after the other
abbrev pub output_writer : WriterBuilder
output_writer = with_flexible default_writer true

-- the line of a record, with its line feed
unfoldable pub record_text : List (List ℕ) → List ℕ
record_text fields = row_text output_writer fields

-- the lines of records, one after the other
abbrev pub records_text : List (List (List ℕ)) → List ℕ
records_text rows = flat_map record_text rows

-- a text that is being written: the bytes of its records so far, the fields of the record that is open, and whether a write failed
pub record Written : Type 0 where
  pub bytes : List ℕ
  pub fields : List (List ℕ)
  pub failed : Bool

-- what a writer has written so far
abbrev pub written_by : Writer (Vec ℕ Global) → List ℕ
written_by writer = option_map_or (λ bytes. bytes) (text_written (λ v. Some v.items) writer) []

-- a writer that is between two records, and writes as `record_text` does
pub record IsBetween (writer : Writer (Vec ℕ Global)) : Type 0 where
  pub setup : writer_setup writer ≡ output_writer
  pub fields : fields_written writer ≡ 0
  pub wrote : has_written writer ≡ false
