-- What was written is read again.
use Rattle.std.specs.Prelude.{◌<◌, ◌==◌, All, false, map}
use Rattle.std.proofs.Common.{◌≡◌, ◌≢◌, ◌∙◌, ◌∷◌, [], ℕ, List, refl, ap, arith, inl, inr}
use Rattle.std.proofs.lemmas.Bool.{cases_Bool, ne_eqb}
use Rattle.std.proofs.lemmas.List.Elements.{All-head, All-tail}
use Rattle.csv.specs.Reading.{strip_bom}
use Rattle.csv.specs.Writing.{default_writer, escaped, field_text, fields_text, is_blank, needs_quotes, read_back, row_text}
use Rattle.csv.specs.declared.parser.State.TheVariants as st
use Rattle.csv.proofs.RoundTrip.{read-write}
use Rattle.np_records.specs.Records.{records_of}
use Rattle.np_records.specs.Texts.{output_writer, record_text, records_text}
use Rattle.np_records.proofs.Scan.{left_of, left-next, records-left, scan}

-- a record's text does not depend on whether other records may have other lengths
escaped-same : (x : List ℕ) → escaped output_writer x ≡ escaped default_writer x
unfolding escaped
escaped-same [] = refl
escaped-same (b ∷ rest) = rw (escaped-same rest) refl

field-same : (x : List ℕ) → field_text output_writer x ≡ field_text default_writer x
field-same x = rw (escaped-same x) refl

fields-same : (rows : List (List ℕ)) → fields_text output_writer rows ≡ fields_text default_writer rows
unfolding fields_text
fields-same [] = refl
fields-same (x ∷ rest) = rw (escaped-same x, fields-same rest) refl

blank-same : (rows : List (List ℕ)) → is_blank output_writer rows ≡ is_blank default_writer rows
unfolding is_blank
blank-same [] = refl
blank-same (x ∷ []) = rw (escaped-same x) refl
blank-same (x ∷ y ∷ rest) = refl

row-same : (fields : List (List ℕ)) → record_text fields ≡ row_text default_writer fields
unfolding record_text
row-same [] = rw (blank-same []) refl
row-same (x ∷ rest) = rw (escaped-same x, fields-same rest, blank-same (x ∷ rest)) refl

-- the records of a text that was written
pub left-text : (rows : List (List (List ℕ))) → left_of st.StartRecord (records_text rows) ≡ map read_back rows
unfolding left_of scan
left-text [] = refl
left-text (row ∷ rows) =
    let e = row-same row in
    left-next st.StartRecord (records_text (row ∷ rows))
    ∙ rw (e, read-write row (records_text rows)) (ap (λ (z : List (List (List ℕ))). read_back row ∷ z) (left-text rows))

-- the same, of a text with no byte order mark
pub records-text : (rows : List (List (List ℕ))) → strip_bom (records_text rows) ≡ records_text rows
    → records_of (records_text rows) ≡ map read_back rows
records-text rows e = rw e (records-left (records_text rows) ∙ left-text rows)

-- a text that begins with another byte than a byte order mark does
strip-other : (b : ℕ) (rest : List ℕ) → (b == 0xEF) ≡ false → strip_bom (b ∷ rest) ≡ b ∷ rest
unfolding strip_bom
strip-other b [] e = refl
strip-other b (c ∷ []) e = refl
strip-other b (c ∷ d ∷ rest) e = rw e refl

-- a text begins with a quote, or with the first byte of its first field
strip-headed : (byte : ℕ) (name : List ℕ) (fields : List (List ℕ)) (rows : List (List (List ℕ))) → byte < 128
    → strip_bom (records_text (((byte ∷ name) ∷ fields) ∷ rows)) ≡ records_text (((byte ∷ name) ∷ fields) ∷ rows)
unfolding record_text
strip-headed byte name fields rows ascii =
    let other : byte ≢ 0xEF = omega arith in
    elim (cases_Bool (needs_quotes output_writer (byte ∷ name))) [
      | inl t ↦ rw t (strip-other 34 _ refl)
      | inr f ↦ rw f (strip-other byte _ (ne_eqb byte 0xEF other))
    ]

-- records whose first field begins with an ASCII byte
pub records-headed : (byte : ℕ) (name : List ℕ) (fields : List (List ℕ)) (rows : List (List (List ℕ))) → byte < 128
    → records_of (records_text (((byte ∷ name) ∷ fields) ∷ rows)) ≡ ((byte ∷ name) ∷ fields) ∷ map read_back rows
records-headed byte name fields rows ascii =
    records-text (((byte ∷ name) ∷ fields) ∷ rows) (strip-headed byte name fields rows ascii)

-- records with a field each are read as they are
pub back-whole : (rows : List (List (List ℕ))) → All (λ fields. fields ≢ []) rows → map read_back rows ≡ rows
back-whole [] each = refl
back-whole ([] ∷ rows) each = absurd (All-head (λ fields. fields ≢ []) [] rows each refl)
back-whole ((x ∷ xs) ∷ rows) each =
    ap (λ (z : List (List (List ℕ))). (x ∷ xs) ∷ z) (back-whole rows (All-tail (λ fields. fields ≢ []) (x ∷ xs) rows each))
