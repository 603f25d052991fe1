-- The frame of a text, and the text that refuses an input.
use Rattle.std.specs.Prelude.{ℕ, List, [], ◌∷◌, codes}
use Rattle.std.specs.Fmt.{decimal}
use Rattle.np_records.specs.Texts.{records_text}

-- the last record of each text
abbrev pub end_record : List (List ℕ)
end_record = codes "end" ∷ []

-- a text with this word and 1 at its head, one line, and `end`
unfoldable pub framed_text : List ℕ → List (List ℕ) → List ℕ
framed_text kind line = records_text ((kind ∷ codes "1" ∷ []) ∷ line ∷ end_record ∷ [])

-- the input was refused for a fault of the record with this number, or as a whole where that is 0
abbrev pub refused_text : ℕ → List ℕ → List ℕ
refused_text place code = framed_text (codes "netplan-refused") (codes "fault" ∷ decimal place ∷ code ∷ [])
