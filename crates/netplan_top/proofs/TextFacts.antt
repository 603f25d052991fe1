-- A text in its frame.
use Rattle.std.specs.Prelude.{◌≡◌, ℕ, List, [], ◌∷◌, ◌++◌, codes}
use Rattle.std.proofs.Common.{sym, ap, ◌∙◌, append_assoc, append-nil, refl}
use Rattle.np_records.specs.Texts.{record_text, records_text}
use Rattle.netplan_top.specs.Texts.Frame.{end_record, framed_text}

-- two records more
pub two-more : (old : List ℕ) (a b : List (List ℕ)) → (old ++ record_text a) ++ record_text b ≡ old ++ records_text (a ∷ b ∷ [])
two-more old a b = append_assoc old (record_text a) (record_text b) ∙ ap (λ (l : List ℕ). old ++ (record_text a ++ l)) (sym (append-nil (record_text b)))

-- the head stands, and the line
pub framed-is : (kind : List ℕ) (line : List (List ℕ)) (bytes : List ℕ) (fields : List (List ℕ)) → bytes ≡ record_text (kind ∷ codes "1" ∷ []) → fields ≡ line
    → bytes ++ records_text (fields ∷ end_record ∷ []) ≡ framed_text kind line
unfolding framed_text
framed-is kind line bytes fields head whole = rw (head, whole) refl
