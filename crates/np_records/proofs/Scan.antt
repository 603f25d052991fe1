-- The records of a text, in one pass over its bytes.
use Rattle.std.specs.Prelude.{◌==◌, if◌then◌else◌, Bool, zero, suc, ◌+◌, ◌*◌, ◌<◌, ◌≤◌, length, None, Some, Option}
use Rattle.std.proofs.Common.{◌≡◌, ◌∙◌, ◌++◌, ◌∷◌, [], ℕ, List, refl, sym, ap, true, false, inl, inr, arith}
use Rattle.std.proofs.lemmas.Bool.{cases_Bool}
use Rattle.csv.specs.Machine.{Read, after_end, ends_at_end, ends_with, field_after, fields_after, in_field, is_end, next_record, start_field, start_record, step}
use Rattle.csv.specs.Reading.{default_config, is_bom, records, records_from, records_next, strip_bom}
use Rattle.np_records.specs.Records.{records_of}
use Rattle.csv.specs.declared.parser.State.{State}
use Rattle.csv.specs.declared.parser.State.TheVariants as st
use Rattle.csv.specs.declared.parser.Action.{Action}
use Rattle.csv.specs.declared.parser.Action.TheVariants as act

-- the records from a state, with the fields and the bytes of the field at hand
unfoldable pub scan : State → List (List ℕ) → List ℕ → List ℕ → List (List (List ℕ))
scan s fields field [] = if ends_at_end s then (fields ++ (field ∷ [])) ∷ [] else []
scan s fields field (c ∷ rest) =
    if is_end (step default_config s c).1 then fields_after (step default_config s c).1 fields field ∷ scan (step default_config s c).0 [] [] rest
    else scan (step default_config s c).0 (fields_after (step default_config s c).1 fields field) (field_after (step default_config s c).1 c field) rest

-- the records from a state, at the start of a record
unfoldable pub left_of : State → List ℕ → List (List (List ℕ))
left_of s xs = scan s [] [] xs

scan-next : (s : State) (fields : List (List ℕ)) (field xs : List ℕ)
    → scan s fields field xs ≡ records_next left_of (next_record default_config s fields field xs)
unfolding scan next_record left_of
scan-next s fields field [] = elim (cases_Bool (ends_at_end s)) [
  | inl t ↦ rw t refl
  | inr f ↦ rw f refl
]
scan-next s fields field (c ∷ rest) = elim (cases_Bool (is_end (step default_config s c).1)) [
  | inl t ↦ rw t refl
  | inr f ↦ rw f (scan-next (step default_config s c).0 _ _ rest)
]

-- the next record, and those after it
pub left-next : (s : State) (xs : List ℕ) → left_of s xs ≡ records_next left_of (next_record default_config s [] [] xs)
unfolding left_of
left-next s xs = scan-next s [] [] xs

-- one more turn where a text ends inside a record
abbrev extra : State → ℕ
extra s = if ends_at_end s then 1 else 0

extra-le : (s : State) → extra s ≤ 1
extra-le s = elim (cases_Bool (ends_at_end s)) [ inl t ↦ rw t (omega arith) | inr f ↦ rw f (omega arith) ]

-- a step that ends a record leaves the start of one
abbrev Leaves : State × Action → Type 0
Leaves p = is_end p.1 ≡ true → ends_at_end p.0 ≡ false

pick : (b : Bool) (p q : State × Action) → Leaves p → Leaves q → Leaves (if b then p else q)
pick true p q f g = f
pick false p q f g = g

end-leaves : (c : ℕ) → Leaves (after_end default_config.terminator c, act.EndRecord)
end-leaves c e = elim (cases_Bool (c == 13)) [ inl a ↦ rw a refl | inr a ↦ rw a refl ]

in-leaves : (c : ℕ) → Leaves (in_field default_config c)
in-leaves c = pick (c == 44) _ _ (λ e. cc e) (pick (ends_with default_config.terminator c) _ _ (end-leaves c) (λ e. cc e))

field-leaves : (c : ℕ) → Leaves (start_field default_config c)
field-leaves c = pick (c == 34) _ _ (λ e. cc e) (in-leaves c)

record-leaves : (c : ℕ) → Leaves (start_record default_config c)
record-leaves c = pick (ends_with default_config.terminator c) _ _ (λ e. cc e) (field-leaves c)

step-ends : (s : State) (c : ℕ) → Leaves (step default_config s c)
step-ends st.StartRecord c = record-leaves c
step-ends st.StartField c = field-leaves c
step-ends st.InField c = in-leaves c
step-ends st.InQuoted c = pick (c == 34) _ _ (λ e. cc e) (λ e. cc e)
step-ends st.InEscape c = λ e. cc e
step-ends st.AfterQuote c = pick (c == 34) _ _ (λ e. cc e) (in-leaves c)
step-ends st.InComment c = pick (c == 10) _ _ (λ e. cc e) (λ e. cc e)
step-ends st.AfterCr c = pick (c == 10) _ _ (λ e. cc e) (record-leaves c)

-- a record takes some of the text
shorter : (s : State) (fields : List (List ℕ)) (field xs : List ℕ) (r : Read) → next_record default_config s fields field xs ≡ Some r
    → length r.2 + extra r.1 < length xs + extra s
unfolding next_record
shorter s fields field [] r e = elim (cases_Bool (ends_at_end s)) [
  | inl t ↦ let q : r ≡ (fields ++ (field ∷ []), st.StartRecord, []) = cc (rw t at e) in rw (q, t) (omega arith)
  | inr f ↦ cc (rw f at e)
]
shorter s fields field (c ∷ rest) r e = elim (cases_Bool (is_end (step default_config s c).1)) [
  | inl t ↦
      let q : r ≡ (fields_after (step default_config s c).1 fields field, (step default_config s c).0, rest) = cc (rw t at e) in
      let n = step-ends s c t in
      rw (q, n) (omega arith)
  | inr f ↦
      let h = shorter (step default_config s c).0 _ _ rest r (rw f at e) in
      let one = extra-le (step default_config s c).0 in
      omega arith
]

enough-go : (n : ℕ) (s : State) (xs : List ℕ) → length xs + extra s ≤ suc n
    → ((r : Read) → length r.2 + extra r.1 ≤ n → records_from default_config n r.1 r.2 ≡ left_of r.1 r.2)
    → (o : Option Read) → next_record default_config s [] [] xs ≡ o
    → records_next (records_from default_config n) (next_record default_config s [] [] xs) ≡ records_next left_of (next_record default_config s [] [] xs)
enough-go n s xs h again None e = rw e refl
enough-go n s xs h again (Some r) e =
    let short = shorter s [] [] xs r e in
    rw e (ap (λ (z : List (List (List ℕ))). r.0 ∷ z) (again r (omega arith)))

-- `csv`'s own list, where it takes turns enough
enough : (n : ℕ) (s : State) (xs : List ℕ) → length xs + extra s ≤ n → records_from default_config n s xs ≡ left_of s xs
unfolding records_from left_of scan
enough zero s [] h = elim (cases_Bool (ends_at_end s)) [
  | inl t ↦ absurd (let g = rw t at h in omega arith)
  | inr f ↦ rw f refl
]
enough zero s (c ∷ rest) h = absurd (omega arith)
enough (suc n) s xs h = enough-go n s xs h (λ r short. enough n r.1 r.2 short) (next_record default_config s [] [] xs) refl ∙ sym (left-next s xs)

-- a turn for each byte and one more are enough
pub records_from-left : (s : State) (xs : List ℕ) → records_from default_config (length xs + 1) s xs ≡ left_of s xs
records_from-left s xs = let one = extra-le s in enough (length xs + 1) s xs (omega arith)

-- the records of a text are those of one pass over it
pub records-left : (xs : List ℕ) → records default_config xs ≡ left_of st.StartRecord xs
records-left xs = records_from-left st.StartRecord xs

-- a record takes two bytes, or ends the text
abbrev holds : State → ℕ
holds s = if ends_at_end s then 2 else 1

holds-le : (s : State) → holds s ≤ 2
holds-le s = elim (cases_Bool (ends_at_end s)) [ inl t ↦ rw t (omega arith) | inr f ↦ rw f (omega arith) ]

holds-pos : (s : State) → 1 ≤ holds s
holds-pos s = elim (cases_Bool (ends_at_end s)) [ inl t ↦ rw t (omega arith) | inr f ↦ rw f (omega arith) ]

-- a byte that ends a record stands inside one
abbrev Inside : State → State × Action → Type 0
Inside s p = is_end p.1 ≡ true → ends_at_end s ≡ true

pick-inside : (s : State) (b : Bool) (p q : State × Action) → Inside s p → Inside s q → Inside s (if b then p else q)
pick-inside s true p q f g = f
pick-inside s false p q f g = g

-- the first byte of a record does not end it
start-inside : (s : State) (c : ℕ) → Inside s (start_record default_config c)
start-inside s c e = absurd (first-byte c e)
  where
    first-byte : (c : ℕ) → is_end (start_record default_config c).1 ≡ true → ⊥
    first-byte c e = elim (cases_Bool (c == 13)) [
      | inl a ↦ cc (rw a at e)
      | inr a ↦ elim (cases_Bool (c == 10)) [
        | inl b ↦ cc (rw (a, b) at e)
        | inr b ↦ elim (cases_Bool (c == 34)) [
          | inl d ↦ cc (rw (a, b, d) at e)
          | inr d ↦ elim (cases_Bool (c == 44)) [
            | inl k ↦ cc (rw (a, b, d, k) at e)
            | inr k ↦ cc (rw (a, b, d, k) at e)
          ]
        ]
      ]
    ]

step-inside : (s : State) (c : ℕ) → Inside s (step default_config s c)
step-inside st.StartRecord c = start-inside st.StartRecord c
step-inside st.StartField c = λ e. refl
step-inside st.InField c = λ e. refl
step-inside st.InQuoted c = λ e. refl
step-inside st.InEscape c = λ e. refl
step-inside st.AfterQuote c = λ e. refl
step-inside st.InComment c = λ e. refl
step-inside st.AfterCr c = pick-inside st.AfterCr (c == 10) _ _ (λ e. cc e) (start-inside st.AfterCr c)

scan-few : (s : State) (fields : List (List ℕ)) (field xs : List ℕ) → 2 * length (scan s fields field xs) ≤ length xs + holds s
unfolding scan
scan-few s fields field [] = elim (cases_Bool (ends_at_end s)) [
  | inl t ↦ rw t (omega arith)
  | inr f ↦ rw f (omega arith)
]
scan-few s fields field (c ∷ rest) = elim (cases_Bool (is_end (step default_config s c).1)) [
  | inl t ↦
      let more = scan-few (step default_config s c).0 [] [] rest in
      let start = step-ends s c t in
      let inside = step-inside s c t in
      rw (t, inside) (let less = rw start at more in omega arith)
  | inr f ↦
      let more = scan-few (step default_config s c).0 (fields_after (step default_config s c).1 fields field) (field_after (step default_config s c).1 c field) rest in
      let most = holds-le (step default_config s c).0 in
      let least = holds-pos s in
      rw f (omega arith)
]

strip-shorter : (xs : List ℕ) → length (strip_bom xs) ≤ length xs
unfolding strip_bom
strip-shorter [] = omega arith
strip-shorter (a ∷ []) = omega arith
strip-shorter (a ∷ b ∷ []) = omega arith
strip-shorter (a ∷ b ∷ c ∷ rest) = elim (cases_Bool (is_bom a b c)) [
  | inl t ↦ rw t (omega arith)
  | inr f ↦ rw f (omega arith)
]

-- a text has at most half as many records as bytes, and one more half
pub records-few : (bytes : List ℕ) → 2 * length (records_of bytes) ≤ length bytes + 1
unfolding left_of
records-few bytes =
    let few = scan-few st.StartRecord [] [] (strip_bom bytes) in
    let short = strip-shorter bytes in
    rw (records-left (strip_bom bytes)) (omega arith)
