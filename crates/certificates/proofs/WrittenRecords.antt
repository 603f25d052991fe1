-- The records that are written, one after the other.
use Rattle.std.specs.Prelude.{◌≡◌, ℕ, ◌+◌, ◌<◌, ◌≤◌, Bool, List, [], ◌∷◌, ◌++◌, length, map, take, get_or, codes}
use Rattle.std.specs.List.{zip, enumerate_from}
use Rattle.std.proofs.Common.{sym, ap, ap₂, ◌∙◌, arith, append_assoc}
use Rattle.std.proofs.lemmas.List.{take_more, take_all, flat_map_more, map-append}
use Rattle.std.proofs.lemmas.List.Concat.{flat_map-append}
use Rattle.std.proofs.lemmas.List.FromFn.{length-enumerate_from, get_or-enumerate_from}
use Rattle.std.proofs.lemmas.Slice.Zip.{length-zip, get_or-zip}
use Rattle.np_records.specs.Texts.{record_text, records_text}
use Rattle.np_model.specs.declared.plan.Plan.{Plan}
use Rattle.np_model.specs.Scheme.Verdicts.{parts_of}
use Rattle.np_model.specs.declared.scheme.Scheme.{Scheme}
use Rattle.certificates.specs.Writing.{list_if, head_rows, claim_rows, shown_rows, log_rows, plan_rows}

-- ---- lists

-- the record of one element more
pub text-more : {X : Type 0} (f : X → List (List ℕ)) (old : List ℕ) (xs : List X) (i : ℕ) (x : X) → i < length xs → get_or xs i x ≡ x
    → (old ++ records_text (map f (take i xs))) ++ record_text (f x) ≡ old ++ records_text (map f (take (i + 1) xs))
text-more f old xs i x h e =
    let rows : map f (take (i + 1) xs) ≡ map f (take i xs) ++ f x ∷ [] =
    ap (map f) (take_more xs i x h ∙ ap (λ y. take i xs ++ y ∷ []) e) ∙ map-append f (take i xs) (x ∷ []) in
    flat_map_more record_text old (map f (take i xs)) (f x) ∙ ap (λ (rs : List (List (List ℕ))). old ++ records_text rs) (sym rows)

-- those of all elements
pub text-all : {X : Type 0} (f : X → List (List ℕ)) (old : List ℕ) (xs : List X) (i : ℕ) → length xs ≤ i
    → old ++ records_text (map f (take i xs)) ≡ old ++ records_text (map f xs)
text-all f old xs i h = ap (λ ys. old ++ records_text (map f ys)) (take_all i xs h)

-- one of numbered elements more
pub numbered-more : {X : Type 0} (f : ℕ × X → List (List ℕ)) (old : List ℕ) (from : ℕ) (xs : List X) (i : ℕ) (number : ℕ) (x : X) → number ≡ from + i → i < length xs → x ≡ get_or xs i x
    → (old ++ records_text (map f (take i (enumerate_from from xs)))) ++ record_text (f (number, x)) ≡ old ++ records_text (map f (take (i + 1) (enumerate_from from xs)))
numbered-more {X} f old from xs i number x n h e =
    let within : i < length (enumerate_from from xs) = omega (arith, length-enumerate_from from xs) in
    text-more f old (enumerate_from from xs) i (number, x) within
    (get_or-enumerate_from from xs i (number, x) h ∙ ap₂ {A = ℕ} {B = X} {C = ℕ × X} (λ k y. (k, y)) (sym n) (sym e))

-- one of pairs more
pub paired-more : {X Y : Type 0} (f : X × Y → List (List ℕ)) (old : List ℕ) (xs : List X) (ys : List Y) (i : ℕ) (x : X) (y : Y)
    → length ys ≡ length xs → i < length xs → x ≡ get_or xs i x → y ≡ get_or ys i y
    → (old ++ records_text (map f (take i (zip xs ys)))) ++ record_text (f (x, y)) ≡ old ++ records_text (map f (take (i + 1) (zip xs ys)))
paired-more {X} {Y} f old xs ys i x y e h at_x at_y =
    let within : i < length (zip xs ys) = omega (arith, length-zip xs ys) in
    text-more f old (zip xs ys) i (x, y) within
    (get_or-zip xs ys i (x, y) h (omega arith) ∙ ap₂ {A = X} {B = Y} {C = X × Y} (λ a b. (a, b)) (sym at_x) (sym at_y))

-- ---- the whole

joined-two : (old : List ℕ) (a b : List (List (List ℕ))) → old ++ records_text a ++ records_text b ≡ old ++ records_text (a ++ b)
joined-two old a b = append_assoc old (records_text a) (records_text b) ∙ ap (λ (l : List ℕ). old ++ l) (sym (flat_map-append record_text a b))

joined-three : (old : List ℕ) (a b c : List (List (List ℕ))) → old ++ records_text a ++ records_text b ++ records_text c ≡ old ++ records_text (a ++ b ++ c)
joined-three old a b c = ap (λ (l : List ℕ). l ++ records_text c) (joined-two old a b) ∙ joined-two old (a ++ b) c

-- each call has added its records
three-more : (old x y z : List ℕ) (a b c : List (List (List ℕ))) → x ≡ old ++ records_text a → y ≡ x ++ records_text b → z ≡ y ++ records_text c → z ≡ old ++ records_text (a ++ b ++ c)
three-more old x y z a b c hx hy hz = rw (hz, hy, hx) (joined-three old a b c)

pub whole-text : (scheme : Scheme) (plan : Plan) (log : Bool) (a b c d e : List ℕ) → a ≡ [] ++ records_text (head_rows plan.verdict) → b ≡ a ++ records_text (claim_rows (parts_of plan.verdict) plan)
    → c ≡ b ++ records_text (shown_rows (parts_of plan.verdict) scheme plan) → d ≡ c ++ records_text (list_if log (log_rows plan.log))
    → e ≡ d ++ record_text (codes "end" ∷ []) → e ≡ records_text (plan_rows scheme plan log)
whole-text scheme plan log a b c d e ha hb hc hd he =
    let head = head_rows plan.verdict in
    let inner = claim_rows (parts_of plan.verdict) plan ++ shown_rows (parts_of plan.verdict) scheme plan ++ list_if log (log_rows plan.log) in
    let after = three-more a b c d (claim_rows (parts_of plan.verdict) plan) (shown_rows (parts_of plan.verdict) scheme plan) (list_if log (log_rows plan.log)) hb hc hd in
    let all : d ≡ [] ++ records_text (head ++ inner) = after ∙ ap (λ (l : List ℕ). l ++ records_text inner) ha ∙ joined-two [] head inner in
    he ∙ ap (λ (l : List ℕ). l ++ record_text (codes "end" ∷ [])) all ∙ flat_map_more record_text [] (head ++ inner) (codes "end" ∷ [])
