-- The bytes that are written are the text of the records, and are read as these.
use Rattle.std.specs.Prelude.{◌≡◌, ◌≢◌, ℕ, ◌+◌, ◌<◌, Ok, Some, None, Option, List, [], ◌∷◌, ◌++◌, length, map, take, get_or, codes, decimal}
use Rattle.std.specs.List.{All, AllByRecursion, filter_map, flat_map, enumerate_from}
use Rattle.std.specs.Option.{option_map_or}
use Rattle.std.proofs.Common.{refl, subst, sym, ap, ◌∙◌, arith, append_assoc}
use Rattle.std.proofs.lemmas.List.{append-nil, take_more, flat_map_more, length-take-le}
use Rattle.std.proofs.lemmas.List.Concat.{flat_map-append}
use Rattle.std.proofs.lemmas.List.Elements.{filter_map-append, All-from_recursion, All-append, All-cons, All-nil}
use Rattle.np_records.specs.Records.{records_of}
use Rattle.np_records.specs.Texts.{record_text, records_text}
use Rattle.np_records.proofs.TextFacts.{records-headed, back-whole}
use Rattle.np_model.specs.declared.scheme.Scheme.{Scheme}
use Rattle.net_csv.specs.declared.refused.Tail.{Tail}
use Rattle.net_csv.specs.Grammar.{IsSchemeOf, read_records}
use Rattle.net_csv.specs.Steps.Tables.{Tables, with_record}
use Rattle.net_csv.specs.Writing.{node_row, supply_row, flow_rows, head_rows, body_rows, rows_of}
use Rattle.net_csv.proofs.Runs.{Runs}
use Rattle.net_csv.proofs.Written.{runs-body, written-read, written-scheme}

enumerate-push : {X : Type 0} (from : ℕ) (xs : List X) (x : X) → enumerate_from from (xs ++ x ∷ []) ≡ enumerate_from from xs ++ (from + length xs, x) ∷ []
enumerate-push from [] x = let z : from + 0 ≡ from = omega arith in rw z refl
enumerate-push from (y ∷ ys) x =
    let z : from + 1 + length ys ≡ from + length (y ∷ ys) = omega arith in
    let rest : enumerate_from (from + 1) (ys ++ x ∷ []) ≡ enumerate_from (from + 1) ys ++ (from + 1 + length ys, x) ∷ [] = enumerate-push (from + 1) ys x in
    ap (λ l. (from, y) ∷ l) (rw z at rest)

-- at most one record for each element, by its place: one element more
pub text-placed : {X : Type 0} (f : ℕ × X → Option (List (List ℕ))) (before : List ℕ) (xs : List X) (i : ℕ) (d : X) → i < length xs
    → (before ++ records_text (filter_map f (enumerate_from 0 (take i xs)))) ++ option_map_or record_text (f (i, get_or xs i d)) [] ≡ before ++ records_text (filter_map f (enumerate_from 0 (take (i + 1) xs)))
text-placed f before xs i d h =
    let size = length-take-le i xs (omega arith) in
    let place : 0 + length (take i xs) ≡ i = omega arith in
    let pushed : enumerate_from 0 (take i xs ++ get_or xs i d ∷ []) ≡ enumerate_from 0 (take i xs) ++ (0 + length (take i xs), get_or xs i d) ∷ [] = enumerate-push 0 (take i xs) (get_or xs i d) in
    let all : enumerate_from 0 (take (i + 1) xs) ≡ enumerate_from 0 (take i xs) ++ (i, get_or xs i d) ∷ [] = ap (enumerate_from 0) (take_more xs i d h) ∙ (rw place at pushed) in
    let rows = filter_map f (enumerate_from 0 (take i xs)) in
    rw (all, filter_map-append f (enumerate_from 0 (take i xs)) ((i, get_or xs i d) ∷ [])) (by rows (f (i, get_or xs i d)))
  where
    by : (rows : List (List (List ℕ))) (o : Option (List (List ℕ))) → (before ++ records_text rows) ++ option_map_or record_text o [] ≡ before ++ records_text (rows ++ filter_map (λ (z : ℕ). o) (0 ∷ []))
    by rows None = append-nil (before ++ records_text rows) ∙ ap (λ (l : List (List (List ℕ))). before ++ records_text l) (sym (append-nil rows))
    by rows (Some r) = flat_map_more record_text before rows r

-- ---- the whole text

joined : (head nodes supplies flows : List (List (List ℕ))) (end : List (List ℕ))
    → records_text head ++ records_text nodes ++ records_text supplies ++ records_text flows ++ record_text end ≡ records_text (head ++ (nodes ++ supplies ++ flows) ++ end ∷ [])
joined head nodes supplies flows end =
    let t = flat_map record_text in
    let body : records_text (nodes ++ supplies ++ flows) ≡ records_text nodes ++ records_text supplies ++ records_text flows =
    flat_map-append record_text (nodes ++ supplies) flows ∙ ap (λ (l : List ℕ). l ++ records_text flows) (flat_map-append record_text nodes supplies) in
    let before : records_text (head ++ (nodes ++ supplies ++ flows)) ≡ records_text head ++ records_text nodes ++ records_text supplies ++ records_text flows =
    flat_map-append record_text head (nodes ++ supplies ++ flows) ∙ rw body (sym (append_assoc (records_text head) (records_text nodes ++ records_text supplies) (records_text flows)) ∙ ap (λ (l : List ℕ). l ++ records_text flows) (sym (append_assoc (records_text head) (records_text nodes) (records_text supplies)))) in
    rw (sym before) (flat_map_more record_text [] (head ++ (nodes ++ supplies ++ flows)) end)

-- each call has added its records
pub whole-text : (s : Scheme) (a b c d e : List ℕ) → a ≡ [] ++ records_text (head_rows s.periods) → b ≡ a ++ records_text (map node_row s.nodes)
    → c ≡ b ++ records_text (filter_map (supply_row s.nodes) (enumerate_from 0 s.supply)) → d ≡ c ++ records_text (flat_map (flow_rows s.nodes) s.flows)
    → e ≡ d ++ record_text (codes "end" ∷ []) → e ≡ records_text (rows_of s)
whole-text s a b c d e ha hb hc hd he =
    rw (he, hd, hc, hb, ha) (joined (head_rows s.periods) (map node_row s.nodes) (filter_map (supply_row s.nodes) (enumerate_from 0 s.supply)) (flat_map (flow_rows s.nodes) s.flows) (codes "end" ∷ []))

-- ---- reading it

-- a record without a fault has a field
runs-full : (rows : List (List (List ℕ))) (t u : Tables) → Runs t rows u → AllByRecursion (λ fields. fields ≢ []) rows
runs-full [] t u h = tt
runs-full ([] ∷ rs) t u h = absurd (cc h.0.right)
runs-full ((x ∷ xs) ∷ rs) t u h = (λ e. cc e, runs-full rs (with_record t (x ∷ xs)) u h.1)

-- with any other records behind them that have a field each
pub written-followed : (s : Scheme) (after : List (List (List ℕ))) → All (λ fields. fields ≢ []) after → records_of (records_text (rows_of s ++ after)) ≡ rows_of s ++ after
written-followed s after full =
    let first = codes "netplan" ∷ codes "1" ∷ [] in
    let second = codes "periods" ∷ decimal s.periods ∷ [] in
    let end = codes "end" ∷ [] in
    let body = All-from_recursion (λ fields. fields ≢ []) (body_rows s) (runs-full (body_rows s) _ _ (runs-body s)) in
    let rest = All-append (λ fields. fields ≢ []) (body_rows s) (end ∷ []) body (All-cons (λ fields. fields ≢ []) end [] (λ e. cc e) (All-nil (λ fields. fields ≢ []))) in
    let more = All-append (λ fields. fields ≢ []) (body_rows s ++ end ∷ []) after rest full in
    let all = All-cons (λ fields. fields ≢ []) second ((body_rows s ++ end ∷ []) ++ after) (λ e. cc e) more in
    records-headed 110 (codes "etplan") (codes "1" ∷ []) (second ∷ ((body_rows s ++ end ∷ []) ++ after)) (omega arith)
    ∙ ap (λ (rows : List (List (List ℕ))). first ∷ rows) (back-whole (second ∷ ((body_rows s ++ end ∷ []) ++ after)) all)

written-records : (s : Scheme) → records_of (records_text (rows_of s)) ≡ rows_of s
written-records s =
    subst (λ (rows : List (List (List ℕ))). records_of (records_text rows) ≡ rows) (append-nil (rows_of s)) (written-followed s [] (All-nil (λ fields. fields ≢ [])))

pub read-back : (s : Scheme) (bytes : List ℕ) → bytes ≡ records_text (rows_of s)
    → (t : Tail) → (read_records t (records_of bytes) ≡ Ok (length (rows_of s))) × IsSchemeOf (records_of bytes) s
read-back s bytes e t = rw (e, written-records s) (written-read t s, written-scheme s)
