-- What records give, when one is added.
use Rattle.std.specs.Prelude.{◌≡◌, ℕ, zero, suc, ◌+◌, ◌*◌, ◌<◌, ◌==◌, not, true, false, Option, Some, None, is_some, unwrap_or, List, [], ◌∷◌, ◌++◌, length, map, set, get_or, slice_get, replicate}
use Rattle.std.specs.List.{filter_map, range_with_len}
use Rattle.std.specs.Option.{option_or}
use Rattle.std.proofs.Common.{refl, sym, ap, ◌∙◌, inl, inr, arith}
use Rattle.std.proofs.lemmas.Bool.{cases_Bool, eqb-true, eq-eqb}
use Rattle.std.proofs.lemmas.List.{append-nil, length-set, length-replicate, get_or-replicate, get_or-set_same, get_or-set_other}
use Rattle.std.proofs.lemmas.List.Elements.{filter_map-append}
use Rattle.std.proofs.lemmas.List.FromFn.{fill_by_all, get_or-map-range_with_len, length-map-range_with_len}
use Rattle.np_frac.specs.Ratio.{Ratio}
use Rattle.np_frac.specs.Text.{number}
use Rattle.np_records.specs.Names.{place_of}
use Rattle.np_records.specs.Records.{field_of}
use Rattle.np_records.specs.Rows.{is_kind}
use Rattle.certificates.specs.Fields.{fraction_in}
use Rattle.np_records.specs.Faults.{found}
use Rattle.certificates.specs.Claims.{place_with, amount_for, amounts_given}

or-none : {Y : Type 0} (o : Option Y) → option_or o None ≡ o
or-none None = refl
or-none (Some y) = refl

or-or : {Y : Type 0} (a b c : Option Y) → option_or a (option_or b c) ≡ option_or (option_or a b) c
or-or None b c = refl
or-or (Some y) b c = refl

pub found-push : {X Y : Type 0} (f : X → Option Y) (xs : List X) (x : X) → found f (xs ++ x ∷ []) ≡ option_or (found f xs) (f x)
found-push f [] x = or-none (f x)
found-push f (z ∷ zs) x = ap (λ o. option_or (f z) o) (found-push f zs x) ∙ or-or (f z) (found f zs) (f x)

-- a record that gives nothing
pub found-same : {X Y : Type 0} (f : X → Option Y) (xs : List X) (x : X) → f x ≡ None → found f (xs ++ x ∷ []) ≡ found f xs
found-same f xs x e = found-push f xs x ∙ rw e (or-none (found f xs))

-- the first that gives something
pub found-new : {X Y : Type 0} (f : X → Option Y) (xs : List X) (x : X) (o : Option Y) → found f xs ≡ None → f x ≡ o → found f (xs ++ x ∷ []) ≡ o
found-new f xs x o e h = found-push f xs x ∙ rw (e, h) refl

pub listed-same : {X Y : Type 0} (f : X → Option Y) (xs : List X) (x : X) → f x ≡ None → filter_map f (xs ++ x ∷ []) ≡ filter_map f xs
listed-same f xs x e = rw (filter_map-append f xs (x ∷ []), e) (append-nil (filter_map f xs))

map-same : {Y : Type 0} (f g : ℕ → Y) (n k : ℕ) → ((i : ℕ) → f i ≡ g i) → map f (range_with_len n k) ≡ map g (range_with_len n k)
map-same f g n zero h = refl
map-same f g n (suc k) h = rw (h n, map-same f g (n + 1) k h) refl

-- a record of another kind
pub amounts-same : (word : List ℕ) (names : List (List ℕ)) (periods : ℕ) (rows : List (List (List ℕ))) (r : List (List ℕ)) → is_kind r word ≡ false
    → amounts_given word names periods (rows ++ r ∷ []) ≡ amounts_given word names periods rows
amounts-same word names periods rows r f =
    map-same (λ place. found (amount_for word names place) (rows ++ r ∷ [])) (λ place. found (amount_for word names place) rows) 0 (periods * length names)
    (λ i. found-same (amount_for word names i) rows r (rw f refl))

pub amounts-length : (word : List ℕ) (names : List (List ℕ)) (periods : ℕ) (rows : List (List (List ℕ))) → length (amounts_given word names periods rows) ≡ periods * length names
amounts-length word names periods rows = length-map-range_with_len (λ place. found (amount_for word names place) rows) 0 (periods * length names)

amounts-at : (word : List ℕ) (names : List (List ℕ)) (periods : ℕ) (rows : List (List (List ℕ))) (k : ℕ) (d : Option Ratio) → k < periods * length names
    → get_or (amounts_given word names periods rows) k d ≡ found (amount_for word names k) rows
amounts-at word names periods rows k d h = get_or-map-range_with_len (λ place. found (amount_for word names place) rows) 0 (periods * length names) k k d h (omega arith)

pub get-slice : (xs : List (Option Ratio)) (k : ℕ) → unwrap_or (slice_get xs k) None ≡ get_or xs k None
get-slice [] k = refl
get-slice (x ∷ xs) zero = refl
get-slice (x ∷ xs) (suc k) = get-slice xs k

pub none-from : {Y : Type 0} (o : Option Y) → not (is_some o) ≡ true → o ≡ None
none-from None h = refl
none-from (Some y) h = absurd (cc h)

-- a record of the kind, for a place at which nothing was given
pub amounts-put : (word : List ℕ) (names : List (List ℕ)) (periods i place : ℕ) (rows : List (List (List ℕ))) (r : List (List ℕ)) → is_kind r word ≡ true
    → place_of names (field_of r 1) ≡ Some i → place ≡ place_with (length names) (number (field_of r 2)) i → place < periods * length names
    → not (is_some (unwrap_or (slice_get (amounts_given word names periods rows) place) None)) ≡ true
    → amounts_given word names periods (rows ++ r ∷ []) ≡ set (amounts_given word names periods rows) place (fraction_in (field_of r 3))
amounts-put word names periods i place rows r kind named is within free =
    sym (fill_by_all (λ k. found (amount_for word names k) (rows ++ r ∷ [])) (set (amounts_given word names periods rows) place (fraction_in (field_of r 3))) (periods * length names) None
    (length-set (amounts_given word names periods rows) place (fraction_in (field_of r 3)) ∙ amounts-length word names periods rows) at)
  where
    nothing : found (amount_for word names place) rows ≡ None
    nothing =
        let got = get-slice (amounts_given word names periods rows) place ∙ amounts-at word names periods rows place None within in
        none-from (found (amount_for word names place) rows) (rw got at free)

    at : (k : ℕ) → k < periods * length names → get_or (set (amounts_given word names periods rows) place (fraction_in (field_of r 3))) k None ≡ found (amount_for word names k) (rows ++ r ∷ [])
    at k h = elim (cases_Bool (place == k)) [
      | inl t ↦
          let same : k ≡ place = sym (eqb-true place k t) in
          let long : place < length (amounts_given word names periods rows) = rw (amounts-length word names periods rows) within in
          let hit : (place == place) ≡ true = eq-eqb place place refl in
          let gives : amount_for word names place r ≡ fraction_in (field_of r 3) = rw (kind, named, sym is, hit) refl in
          rw same (get_or-set_same (amounts_given word names periods rows) place (fraction_in (field_of r 3)) None long ∙ sym (found-new (amount_for word names place) rows r (fraction_in (field_of r 3)) nothing gives))
      | inr f ↦
          let other : k ≡ place → ⊥ = λ same. cc (f, eq-eqb place k (sym same)) in
          let gives : amount_for word names k r ≡ None = rw (kind, named, sym is, f) refl in
          get_or-set_other (amounts_given word names periods rows) place k (fraction_in (field_of r 3)) None other ∙ amounts-at word names periods rows k None h ∙ sym (found-same (amount_for word names k) rows r gives)
    ]

-- before any record nothing is given
pub amounts-none : (n : ℕ) (word : List ℕ) (names : List (List ℕ)) (periods : ℕ) → n ≡ periods * length names → replicate n None ≡ amounts_given word names periods []
amounts-none n word names periods e =
    rw e (fill_by_all (λ k. found (amount_for word names k) []) (replicate (periods * length names) None) (periods * length names) None
    (length-replicate (periods * length names) None) (λ (k : ℕ) (h : k < periods * length names). get_or-replicate (periods * length names) k None None h))
