-- A name's number, as a set in order gives it.
use Rattle.std.specs.Prelude.{ℕ, ◌+◌, ◌<◌, slice_get, Bool, List, [], ◌∷◌, Option, Some, None, option_map, if◌then◌else◌, length, map, get_or, nat_lt, Vec}
use Rattle.std.specs.declared.alloc.Global.{Global}
use Rattle.std.specs.List.{IsDistinct, list_any, position, position_or_len}
use Rattle.std.specs.Str.{bytes_eq}
use Rattle.std.proofs.Common.{◌≡◌, ◌∙◌, ◌++◌, refl, ap, inl, inr, arith}
use Rattle.std.proofs.lemmas.Bool.{cases_Bool}
use Rattle.std.proofs.lemmas.Grind.{common_steps}
use Rattle.std.proofs.lemmas.List.{get_or-map, length-map, map-append}
use Rattle.std.proofs.lemmas.Map.Keys.{IsDistinct-from_apart, apart_from_distinct}
use Rattle.std.proofs.lemmas.Option.{get_or_from_slice_get, slice_get_within}
use Rattle.indexmap.specs.IndexSet.{insert_key}
use Rattle.np_records.specs.Names.{place_of}
use Rattle.np_records.proofs.Places.{none-any, place-own}

module _ {X : Type 0} (p : X → Bool) where
  -- the first place at which p holds
  abbrev first : List X → Option ℕ
  first [] = None
  first (x ∷ xs) = if p x then Some 0 else option_map (λ i. i + 1) (first xs)

  pub first-position : (xs : List X) → position p xs ≡ first xs
  first-position [] = refl
  first-position (x ∷ xs) = elim (cases_Bool (p x)) [
    | inl t ↦ rw t (grind (arith, common_steps))
    | inr f ↦ rw (f, ← first-position xs) (elim (cases_Bool (nat_lt (position_or_len p xs) (length xs))) [
      | inl t ↦ grind (arith, common_steps)
      | inr n ↦ grind (arith, common_steps)
    ])
  ]

first-place : (n : List ℕ) (ks : List (Vec ℕ Global)) → first (λ k. bytes_eq n k.items) ks ≡ place_of (map (λ k. k.items) ks) n
first-place n [] = refl
first-place n (k ∷ ks) = rw (first-place n ks) refl

-- the number that the set gives
pub position-place : (n : List ℕ) (ks : List (Vec ℕ Global)) → position (λ k. bytes_eq n k.items) ks ≡ place_of (map (λ k. k.items) ks) n
position-place n ks = first-position (λ k. bytes_eq n k.items) ks ∙ first-place n ks

any-name : (n : List ℕ) (ks : List (Vec ℕ Global)) → list_any (λ k. bytes_eq n k.items) ks ≡ list_any (bytes_eq n) (map (λ k. k.items) ks)
any-name n [] = refl
any-name n (k ∷ ks) = rw (any-name n ks) refl

-- a set that takes a name that is not there has it at its end
pub insert-name : (ks l : List (Vec ℕ Global)) (k : Vec ℕ Global) (n : List ℕ) → l ≡ insert_key (λ a b. bytes_eq a.items b.items) ks k
    → k.items ≡ n → place_of (map (λ v. v.items) ks) n ≡ None → map (λ v. v.items) l ≡ map (λ v. v.items) ks ++ n ∷ []
insert-name ks l k n e name none =
    let absent = any-name k.items ks ∙ none-any (map (λ v. v.items) ks) k.items (rw name none) in
    rw (e, absent, map-append, name) refl

-- keys that differ have names that differ
names-distinct : (ks : List (Vec ℕ Global)) (key : Vec ℕ Global) → IsDistinct (λ a b. bytes_eq a.items b.items) ks → IsDistinct bytes_eq (map (λ v. v.items) ks)
names-distinct ks key distinct = IsDistinct-from_apart bytes_eq (map (λ v. v.items) ks) (λ i j d before within.
    let all = length-map ks (λ (v : Vec ℕ Global). v.items) in
    let j_within : j < length ks = omega (arith, all) in
    rw (get_or-map (λ (v : Vec ℕ Global). v.items) ks i key d (omega arith), get_or-map (λ (v : Vec ℕ Global). v.items) ks j key d j_within)
    (apart_from_distinct (λ a b. bytes_eq a.items b.items) ks i j key distinct before j_within))

-- the place of a key is where it stands, among keys that differ
pub place-at : (ks : List (Vec ℕ Global)) (place : ℕ) (key : Vec ℕ Global) → IsDistinct (λ a b. bytes_eq a.items b.items) ks
    → slice_get ks place ≡ Some key → place_of (map (λ v. v.items) ks) key.items ≡ Some place
place-at ks place key distinct e =
    let within = slice_get_within ks place key e in
    let named : get_or (map (λ v. v.items) ks) place [] ≡ key.items =
    get_or-map (λ (v : Vec ℕ Global). v.items) ks place key [] within ∙ ap (λ (v : Vec ℕ Global). v.items) (get_or_from_slice_get ks place key key e) in
    let all = length-map ks (λ (v : Vec ℕ Global). v.items) in
    rw named at (place-own (map (λ v. v.items) ks) place (names-distinct ks key distinct) (omega (arith, all, within)))
