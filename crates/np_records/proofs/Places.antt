-- The places of names: in lists that grow, and among names of which no two are the same.
use Rattle.std.specs.Prelude.{◌≡◌, ◌≢◌, ℕ, zero, suc, ◌+◌, ◌<◌, ◌≤◌, false, Option, Some, None, IsSome, unwrap_or, option_map, List, [], ◌∷◌, ◌++◌, length, take, drop, get_or, slice_get}
use Rattle.std.specs.List.{AllByRecursion, IsDistinct, list_any}
use Rattle.std.specs.Option.{option_or}
use Rattle.std.specs.Str.{bytes_eq}
use Rattle.std.proofs.Common.{refl, sym, ap, subst, ◌∙◌, inl, inr, arith, add-one}
use Rattle.std.proofs.Math.Seq.{split_at}
use Rattle.std.proofs.lemmas.Bool.{cases_Bool}
use Rattle.std.proofs.lemmas.Cmp.{nat_list_eq_equiv}
use Rattle.std.proofs.lemmas.List.{length-take-le}
use Rattle.std.proofs.lemmas.Map.Keys.{IsDistinct-push}
use Rattle.std.proofs.lemmas.Option.{slice_get_within}
use Rattle.std.proofs.lemmas.Slice.Eq.{bytes_eq-Decides}
use Rattle.np_records.specs.Names.{place_of, place_in}

-- the place of a name has that name
pub place-found : (names : List (List ℕ)) (name : List ℕ) (place : ℕ) → place_of names name ≡ Some place
    → slice_get names place ≡ Some name
place-found [] name place e = cc e
place-found (m ∷ ms) name place e = elim (cases_Bool (bytes_eq name m)) [
  | inl t ↦
      let same : name ≡ m = (bytes_eq-Decides name m).0 t in
      let here : place ≡ 0 = cc (rw t at e) in
      rw (here, same) refl
  | inr f ↦ later (place_of ms name) (λ i p. place-found ms name i p) (rw f at e)
]
  where
    later : (o : Option ℕ) → ((i : ℕ) → o ≡ Some i → slice_get ms i ≡ Some name) → option_map (λ i. i + 1) o ≡ Some place
        → slice_get (m ∷ ms) place ≡ Some name
    later None found q = cc q
    later (Some i) found q = let next : place ≡ i + 1 = cc q in rw (next, add-one) (found i refl)

-- a name that stands at some place is found, there or before
pub place-first : (names : List (List ℕ)) (name : List ℕ) (place : ℕ) → slice_get names place ≡ Some name
    → (least : ℕ) × (place_of names name ≡ Some least) × (least ≤ place)
place-first [] name place e = cc e
place-first (m ∷ ms) name zero e =
    let same : name ≡ m = cc e in
    let t = (bytes_eq-Decides name m).1 same in
    (0, rw t refl, omega arith)
place-first (m ∷ ms) name (suc k) e = elim (cases_Bool (bytes_eq name m)) [
  | inl t ↦ (0, rw t refl, omega arith)
  | inr f ↦
      let more = place-first ms name k e in
      (more.0 + 1, rw (f, more.1) refl, omega arith)
]

or-none : (o : Option ℕ) → o ≡ option_map (λ i. 0 + i) o
or-none None = refl
or-none (Some i) = ap (λ (n : ℕ). Some n) (omega arith)

or-next : (n : ℕ) (o p : Option ℕ)
    → option_map (λ i. i + 1) (option_or o (option_map (λ i. n + i) p)) ≡ option_or (option_map (λ i. i + 1) o) (option_map (λ i. suc n + i) p)
or-next n (Some i) p = refl
or-next n None None = refl
or-next n None (Some j) = ap (λ (k : ℕ). Some k) (omega arith)

-- the place of a name in a longer list
pub place_of-append : (before after : List (List ℕ)) (name : List ℕ)
    → place_of (before ++ after) name ≡ option_or (place_of before name) (option_map (λ place. length before + place) (place_of after name))
place_of-append [] after name = or-none (place_of after name)
place_of-append (m ∷ ms) after name = elim (cases_Bool (bytes_eq name m)) [
  | inl t ↦ rw t refl
  | inr f ↦ rw (f, place_of-append ms after name) (or-next (length ms) (place_of ms name) (place_of after name))
]

-- ---- a name that is there

some-is : (o : Option ℕ) → IsSome o → o ≡ Some (unwrap_or o 0)
some-is None h = absurd (cc h)
some-is (Some x) h = refl

pub place-is : (ns : List (List ℕ)) (n : List ℕ) → IsSome (place_of ns n) → place_of ns n ≡ Some (place_in ns n)
place-is ns n h = some-is (place_of ns n) h

pub place-within : (ns : List (List ℕ)) (n : List ℕ) → IsSome (place_of ns n) → place_in ns n < length ns
place-within ns n h = slice_get_within ns (place_in ns n) n (place-found ns n (place_in ns n) (place-is ns n h))

-- names that differ have places that differ
pub places-differ : (ns : List (List ℕ)) (m n : List ℕ) → IsSome (place_of ns m) → IsSome (place_of ns n) → bytes_eq m n ≡ false → place_in ns m ≢ place_in ns n
places-differ ns m n hm hn differ = λ same.
    let at_m = place-found ns m (place_in ns m) (place-is ns m hm) in
    let at_n = place-found ns n (place_in ns n) (place-is ns n hn) in
    let equal : m ≡ n = cc (ap (λ (k : ℕ). slice_get ns k) same) in
    cc ((bytes_eq-Decides m n).1 equal)

or-kept : (o p : Option ℕ) → IsSome o → option_or o p ≡ o
or-kept None p h = absurd (cc h)
or-kept (Some x) p h = refl

-- a name that is defined keeps its place when names are appended
pub place-kept : (ns ms : List (List ℕ)) (n : List ℕ) → IsSome (place_of ns n) → place_of (ns ++ ms) n ≡ place_of ns n
place-kept ns ms n h = place_of-append ns ms n ∙ or-kept (place_of ns n) _ h

pub some-kept : (ns ms : List (List ℕ)) (n : List ℕ) → IsSome (place_of ns n) → IsSome (place_of (ns ++ ms) n)
some-kept ns ms n h = rw (place-kept ns ms n h) h

-- ---- a name that is not there

map-none : (o : Option ℕ) → option_map (λ i. i + 1) o ≡ None → o ≡ None
map-none None e = refl
map-none (Some i) e = cc e

pub none-any : (ns : List (List ℕ)) (n : List ℕ) → place_of ns n ≡ None → list_any (bytes_eq n) ns ≡ false
none-any [] n e = refl
none-any (m ∷ ms) n e = elim (cases_Bool (bytes_eq n m)) [
  | inl t ↦ cc (rw t at e)
  | inr f ↦ rw f (none-any ms n (map-none (place_of ms n) (rw f at e)))
]

-- behind others it stands where these end
place-behind : (ns ms : List (List ℕ)) (n : List ℕ) → place_of ns n ≡ None → place_of (ns ++ n ∷ ms) n ≡ Some (length ns)
place-behind ns ms n none = place_of-append ns (n ∷ ms) n ∙ rw (none, (bytes_eq-Decides n n).1 refl) (ap (λ (i : ℕ). Some i) (omega arith))

-- ---- names of which no two are the same

pub distinct-none : IsDistinct bytes_eq []
unfolding IsDistinct
distinct-none = tt

-- and a new one
pub distinct-push : (ns : List (List ℕ)) (n : List ℕ) → IsDistinct bytes_eq ns → place_of ns n ≡ None → IsDistinct bytes_eq (ns ++ n ∷ [])
distinct-push ns n d none = IsDistinct-push nat_list_eq_equiv ns n d (none-any ns n none)

apart-from : (m n : List ℕ) (ns ms : List (List ℕ)) → AllByRecursion (λ y. bytes_eq m y ≡ false) (ns ++ n ∷ ms) → bytes_eq n m ≡ false
apart-from m n [] ms h = nat_list_eq_equiv.symm n m ∙ h.0
apart-from m n (y ∷ ns) ms h = apart-from m n ns ms h.1

-- a name behind distinct ones is not among them
pub place-new : (ns ms : List (List ℕ)) (n : List ℕ) → IsDistinct bytes_eq (ns ++ n ∷ ms) → place_of ns n ≡ None
unfolding IsDistinct
place-new [] ms n d = refl
place-new (m ∷ ns) ms n d =
    let apart : bytes_eq n m ≡ false = apart-from m n ns ms d.0 in
    rw (apart, place-new ns ms n d.1) refl

-- the last of distinct names
pub place-last : (ns ms : List (List ℕ)) (n : List ℕ) → IsDistinct bytes_eq (ns ++ n ∷ ms) → place_of (ns ++ n ∷ []) n ≡ Some (length ns)
place-last ns ms n d = place-behind ns [] n (place-new ns ms n d)

-- a name is not among those before it
pub absent-before : (ns : List (List ℕ)) (k : ℕ) (d : List ℕ) → IsDistinct bytes_eq ns → k < length ns → place_of (take k ns) (get_or ns k d) ≡ None
absent-before ns k d distinct h = place-new (take k ns) (drop (suc k) ns) (get_or ns k d) (subst (IsDistinct bytes_eq) (split_at ns k d h) distinct)

-- each stands at its own place
pub place-own : (ns : List (List ℕ)) (k : ℕ) → IsDistinct bytes_eq ns → k < length ns → place_of ns (get_or ns k []) ≡ Some k
place-own ns k d h =
    let n = get_or ns k [] in
    ap (λ (l : List (List ℕ)). place_of l n) (split_at ns k [] h)
    ∙ place-behind (take k ns) (drop (suc k) ns) n (absent-before ns k [] d h)
    ∙ ap (λ (i : ℕ). Some i) (length-take-le k ns (omega arith))

-- places that differ have names that differ
pub names-differ : (ns : List (List ℕ)) (j k : ℕ) → IsDistinct bytes_eq ns → j < length ns → k < length ns → ¬ (j ≡ k) → bytes_eq (get_or ns j []) (get_or ns k []) ≡ false
names-differ ns j k d hj hk apart = elim (cases_Bool (bytes_eq (get_or ns j []) (get_or ns k []))) [
  | inl t ↦
      let same = (bytes_eq-Decides (get_or ns j []) (get_or ns k [])).0 t in
      let at_j = place-own ns j d hj in
      let at_k = place-own ns k d hk in
      let both : Some j ≡ Some k = sym at_j ∙ ap (λ (n : List ℕ). place_of ns n) same ∙ at_k in
      absurd (apart (cc both))
  | inr f ↦ f
]
