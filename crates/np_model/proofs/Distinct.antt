-- Names that are looked at one after the other are distinct where each is new.
use Rattle.std.specs.Prelude.{◌≡◌, ℕ, zero, suc, ◌+◌, ◌<◌, ◌≤◌, ◌||◌, not, Bool, true, false, cond, List, [], ◌∷◌, ◌++◌, length, get_or, take}
use Rattle.std.specs.List.{AllByRecursion, IsDistinct, list_any}
use Rattle.std.specs.Str.{bytes_eq}
use Rattle.std.proofs.Common.{refl, sym, ap, subst, ◌∙◌, inl, inr, arith, drop, drop-cons, add-one}
use Rattle.std.proofs.lemmas.Bool.{cases_Bool}
use Rattle.std.proofs.lemmas.Slice.Eq.{bytes_eq-Decides}
use Rattle.std.proofs.lemmas.List.{take_more, take_all, take-append-drop}
use Rattle.std.specs.Borrow.{Bor}
use Rattle.std.specs.HashSet.{contains}
use Rattle.np_model.specs.declared.scheme.Flow.{Flow}
use Rattle.np_model.specs.Scheme.Names.{flow_names}
use Rattle.np_model.specs.Steps.Tests.{Seen, have_same_bytes, Sees}

-- these are the names that were seen
abbrev pub HasSeen : Seen → List (List ℕ) → Type 0
HasSeen seen names = (name : Bor (List ℕ)) → contains have_same_bytes seen name ≡ list_any (λ other. bytes_eq name.now other) names

-- as far as the first i names: they were seen, and they are distinct
pub record AreNew (seen : Seen) (names : List (List ℕ)) : Type 0 where
  pub seen_are : HasSeen seen names
  pub distinct : IsDistinct bytes_eq names

same-names : (a b : List ℕ) → bytes_eq a b ≡ true → a ≡ b
same-names a b e = (bytes_eq-Decides a b).0 e

are-same : (a b : List ℕ) → a ≡ b → bytes_eq a b ≡ true
are-same a b e = (bytes_eq-Decides a b).1 e

turned : (a b : List ℕ) → bytes_eq a b ≡ bytes_eq b a
turned a b = elim (cases_Bool (bytes_eq a b)) [
  | inl t ↦ t ∙ sym (are-same b a (sym (same-names a b t)))
  | inr f ↦ elim (cases_Bool (bytes_eq b a)) [
    | inl t ↦ absurd (let s = are-same a b (sym (same-names b a t)) in cc)
    | inr g ↦ f ∙ sym g
  ]
]

or-swap : (a b c : Bool) → (a || (b || c)) ≡ (b || (a || c))
or-swap true true c = refl
or-swap true false c = refl
or-swap false b c = refl

or-is : (a b : Bool) → cond a true b ≡ (a || b)
or-is true b = refl
or-is false b = refl

not-seen : (s t : Bool) → t ≡ not s → t ≡ true → s ≡ false
not-seen true t e h = absurd (cc (e, h))
not-seen false t e h = refl

was-seen : (s t : Bool) → t ≡ not s → t ≡ false → s ≡ true
was-seen true t e h = refl
was-seen false t e h = absurd (cc (e, h))

any-push : (name : List ℕ) (names : List (List ℕ)) (x : List ℕ) → list_any (λ other. bytes_eq name other) (names ++ x ∷ []) ≡ (bytes_eq x name || list_any (λ other. bytes_eq name other) names)
any-push name [] x = ap (λ b. b || false) (turned name x)
any-push name (y ∷ ys) x = ap (λ b. bytes_eq name y || b) (any-push name ys x) ∙ or-swap (bytes_eq name y) (bytes_eq x name) (list_any (λ other. bytes_eq name other) ys)

each-push : (y : List ℕ) (ys : List (List ℕ)) (x : List ℕ) → AllByRecursion (λ z. bytes_eq y z ≡ false) ys → bytes_eq y x ≡ false → AllByRecursion (λ z. bytes_eq y z ≡ false) (ys ++ x ∷ [])
each-push y [] x h e = (e, tt)
each-push y (z ∷ zs) x h e = (h.0, each-push y zs x h.1 e)

or-false-left : (a b : Bool) → (a || b) ≡ false → a ≡ false
or-false-left true b e = e
or-false-left false b e = refl

or-false-right : (a b : Bool) → (a || b) ≡ false → b ≡ false
or-false-right true b e = absurd (cc e)
or-false-right false b e = e

distinct-push : (names : List (List ℕ)) (x : List ℕ) → IsDistinct bytes_eq names → list_any (λ other. bytes_eq x other) names ≡ false → IsDistinct bytes_eq (names ++ x ∷ [])
unfolding IsDistinct
distinct-push [] x h e = (tt, tt)
distinct-push (y ∷ ys) x h e =
    (each-push y ys x h.0 (turned y x ∙ or-false-left (bytes_eq x y) _ e), distinct-push ys x h.1 (or-false-right (bytes_eq x y) _ e))

each-not : (y : List ℕ) (ys : List (List ℕ)) (x : List ℕ) (rest : List (List ℕ)) → AllByRecursion (λ z. bytes_eq y z ≡ false) (ys ++ x ∷ rest) → bytes_eq y x ≡ false
each-not y [] x rest h = h.0
each-not y (z ∷ zs) x rest h = each-not y zs x rest h.1

distinct-clash : (names rest : List (List ℕ)) (x : List ℕ) → list_any (λ other. bytes_eq x other) names ≡ true → IsDistinct bytes_eq (names ++ x ∷ rest) → ⊥
unfolding IsDistinct
distinct-clash [] rest x e h = cc e
distinct-clash (y ∷ ys) rest x e h = elim (cases_Bool (bytes_eq x y)) [
  | inl t ↦ let f = each-not y ys x rest h.0 in let g = turned x y in absurd (cc)
  | inr f ↦ distinct-clash ys rest x (rw f at e) h.1
]

-- ---- along a list

pub new-none : (seen : Seen) → ((name : Bor (List ℕ)) → contains have_same_bytes seen name ≡ false) → AreNew seen []
unfolding IsDistinct
new-none seen h = record { seen_are = h; distinct = tt }

pub new-more : (old new : Seen) (names : List (List ℕ)) (i : ℕ) (name : Bor (List ℕ)) (is_new : Bool) → i < length names → name.now ≡ get_or names i name.now → Sees old new name is_new → is_new ≡ true → AreNew old (take i names) → AreNew new (take (i + 1) names)
new-more old new names i name is_new below here sees is so_far =
    let more : take (i + 1) names ≡ take i names ++ name.now ∷ [] = take_more names i name.now below ∙ ap (λ x. take i names ++ x ∷ []) (sym here) in
    let unseen : contains have_same_bytes old name ≡ false = not-seen (contains have_same_bytes old name) is_new sees.0 is in
    rw more (record {
      seen_are = λ other. sees.1.0 other ∙ or-is (bytes_eq name.now other.now) (contains have_same_bytes old other) ∙ ap (λ b. bytes_eq name.now other.now || b) (so_far.seen_are other) ∙ sym (any-push other.now (take i names) name.now);
      distinct = distinct-push (take i names) name.now so_far.distinct (sym (so_far.seen_are name) ∙ unseen);
    })

pub not-new : (old new : Seen) (names : List (List ℕ)) (i : ℕ) (name : Bor (List ℕ)) (is_new : Bool) → i < length names → name.now ≡ get_or names i name.now → Sees old new name is_new → is_new ≡ false → AreNew old (take i names) → IsDistinct bytes_eq names → ⊥
not-new old new names i name is_new below here sees is so_far distinct =
    let whole : names ≡ take i names ++ name.now ∷ drop (i + 1) names =
    sym (take-append-drop i names) ∙ ap (λ rest. take i names ++ rest) (rw (add-one, here) (drop-cons names i name.now below)) in
    let seen : contains have_same_bytes old name ≡ true = was-seen (contains have_same_bytes old name) is_new sees.0 is in
    distinct-clash (take i names) (drop (i + 1) names) name.now (sym (so_far.seen_are name) ∙ seen) (subst (IsDistinct bytes_eq) whole distinct)

pub new-all : (seen : Seen) (names : List (List ℕ)) (i : ℕ) → length names ≤ i → AreNew seen (take i names) → IsDistinct bytes_eq names
new-all seen names i h so_far = subst (IsDistinct bytes_eq) (take_all i names h) so_far.distinct

-- the name of the flow at a place is the name at that place
pub name-here : (flows : List Flow) (i : ℕ) (flow : Flow) (name : List ℕ) → i < length (flow_names flows) → name ≡ (get_or flows i flow).name → name ≡ get_or (flow_names flows) i name
name-here [] i flow name below e = absurd (omega arith)
name-here (f ∷ flows) zero flow name below e = e
name-here (f ∷ flows) (suc i) flow name below e = name-here flows i flow name (omega arith) e
