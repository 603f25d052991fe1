-- The first refusal of a list, as a loop finds it.
use Rattle.std.specs.Prelude.{◌≡◌, ℕ, ◌+◌, ◌<◌, ◌≤◌, Option, Some, None, Result, Ok, Err, List, [], ◌∷◌, ◌++◌, length}
use Rattle.std.proofs.Common.{refl, sym, ap, subst, ◌∙◌, arith, get_or, take, add-one}
use Rattle.std.proofs.lemmas.List.{take_all, take-append-drop}
use Rattle.np_frac.proofs.Folds.{one_more}
use Rattle.cert_checker.specs.Walk.{or_then, first_refusal, accepted_unless, goes_on_unless, UnlessMemory}
use Rattle.cert_checker.specs.declared.answer.CheckRefusal.{CheckRefusal}
use Rattle.cert_checker.specs.declared.answer.CheckRefusal.TheVariants as refusal

or_then_assoc : (a b c : Option CheckRefusal) → or_then (or_then a b) c ≡ or_then a (or_then b c)
or_then_assoc None b c = refl
or_then_assoc (Some r) b c = refl

first-append : {A : Type 0} (f : A → Option CheckRefusal) (xs ys : List A) → first_refusal f (xs ++ ys) ≡ or_then (first_refusal f xs) (first_refusal f ys)
first-append f [] ys = refl
first-append f (x ∷ xs) ys = rw (first-append f xs ys) (sym (or_then_assoc (f x) (first_refusal f xs) (first_refusal f ys)))

or_none : (a : Option CheckRefusal) → or_then a None ≡ a
or_none None = refl
or_none (Some r) = refl

-- no refusal so far, and none at one more
pub first_more : {A : Type 0} (f : A → Option CheckRefusal) (xs : List A) (i : ℕ) (y : A) → i < length xs → get_or xs i y ≡ y → first_refusal f (take i xs) ≡ None → f y ≡ None → first_refusal f (take (i + 1) xs) ≡ None
first_more f xs i y h e so_far here = rw (one_more xs i y h e, first-append f (take i xs) (y ∷ []), so_far, here) refl

-- no refusal before, and one here
pub first_found : {A : Type 0} (f : A → Option CheckRefusal) (xs : List A) (i : ℕ) (y : A) (r : CheckRefusal) → i < length xs → get_or xs i y ≡ y → first_refusal f (take i xs) ≡ None → f y ≡ Some r → first_refusal f xs ≡ Some r
first_found {A} f xs i y r h e so_far here =
    ap (first_refusal f) (sym (take-append-drop (i + 1) xs))
    ∙ first-append f (take (i + 1) xs) (Rattle.std.proofs.Common.drop (i + 1) xs)
    ∙ rw (one_more xs i y h e, first-append f (take i xs) (y ∷ []), so_far, here) refl

-- no refusal up to the end
pub first_none : {A : Type 0} (f : A → Option CheckRefusal) (xs : List A) (i : ℕ) → length xs ≤ i → first_refusal f (take i xs) ≡ None → first_refusal f xs ≡ None
first_none {A} f xs i h so_far = ap (first_refusal f) (sym (take_all i xs h)) ∙ so_far

pub first_each : {A : Type 0} (f g : A → Option CheckRefusal) (xs : List A) → ((x : A) → f x ≡ g x) → first_refusal f xs ≡ first_refusal g xs
first_each f g [] h = refl
first_each f g (x ∷ xs) h = rw (h x, first_each f g xs h) refl

pub accepted_ok : (o : Option CheckRefusal) (u : Unit {0}) (res : Result (Unit {0}) CheckRefusal) → res ≡ goes_on_unless o → res ≡ Ok u → o ≡ None
accepted_ok None u res e f = refl
accepted_ok (Some r) u res e f = absurd (cc (e, f))

pub accepted_err : (o : Option CheckRefusal) (r : CheckRefusal) (res : Result (Unit {0}) CheckRefusal) → res ≡ goes_on_unless o → res ≡ Err r → o ≡ Some r
accepted_err None r res e f = absurd (cc (e, f))
accepted_err (Some s) r res e f = cc (e, f)

-- a loop that tests one element after the other, and stops at the first refusal
module _ {A : Type 0} (f : A → Option CheckRefusal) (xs : List A) (i : ℕ) (y : A) (res : Result (Unit {0}) CheckRefusal) where
  pub goes_on : (u : Unit {0}) → i < length xs → get_or xs i y ≡ y → first_refusal f (take i xs) ≡ None → res ≡ goes_on_unless (f y) → res ≡ Ok u → first_refusal f (take (i + 1) xs) ≡ None
  goes_on u h e so_far here ok = first_more f xs i y h e so_far (accepted_ok (f y) u res here ok)

  pub stops : (r : CheckRefusal) → i < length xs → get_or xs i y ≡ y → first_refusal f (take i xs) ≡ None → res ≡ goes_on_unless (f y) → res ≡ Err r → Err r ≡ goes_on_unless (first_refusal f xs)
  stops r h e so_far here err = rw (first_found f xs i y r h e so_far (accepted_err (f y) r res here err)) refl

pub finds_none : {A : Type 0} (f : A → Option CheckRefusal) (xs : List A) (i : ℕ) → length xs ≤ i → first_refusal f (take i xs) ≡ None → Ok tt ≡ goes_on_unless (first_refusal f xs)
finds_none f xs i h so_far = rw (first_none f xs i h so_far) refl

-- an answer that is the one that is meant
pub as_meant : {A : Type 0} (result meant : Result A CheckRefusal) → result ≡ meant → UnlessMemory result meant
as_meant (Ok x) meant e = e
as_meant (Err refusal.Memory) meant e = tt
as_meant (Err (refusal.Reject clause name period)) meant e = e
as_meant (Err (refusal.Past row past)) meant e = e

-- ---- one part of the walk after the other

-- a refusal of the first part is that of the whole
pub first_part : (a b : Option CheckRefusal) (r : CheckRefusal) (res : Result (Unit {0}) CheckRefusal) → UnlessMemory res (goes_on_unless a) → res ≡ Err r → UnlessMemory (Err r) (goes_on_unless (or_then a b))
first_part a b r res h e = told a b r (subst (λ (z : Result (Unit {0}) CheckRefusal). UnlessMemory z (goes_on_unless a)) e h)
  where
    told : (a b : Option CheckRefusal) (r : CheckRefusal) → UnlessMemory (Err r) (goes_on_unless a) → UnlessMemory (Err r) (goes_on_unless (or_then a b))
    told a b refusal.Memory h = tt
    told None b (refusal.Reject clause name period) h = absurd (cc h)
    told (Some s) b (refusal.Reject clause name period) h = h
    told None b (refusal.Past row past) h = absurd (cc h)
    told (Some s) b (refusal.Past row past) h = h

-- a part that holds has no refusal
pub part_holds : (a : Option CheckRefusal) (u : Unit {0}) (res : Result (Unit {0}) CheckRefusal) → UnlessMemory res (goes_on_unless a) → res ≡ Ok u → a ≡ None
part_holds a u res h e = told a u (subst (λ (z : Result (Unit {0}) CheckRefusal). UnlessMemory z (goes_on_unless a)) e h)
  where
    told : (a : Option CheckRefusal) (u : Unit {0}) → UnlessMemory (Ok u) (goes_on_unless a) → a ≡ None
    told None u h = refl
    told (Some r) u h = absurd (cc h)

pub next_part : (a b : Option CheckRefusal) (res : Result (Unit {0}) CheckRefusal) → a ≡ None → UnlessMemory res (goes_on_unless b) → UnlessMemory res (goes_on_unless (or_then a b))
next_part a b res e h = rw e h

-- the answer of the whole walk
pub whole_refused : {A : Type 0} (w : Option CheckRefusal) (x : A) (r : CheckRefusal) (res : Result (Unit {0}) CheckRefusal) → UnlessMemory res (goes_on_unless w) → res ≡ Err r → UnlessMemory (Err r) (accepted_unless w x)
whole_refused {A} w x r res h e = told w r (subst (λ (z : Result (Unit {0}) CheckRefusal). UnlessMemory z (goes_on_unless w)) e h)
  where
    told : (w : Option CheckRefusal) (r : CheckRefusal) → UnlessMemory (Err r) (goes_on_unless w) → UnlessMemory (Err r) (accepted_unless w x)
    told w refusal.Memory h = tt
    told None (refusal.Reject clause name period) h = absurd (cc h)
    told (Some s) (refusal.Reject clause name period) h = let same : refusal.Reject clause name period ≡ s = cc h in ap Err same
    told None (refusal.Past row past) h = absurd (cc h)
    told (Some s) (refusal.Past row past) h = let same : refusal.Past row past ≡ s = cc h in ap Err same
