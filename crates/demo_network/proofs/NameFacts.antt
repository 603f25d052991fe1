-- Names of a letter and a number.
use Rattle.std.specs.Prelude.{◌≡◌, ℕ, zero, suc, ◌+◌, ◌<◌, ◌≤◌, Bool, true, false, nat_lt, nat_le, List, ◌∷◌, length, drop, get_or, decimal}
use Rattle.std.specs.List.{AllByRecursion, IsDistinct, list_all, flat_map, range_with_len}
use Rattle.std.specs.Str.{bytes_eq}
use Rattle.std.specs.Str.Parse.{AllDigits}
use Rattle.std.specs.Char.{is_ascii_graphic}
use Rattle.std.specs.Cmp.Derive.{both_true}
use Rattle.std.proofs.Common.{refl, sym, ap, ◌∙◌, arith, lt-ltb, le-leb}
use Rattle.std.proofs.lemmas.Fmt.{decimal_is_IsNumeral, decimal_injective, length-decimal-le}
use Rattle.std.proofs.lemmas.List.Elements.{All-from_get_or}
use Rattle.std.proofs.lemmas.List.Sums.{list_all-from_AllPass}
use Rattle.std.proofs.lemmas.Slice.Eq.{bytes_eq-Decides}
use Rattle.std.proofs.lemmas.Str.Parse.{digit_at}
use Rattle.np_model.specs.Scheme.Names.{is_name}
use Rattle.demo_network.proofs.Lists.{all_joined, all_weaker, distinct_joined}

-- the name of a byte and a number from low and below high
abbrev pub IsNumbered : ℕ → ℕ → List ℕ → Type 0
IsNumbered low high name = (c : ℕ) × (k : ℕ) × (low ≤ k) × (k < high) × (name ≡ c ∷ decimal k)

not_true : (b : Bool) → (b ≡ true → ⊥) → b ≡ false
not_true true h = absurd (h refl)
not_true false h = refl

digits_print : (ds : List ℕ) → AllDigits 10 ds → list_all is_ascii_graphic ds ≡ true
digits_print ds h =
    list_all-from_AllPass is_ascii_graphic ds
    (All-from_get_or (λ c. is_ascii_graphic c ≡ true) ds 0
    (λ i below. let digit = digit_at ds i h below in both_true (le-leb 33 (get_or ds i 0) (omega arith)) (le-leb (get_or ds i 0) 126 (omega arith))))

-- a letter and a number are a name
pub named_is_name : (c k : ℕ) → is_ascii_graphic c ≡ true → k < 1000 → is_name (c ∷ decimal k) ≡ true
named_is_name c k g few =
    let short = length-decimal-le 3 k (omega arith) (omega arith) (omega arith) in
    let some : nat_lt 0 (length (c ∷ decimal k)) ≡ true = lt-ltb 0 (length (c ∷ decimal k)) (omega arith) in
    let little : nat_le (length (c ∷ decimal k)) 64 ≡ true = le-leb (length (c ∷ decimal k)) 64 (omega arith) in
    let prints = digits_print (decimal k) (decimal_is_IsNumeral k (omega arith)).0.1 in
    rw (some, little, g, prints) refl

-- names with different numbers differ
pub differ : (a : ℕ) (x y : List ℕ) → a < 1000 → IsNumbered a (a + 1) x → IsNumbered (a + 1) 1000 y → bytes_eq x y ≡ false
differ a x y few (c, j, low, high, e) (d, k, low', high', f) =
    not_true (bytes_eq x y)
    (λ t.
    let same : decimal j ≡ decimal k = ap (drop 1) (sym e ∙ (bytes_eq-Decides x y).0 t ∙ f) in
    let one = decimal_injective j k (omega arith) (omega arith) same in
    absurd (omega arith))

-- lists of names, one list a number, are distinct as a whole where each of them is
pub distinct_names : (own : ℕ → List (List ℕ)) (a m : ℕ) → a + m ≤ 1000 → ((k : ℕ) → IsDistinct bytes_eq (own k)) → ((k : ℕ) → AllByRecursion (IsNumbered k (k + 1)) (own k))
    → IsDistinct bytes_eq (flat_map own (range_with_len a m)) × AllByRecursion (IsNumbered a 1000) (flat_map own (range_with_len a m))
unfolding IsDistinct
distinct_names own a zero few distinct numbered = (tt, tt)
distinct_names own a (suc m) few distinct numbered =
    let rest = distinct_names own (a + 1) m (omega arith) distinct numbered in
    let later = flat_map own (range_with_len (a + 1) m) in (
      distinct_joined bytes_eq (own a) later (distinct a) rest.0
          (all_weaker (IsNumbered a (a + 1)) (λ x. AllByRecursion (λ y. bytes_eq x y ≡ false) later) (own a)
          (λ x here. all_weaker (IsNumbered (a + 1) 1000) (λ y. bytes_eq x y ≡ false) later (λ y there. differ a x y (omega arith) here there) rest.1) (numbered a)),
      all_joined (IsNumbered a 1000) (own a) later
          (all_weaker (IsNumbered a (a + 1)) (IsNumbered a 1000) (own a) (λ x (c, k, low, high, e). (c, k, low, omega arith, e)) (numbered a))
          (all_weaker (IsNumbered (a + 1) 1000) (IsNumbered a 1000) later (λ x (c, k, low, high, e). (c, k, omega arith, high, e)) rest.1),
    )
