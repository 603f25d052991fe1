-- The tests of texts hold exactly of these texts.
use Rattle.std.specs.Prelude.{◌≡◌, ◌↔◌, ℕ, ◌^◌, ◌<◌, ◌==◌, ◌&&◌, nat_lt, nat_le, Bool, true, false, IsTrue, List, [], ◌∷◌, length}
use Rattle.std.specs.List.{list_all}
use Rattle.std.specs.Char.{digit_value, is_ascii_digit}
use Rattle.std.specs.Str.Parse.{AllDigits}
use Rattle.std.proofs.Common.{refl, inl, inr, arith}
use Rattle.std.proofs.lemmas.Bool.{and_parts, cases_Bool, eqb-true, eq-eqb}
use Rattle.std.proofs.lemmas.Bool.Decides.{nat_tests}
use Rattle.np_frac.specs.Text.{IsNumber, is_number, number, point, stroke, unsigned_part, before_mark, from_mark, IsPart, IsFractionEnd, IsFraction, is_part_text, is_fraction_end, is_fraction_text}
use Rattle.np_frac.specs.Amount.{IsAmount, IsAmountEnd, is_amount_end, is_amount_text}

pub and-left : (a b : Bool) → (a && b) ≡ true → a ≡ true
and-left a b h = (and_parts a b h).0

pub and-right : (a b : Bool) → (a && b) ≡ true → b ≡ true
and-right a b h = (and_parts a b h).1

-- ---- numbers

digit-is : (c : ℕ) → digit_value c < 10 → is_ascii_digit c ≡ true
digit-is c h = grind (arith, nat_tests)

digit-value : (c : ℕ) → is_ascii_digit c ≡ true → digit_value c < 10
digit-value c h = grind (arith, nat_tests)

digits-are : (ds : List ℕ) → AllDigits 10 ds → list_all is_ascii_digit ds ≡ true
digits-are [] h = refl
digits-are (c ∷ cs) h = rw (digit-is c h.0, digits-are cs h.1) refl

digits-all : (ds : List ℕ) → list_all is_ascii_digit ds ≡ true → AllDigits 10 ds
digits-all [] h = tt
digits-all (c ∷ cs) h = (digit-value c (and-left (is_ascii_digit c) (list_all is_ascii_digit cs) h), digits-all cs (and-right (is_ascii_digit c) (list_all is_ascii_digit cs) h))

pub number-is : (most : ℕ) (ds : List ℕ) → IsNumber most ds → is_number most ds ≡ true
number-is most ds h =
    let a : nat_lt 0 (length ds) ≡ true = let p = h.numeral.0 in grind (arith, nat_tests) in
    let b : nat_le (length ds) most ≡ true = let p = h.short in grind (arith, nat_tests) in
    rw (a, b, digits-are ds h.numeral.1) refl

pub number-reads : (most : ℕ) (ds : List ℕ) → is_number most ds ≡ true → IsNumber most ds
number-reads most ds h =
    let sized : (nat_lt 0 (length ds) && nat_le (length ds) most) ≡ true = and-left (nat_lt 0 (length ds) && nat_le (length ds) most) _ h in
    let a : nat_lt 0 (length ds) ≡ true = and-left (nat_lt 0 (length ds)) _ sized in
    let b : nat_le (length ds) most ≡ true = and-right (nat_lt 0 (length ds)) _ sized in
    record {
      numeral = (grind (arith, nat_tests), digits-all ds (and-right (nat_lt 0 (length ds) && nat_le (length ds) most) _ h));
      short = grind (arith, nat_tests);
    }

-- ---- amounts

end-is : (bs : List ℕ) → IsAmountEnd bs → is_amount_end bs ≡ true
end-is [] h = refl
end-is (m ∷ ds) h = elim (cases_Bool (m == point)) [
  | inl t ↦ rw t (number-is 9 ds (rw t at h))
  | inr f ↦
      let k : IsNumber 19 ds × (0 < number ds) = rw f at h in
      let some : nat_lt 0 (number ds) ≡ true = let p = k.1 in grind (arith, nat_tests) in
      rw (f, number-is 19 ds k.0, some) refl
]

end-reads : (bs : List ℕ) → is_amount_end bs ≡ true → IsAmountEnd bs
end-reads [] h = tt
end-reads (m ∷ ds) h = elim (cases_Bool (m == point)) [
  | inl t ↦ rw t (number-reads 9 ds (rw t at h))
  | inr f ↦
      let k : (is_number 19 ds && nat_lt 0 (number ds)) ≡ true = rw f at h in
      let some : nat_lt 0 (number ds) ≡ true = and-right (is_number 19 ds) _ k in
      rw f (number-reads 19 ds (and-left (is_number 19 ds) _ k), grind (arith, nat_tests))
]

pub amount-is : (bs : List ℕ) → IsAmount bs → is_amount_text bs ≡ true
unfolding is_amount_text
amount-is bs h = rw (number-is 18 (before_mark (unsigned_part bs)) h.whole, end-is (from_mark (unsigned_part bs)) h.end) refl

pub amount-reads : (bs : List ℕ) → is_amount_text bs ≡ true → IsAmount bs
unfolding is_amount_text
amount-reads bs h =
    let whole = and-left (is_number 18 (before_mark (unsigned_part bs))) _ h in
    let end = and-right (is_number 18 (before_mark (unsigned_part bs))) _ h in
    record { whole = number-reads 18 (before_mark (unsigned_part bs)) whole; end = end-reads (from_mark (unsigned_part bs)) end }

-- ---- fractions

part-is : (ds : List ℕ) → IsPart ds → is_part_text ds ≡ true
part-is ds h =
    let fits : nat_lt (number ds) (2 ^ 127) ≡ true = let p = h.fits in grind (arith, nat_tests) in
    rw (number-is 39 ds h.digits, fits) refl

part-reads : (ds : List ℕ) → is_part_text ds ≡ true → IsPart ds
part-reads ds h =
    let fits : nat_lt (number ds) (2 ^ 127) ≡ true = and-right (is_number 39 ds) _ h in
    record { digits = number-reads 39 ds (and-left (is_number 39 ds) _ h); fits = grind (arith, nat_tests) }

lower-is : (bs : List ℕ) → IsFractionEnd bs → is_fraction_end bs ≡ true
lower-is [] h = refl
lower-is (m ∷ ds) h =
    let mark : (m == stroke) ≡ true = eq-eqb m stroke h.0 in
    let some : nat_lt 0 (number ds) ≡ true = let p = h.2 in grind (arith, nat_tests) in
    rw (mark, part-is ds h.1, some) refl

lower-reads : (bs : List ℕ) → is_fraction_end bs ≡ true → IsFractionEnd bs
lower-reads [] h = tt
lower-reads (m ∷ ds) h =
    let mark = and-left (m == stroke) _ (and-left ((m == stroke) && is_part_text ds) _ h) in
    let some : nat_lt 0 (number ds) ≡ true = and-right ((m == stroke) && is_part_text ds) _ h in
    (eqb-true m stroke mark, part-reads ds (and-right (m == stroke) _ (and-left ((m == stroke) && is_part_text ds) _ h)), grind (arith, nat_tests))

pub fraction-is : (bs : List ℕ) → IsFraction bs → is_fraction_text bs ≡ true
unfolding is_fraction_text
fraction-is bs h = rw (part-is (before_mark (unsigned_part bs)) h.upper, lower-is (from_mark (unsigned_part bs)) h.lower) refl

pub fraction-reads : (bs : List ℕ) → is_fraction_text bs ≡ true → IsFraction bs
unfolding is_fraction_text
fraction-reads bs h =
    let upper = and-left (is_part_text (before_mark (unsigned_part bs))) _ h in
    let lower = and-right (is_part_text (before_mark (unsigned_part bs))) _ h in
    record { upper = part-reads (before_mark (unsigned_part bs)) upper; lower = lower-reads (from_mark (unsigned_part bs)) lower }

-- ---- a text that is none

not-so : (b : Bool) → (b ≡ true → ⊥) → b ≡ false
not-so true h = absurd (h refl)
not-so false h = refl

pub not-number : (most : ℕ) (bs : List ℕ) → ¬ (IsNumber most bs) → is_number most bs ≡ false
not-number most bs h = not-so (is_number most bs) (λ t. h (number-reads most bs t))

pub not-amount : (bs : List ℕ) → ¬ (IsAmount bs) → is_amount_text bs ≡ false
not-amount bs h = not-so (is_amount_text bs) (λ t. h (amount-reads bs t))

pub not-fraction : (bs : List ℕ) → ¬ (IsFraction bs) → is_fraction_text bs ≡ false
not-fraction bs h = not-so (is_fraction_text bs) (λ t. h (fraction-reads bs t))

-- ---- both ways

pub number_tested : (most : ℕ) (bs : List ℕ) → IsTrue (is_number most bs) ↔ IsNumber most bs
number_tested most bs = (number-reads most bs, number-is most bs)

pub amount_tested : (bs : List ℕ) → IsTrue (is_amount_text bs) ↔ IsAmount bs
amount_tested bs = (amount-reads bs, amount-is bs)

pub fraction_tested : (bs : List ℕ) → IsTrue (is_fraction_text bs) ↔ IsFraction bs
fraction_tested bs = (fraction-reads bs, fraction-is bs)
