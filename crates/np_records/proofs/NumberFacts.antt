-- What the readers of whole numbers and periods answer.
use Rattle.std.specs.Prelude.{◌≡◌, ℕ, ◌^◌, ◌<◌, ◌≤◌, ◌&&◌, nat_le, true, false, Some, None, List, length}
use Rattle.std.proofs.Common.{refl, inl, inr, arith}
use Rattle.std.proofs.lemmas.Bool.{cases_Bool}
use Rattle.std.proofs.lemmas.Bool.Decides.{nat_tests}
use Rattle.std.proofs.lemmas.Int.Digits.{digits_value-lt}
use Rattle.std.proofs.Math.Nat.{pow-le-pow_right}
use Rattle.np_frac.specs.Text.{IsNumber, is_number, number}
use Rattle.np_frac.proofs.TextTests.{number-is, not-number}
use Rattle.np_records.specs.Rows.{whole_in, is_period}

pub whole-some : (bs : List ℕ) → IsNumber 9 bs → whole_in bs ≡ Some (number bs)
whole-some bs h = rw (number-is 9 bs h) refl

pub whole-none : (bs : List ℕ) → ¬ (IsNumber 9 bs) → whole_in bs ≡ None
whole-none bs h = rw (not-number 9 bs h) refl

power-more : (a b : ℕ) → a ≤ b → 10 ^ a ≤ 10 ^ b
power-more a b h = pow-le-pow_right (omega arith) h

pub number-few : (bs : List ℕ) → IsNumber 9 bs → number bs < 1000000000
number-few bs h =
    let small = digits_value-lt 10 bs h.numeral.1 in
    let more = power-more (length bs) 9 h.short in
    omega arith

pub period-none : (last : ℕ) (bs : List ℕ) → ¬ (IsNumber 9 bs) → is_period last bs ≡ false
period-none last bs h = rw (not-number 9 bs h) refl

pub period-low : (last : ℕ) (bs : List ℕ) → nat_le 1 (number bs) ≡ false → is_period last bs ≡ false
period-low last bs h = elim (cases_Bool (is_number 9 bs)) [
  | inl t ↦ rw (t, h) refl
  | inr f ↦ rw f refl
]

pub period-high : (last : ℕ) (bs : List ℕ) → nat_le (number bs) last ≡ false → is_period last bs ≡ false
period-high last bs h = elim (cases_Bool (is_number 9 bs && nat_le 1 (number bs))) [
  | inl t ↦ rw (t, h) refl
  | inr f ↦ rw f refl
]

pub period-is : (last : ℕ) (bs : List ℕ) → IsNumber 9 bs → 1 ≤ number bs → number bs ≤ last → is_period last bs ≡ true
period-is last bs h low high =
    let a : nat_le 1 (number bs) ≡ true = grind (arith, nat_tests) in
    let b : nat_le (number bs) last ≡ true = grind (arith, nat_tests) in
    rw (number-is 9 bs h, a, b) refl
