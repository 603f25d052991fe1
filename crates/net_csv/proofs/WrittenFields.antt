-- The fields that are written have no fault, and stand for what was written.
use Rattle.std.specs.Prelude.{◌≡◌, ℕ, ◌≤◌, true, false, Some, None, List, codes, decimal}
use Rattle.std.proofs.Common.{refl, ap, inl, inr, arith}
use Rattle.std.proofs.lemmas.Bool.{cases_Bool}
use Rattle.std.proofs.lemmas.Slice.Eq.{bytes_eq-Decides}
use Rattle.std.proofs.lemmas.Fmt.{decimal_is_IsNumeral, length-decimal-le}
use Rattle.np_frac.specs.Ratio.{Ratio, zero_ratio, is_below, ◌≤ᵣ◌, ◌<ᵣ◌}
use Rattle.np_frac.specs.Text.{number, IsNumber}
use Rattle.np_frac.specs.Amount.{is_amount, is_amount_text}
use Rattle.np_frac.proofs.RatioLaws.{clash, is_below_true, is_below_false}
use Rattle.np_records.specs.Names.{place_of}
use Rattle.np_model.specs.declared.arc.Upper.{Upper}
use Rattle.np_model.specs.declared.arc.Upper.TheVariants.{Finite, Infinite}
use Rattle.np_model.specs.Network.Arcs.{IsAtMost, IsUnder, is_at_most, is_under}
use Rattle.np_model.specs.Scheme.Names.{is_name}
use Rattle.np_model.specs.Scheme.Valid.{is_amount_or_infinite}
use Rattle.net_csv.specs.Fields.{is_infinite, upper_of, amount_fault, upper_fault, gain_fault, new_fault, used_fault, is_all, period_fault, period_of}
use Rattle.np_records.specs.Rows.{is_period}
use Rattle.net_csv.specs.AmountText.{amount_text}
use Rattle.net_csv.specs.Writing.{upper_text}
use Rattle.net_csv.proofs.AmountTexts.{amount_text-reads, amount_text-value}
use Rattle.np_records.proofs.NumberFacts.{period-is}

-- ---- the order of ratios as tests

pub not_below : (a b : Ratio) → a ≤ᵣ b → is_below b a ≡ false
not_below a b h = elim (cases_Bool (is_below b a)) [
  | inl t ↦ absurd (clash (is_below_true b a t) h)
  | inr f ↦ f
]

pub below : (a b : Ratio) → a <ᵣ b → is_below a b ≡ true
below a b h = elim (cases_Bool (is_below a b)) [
  | inl t ↦ t
  | inr f ↦ absurd (clash h (is_below_false a b f))
]

pub at_most : (a : Ratio) (u : Upper) → IsAtMost a u → is_at_most a u ≡ true
at_most a (Finite u) h = rw (not_below a u h) refl
at_most a Infinite h = refl

pub wide : (u : Upper) → IsUnder zero_ratio u → is_under zero_ratio u ≡ true
wide (Finite u) h = below zero_ratio u h
wide Infinite h = refl

-- ---- amounts and bounds

pub amount-fine : (r : Ratio) → is_amount r ≡ true → amount_fault (amount_text r) ≡ None
amount-fine r h = rw (amount_text-reads r h) refl

pub gain-fine : (r : Ratio) → is_amount r ≡ true → zero_ratio <ᵣ r → gain_fault (amount_text r) ≡ None
gain-fine r h some = rw (amount_text-reads r h, amount_text-value r h, below zero_ratio r some) refl

infinite-no_amount : is_amount_text (codes "inf") ≡ false
unfolding is_amount_text
infinite-no_amount = refl

amount-finite : (bs : List ℕ) → is_amount_text bs ≡ true → is_infinite bs ≡ false
amount-finite bs h = elim (cases_Bool (is_infinite bs)) [
  | inl t ↦
      let same = (bytes_eq-Decides bs (codes "inf")).0 t in
      cc (ap (λ (l : List ℕ). is_amount_text l) same, h, infinite-no_amount)
  | inr f ↦ f
]

pub upper-fine : (u : Upper) → is_amount_or_infinite u ≡ true → upper_fault (upper_text u) ≡ None
upper-fine (Finite u) h = let reads = amount_text-reads u h in rw (amount-finite (amount_text u) reads, reads) refl
upper-fine Infinite h = refl

pub upper-value : (u : Upper) → is_amount_or_infinite u ≡ true → upper_of (upper_text u) ≡ u
upper-value (Finite u) h = rw (amount-finite (amount_text u) (amount_text-reads u h), amount_text-value u h) refl
upper-value Infinite h = refl

-- ---- names

pub new-fine : (names : List (List ℕ)) (name : List ℕ) → is_name name ≡ true → place_of names name ≡ None → new_fault names name ≡ None
new-fine names name h e = rw (h, e) refl

pub used-fine : (names : List (List ℕ)) (name : List ℕ) (k : ℕ) → place_of names name ≡ Some k → used_fault names name ≡ None
used-fine names name k e = rw e refl

-- ---- whole numbers

pub number-decimal : (n : ℕ) → n ≤ 20000 → number (decimal n) ≡ n
number-decimal n h = (decimal_is_IsNumeral n (omega arith)).1

decimal-number : (n : ℕ) → n ≤ 20000 → IsNumber 9 (decimal n)
decimal-number n h = record { numeral = (decimal_is_IsNumeral n (omega arith)).0; short = length-decimal-le 9 n (omega arith) (omega arith) (omega arith) }

pub decimal-period : (most n : ℕ) → 1 ≤ n → n ≤ most → most ≤ 20000 → is_period most (decimal n) ≡ true
decimal-period most n low high few =
    let value = number-decimal n (omega arith) in
    period-is most (decimal n) (decimal-number n (omega arith)) (omega arith) (omega arith)

star-no_period : (most : ℕ) → is_period most (codes "*") ≡ false
star-no_period most = refl

decimal-no_star : (most n : ℕ) → is_period most (decimal n) ≡ true → is_all (decimal n) ≡ false
decimal-no_star most n h = elim (cases_Bool (is_all (decimal n))) [
  | inl t ↦
      let same = (bytes_eq-Decides (decimal n) (codes "*")).0 t in
      cc (ap (λ (l : List ℕ). is_period most l) same, h, star-no_period most)
  | inr f ↦ f
]

pub period-fine : (most n : ℕ) → 1 ≤ n → n ≤ most → most ≤ 20000 → period_fault most (decimal n) ≡ None
period-fine most n low high few =
    let right = decimal-period most n low high few in
    rw (decimal-no_star most n right, right) refl

pub period-value : (most n : ℕ) → 1 ≤ n → n ≤ most → most ≤ 20000 → period_of (decimal n) ≡ Some n
period-value most n low high few =
    let right = decimal-period most n low high few in
    rw (decimal-no_star most n right, number-decimal n (omega arith)) refl
