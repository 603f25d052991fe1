-- The text of an amount is one, and reading it gives the amount back.
use Rattle.std.specs.Prelude.{◌≡◌, ℕ, ◌/◌, ◌%◌, ◌^◌, ◌<◌, ◌≤◌, true, ℤ, pos, negsuc, List, ◌∷◌, ◌++◌, length}
use Rattle.std.specs.Fmt.{decimal}
use Rattle.std.proofs.Common.{refl, arith, sym, inl, inr}
use Rattle.std.proofs.lemmas.Bool.{cases_Bool}
use Rattle.std.proofs.lemmas.Fmt.{decimal_is_IsNumeral_wide}
use Rattle.np_frac.specs.Ratio.{Ratio}
use Rattle.np_frac.specs.Text.{point, minus_sign}
use Rattle.np_frac.specs.Amount.{amount_of, is_short, is_decimal, is_amount, is_amount_text}
use Rattle.np_frac.proofs.AmountTexts.{signed_text, Writes, short_writes, decimal_writes, decimal_if_not_short}
use Rattle.np_frac.proofs.TextTests.{amount-is}
use Rattle.net_csv.specs.AmountText.{billionths, nine_digits, decimal_form, amount_text}

pub decimal_some : (n : ℕ) → n < 10 ^ 64 → 1 ≤ length (decimal n)
decimal_some n wide = let some = (decimal_is_IsNumeral_wide n wide).0.0 in omega arith

signed_is : (z : ℤ) (ds t : List ℕ) → minus_sign z ++ ds ++ t ≡ signed_text z (ds ++ t)
signed_is (pos n) ds t = refl
signed_is (negsuc n) ds t = refl

decimal_form_writes : (r : Ratio) → is_decimal r ≡ true → Writes (decimal_form r) r
decimal_form_writes r h =
    let k = billionths r in
    rw (signed_is r.num (decimal (k / 10 ^ 9)) (point ∷ nine_digits (k % 10 ^ 9))) (decimal_writes r h)

amount_writes : (r : Ratio) → is_amount r ≡ true → Writes (amount_text r) r
amount_writes r h = elim (cases_Bool (is_short r)) [
  | inl t ↦ rw t (short_writes r t)
  | inr f ↦ rw f (decimal_form_writes r (decimal_if_not_short r h f))
]

pub amount_text-reads : (r : Ratio) → is_amount r ≡ true → is_amount_text (amount_text r) ≡ true
amount_text-reads r h = amount-is (amount_text r) (amount_writes r h).is

pub amount_text-value : (r : Ratio) → is_amount r ≡ true → amount_of (amount_text r) ≡ r
amount_text-value r h = sym (amount_writes r h).value
