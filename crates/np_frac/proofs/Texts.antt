-- Numbers of a few digits.
use Rattle.std.specs.Prelude.{◌≡◌, ℕ, ◌^◌, ◌<◌, ◌≤◌, List, length, Ok, Err}
use Rattle.std.specs.Str.Parse.{ParsesUnsigned}
use Rattle.std.proofs.Common.{arith, subst}
use Rattle.std.proofs.Math.Nat.{pow-le-pow_right}
use Rattle.std.proofs.lemmas.Int.Digits.{digits_value-lt}
use Rattle.std.proofs.lemmas.Str.Parse.{numerals_by_value, tells_digits, parse_gives}
use Rattle.np_frac.specs.Text.{IsNumber, number}

-- digits write a number below a power of ten
pub number_below : (most : ℕ) (ds : List ℕ) → IsNumber most ds → number ds < 10 ^ most
number_below most ds h =
    let a = digits_value-lt 10 ds h.numeral.1 in
    let b : 10 ^ length ds ≤ 10 ^ most = pow-le-pow_right (omega arith) h.short in
    omega arith

-- no parse refuses 1 to 19 digits
pub not_refused : {E : Type 0} (most : ℕ) (ds text : List ℕ) (e : E) → most ≤ 19 → text ≡ ds → ParsesUnsigned 64 10 text (Err e) → ¬ (IsNumber most ds)
not_refused {E} most ds text e few same p h =
    let a = number_below most ds h in
    let b : 10 ^ most ≤ 10 ^ 19 = pow-le-pow_right (omega arith) few in
    let q : ParsesUnsigned 64 10 ds (Err e) = subst (λ (t : List ℕ). ParsesUnsigned 64 10 t (Err e)) same p in
    let r : Err e ≡ Ok (number ds) = parse_gives (numerals_by_value _ tells_digits) 64 ds (Err e) q h.numeral.1 h.numeral.0 (omega arith) in
    absurd (cc r)
