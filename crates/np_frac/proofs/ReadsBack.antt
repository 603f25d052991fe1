-- The printed form is read back.
use Rattle.std.proofs.Common.{◌≡◌, ℕ, suc, ◌<◌, ◌^◌, ◌==◌, Bool, true, false, not, List, [], ◌∷◌, ◌++◌, length, arith, sym, ◌∙◌, refl, ℤ, pos, negsuc, eqb-true, if◌then◌else◌}
use Rattle.std.specs.List.{position_or_len}
use Rattle.std.specs.Str.Parse.{IsNumeral, AllDigits, starts_with_minus}
use Rattle.std.specs.Fmt.{decimal}
use Rattle.std.specs.Int.{IsInRange}
use Rattle.std.proofs.lemmas.Fmt.{decimal_is_IsNumeral_wide, length-decimal-le_wide}
use Rattle.std.proofs.lemmas.Str.Parse.{digit_from_value}
use Rattle.std.proofs.Math.Seq.{take-append_seam, drop-append_seam}
use Rattle.std.proofs.lemmas.Bool.Decides.{nat_tests}
use Rattle.np_frac.specs.Ratio.{Ratio, over_some, over-numbers}
use Rattle.np_frac.specs.Fits.{Fits}
use Rattle.np_frac.specs.Text.{stroke, is_mark, printed, unsigned_part, signed, before_mark, from_mark, number, IsPart, IsFraction, IsFractionEnd, fraction_lower, fraction_of}

-- ---- where digits end

no_mark : (c : ℕ) → IsInRange 48 57 c → not (is_mark c) ≡ true
no_mark c h = grind (arith)

place : (ds t : List ℕ) → AllDigits 10 ds → position_or_len is_mark t ≡ 0 → position_or_len is_mark (ds ++ t) ≡ length ds
place [] t h e = e
place (c ∷ cs) t h e =
    let k = no_mark c (digit_from_value c h.0) in
    let i = place cs t h.1 e in
    rw (k, i) (omega arith)

pub before_mark-digits : (ds t : List ℕ) → AllDigits 10 ds → position_or_len is_mark t ≡ 0 → before_mark (ds ++ t) ≡ ds
before_mark-digits ds t h e = rw (place ds t h e) (take-append_seam ds t)

pub from_mark-digits : (ds t : List ℕ) → AllDigits 10 ds → position_or_len is_mark t ≡ 0 → from_mark (ds ++ t) ≡ t
from_mark-digits ds t h e = rw (place ds t h e) (drop-append_seam ds t)

pub no_minus : (ds t : List ℕ) → IsNumeral 10 ds → starts_with_minus (ds ++ t) ≡ false
no_minus [] t h = absurd (omega (arith, h.0))
no_minus (c ∷ cs) t h = let k = digit_from_value c h.1.0 in grind (arith, nat_tests)

-- ---- decimals

pub decimal_part : (n : ℕ) → n < 2 ^ 127 → IsPart (decimal n)
decimal_part n h =
    let wide : n < 10 ^ 64 = omega arith in
    let small : n < 10 ^ 39 = omega arith in
    let k = decimal_is_IsNumeral_wide n wide in
    record {
      digits = record { numeral = k.0; short = length-decimal-le_wide 39 n (omega arith) small wide };
      fits = rw k.1 h;
    }

pub number-decimal : (n : ℕ) → n < 2 ^ 127 → number (decimal n) ≡ n
number-decimal n h = let wide : n < 10 ^ 64 = omega arith in (decimal_is_IsNumeral_wide n wide).1

-- ---- the parts of a printed form

abbrev end_of : Bool → ℕ → List ℕ
end_of whole d = if whole then [] else stroke ∷ decimal d

end_starts : (whole : Bool) (d : ℕ) → position_or_len is_mark (end_of whole d) ≡ 0
end_starts true d = refl
end_starts false d = refl

end_is : (whole : Bool) (d : ℕ) → 0 < d → d < 2 ^ 127 → IsFractionEnd (end_of whole d)
end_is true d some h = tt
end_is false d some h = (refl, decimal_part d h, rw (number-decimal d h) some)

end-lower : (whole : Bool) (d : ℕ) → (d == 1) ≡ whole → d < 2 ^ 127 → fraction_lower (end_of whole d) ≡ d
end-lower true d e h = sym (eqb-true d 1 e)
end-lower false d e h = number-decimal d h

-- what is read of a text whose unsigned part is this
read_as : (bs : List ℕ) (z : ℤ) (d : ℕ) → (n : ℕ) → unsigned_part bs ≡ decimal n ++ end_of (d == 1) d → signed bs n ≡ z → n < 2 ^ 127 → 0 < d → d < 2 ^ 127 → IsFraction bs × (fraction_of bs ≡ over_some z d)
read_as bs z d n u s h some k =
    let part = decimal_part n h in
    let start = end_starts (d == 1) d in
    let a = before_mark-digits (decimal n) (end_of (d == 1) d) part.digits.numeral.1 start in
    let b = from_mark-digits (decimal n) (end_of (d == 1) d) part.digits.numeral.1 start in (
      record { upper = rw (u, a) part; lower = rw (u, b) (end_is (d == 1) d some k) },
      rw (u, a, b, number-decimal n h, s, end-lower (d == 1) d refl k) refl,
    )

reads_parts : (z : ℤ) (r : Ratio) → r.num ≡ z → Fits r → IsFraction (printed r) × (fraction_of (printed r) ≡ over_some r.num r.den)
reads_parts (pos n) r e h =
    let m : starts_with_minus (printed r) ≡ false = rw e (no_minus (decimal n) (end_of (r.den == 1) r.den) (decimal_part n (rw e at h.num_fits)).digits.numeral) in
    read_as (printed r) r.num r.den n (rw m (rw e refl)) (rw m (sym e)) (rw e at h.num_fits) r.lowest.positive h.den_fits
reads_parts (negsuc n) r e h =
    read_as (printed r) r.num r.den (suc n) (rw e refl) (rw e refl) (rw e at h.num_fits) r.lowest.positive h.den_fits

pub printed_is_fraction : (r : Ratio) → Fits r → IsFraction (printed r)
printed_is_fraction r h = (reads_parts r.num r refl h).0

pub fraction_of_printed : (r : Ratio) → Fits r → fraction_of (printed r) ≡ r
fraction_of_printed r h = (reads_parts r.num r refl h).1 ∙ over-numbers r
