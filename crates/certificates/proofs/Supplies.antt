-- The supplies of a scheme fit fractions.
use Rattle.std.specs.Prelude.{◌≡◌, ◌*◌, ◌<◌, ◌^◌, ◌≤◌, ◌%◌, ◌==◌, nat_lt, Bool, true, false, ◌||◌, ◌&&◌, ◌⊎◌, unsigned_abs}
use Rattle.std.proofs.Common.{refl, arith, inl, inr, ltb-true, eqb-true}
use Rattle.std.proofs.lemmas.Nat.Gcd.{dvd_of_mod-eq-zero, le_of_dvd}
use Rattle.np_frac.specs.Ratio.{Ratio, zero_ratio}
use Rattle.np_frac.specs.Fits.{Fits}
use Rattle.np_frac.specs.Amount.{is_amount, is_short, is_decimal}
use Rattle.np_model.specs.declared.scheme.Scheme.{Scheme}
use Rattle.np_model.specs.Network.Flows.{at}
use Rattle.convex_arcs.specs.Schemes.{net_of}
use Rattle.np_runs.specs.Verdicts.{SuppliesFit}

either : (a b : Bool) → (a || b) ≡ true → (a ≡ true) ⊎ (b ≡ true)
either true b h = inl refl
either false b h = inr h

both : (a b : Bool) → (a && b) ≡ true → (a ≡ true) × (b ≡ true)
both true b h = (refl, h)
both false b h = absurd (cc h)

-- at most 18 digits over at most 19
short_fits : (r : Ratio) → is_short r ≡ true → Fits r
short_fits r h =
    let parts = both (nat_lt (unsigned_abs r.num) (10 ^ 18)) (nat_lt r.den (10 ^ 19)) h in
    let num : unsigned_abs r.num < 10 ^ 18 = ltb-true (unsigned_abs r.num) (10 ^ 18) parts.0 in
    let den : r.den < 10 ^ 19 = ltb-true r.den (10 ^ 19) parts.1 in
    record { num_fits = omega (arith, num); den_fits = omega (arith, den) }

-- a whole number of billionths, below 10 ^ 18 in size
decimal_fits : (r : Ratio) → is_decimal r ≡ true → Fits r
decimal_fits r h =
    let parts = both (10 ^ 9 % r.den == 0) (nat_lt (unsigned_abs r.num) (10 ^ 18 * r.den)) h in
    let den : r.den ≤ 10 ^ 9 = le_of_dvd (omega arith) (dvd_of_mod-eq-zero r.den (eqb-true (10 ^ 9 % r.den) 0 parts.0)) in
    let num : unsigned_abs r.num < 10 ^ 18 * r.den = ltb-true (unsigned_abs r.num) (10 ^ 18 * r.den) parts.1 in
    record { num_fits = omega (arith, num, den); den_fits = omega (arith, den) }

amount_fits : (r : Ratio) → is_amount r ≡ true → Fits r
unfolding is_amount
amount_fits r h = of_either (either (is_short r) (is_decimal r) h)
  where
    of_either : (is_short r ≡ true) ⊎ (is_decimal r ≡ true) → Fits r
    of_either (inl short) = short_fits r short
    of_either (inr decimal) = decimal_fits r decimal

pub supplies_fit : (scheme : Scheme) → SuppliesFit (net_of scheme)
supplies_fit scheme v below = amount_fits (at scheme.supply v) (scheme.valid.amounts v zero_ratio below)
