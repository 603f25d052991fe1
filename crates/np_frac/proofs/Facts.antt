-- What the laws state, where the lemmas say it in parts.
use Rattle.std.specs.Prelude.{◌≡◌, ◌≢◌, ℕ, ◌*◌, ◌<◌, Bool, true, false, pos, ◌+ℤ◌, ◌*ℤ◌, ◌≤ℤ◌, ◌<ℤ◌, ◌↔◌, IsTrue}
use Rattle.std.proofs.Common.{refl, subst, ap, sym, ◌∙◌}
use Rattle.np_frac.specs.Ratio.{Ratio, same_ratio, sum_is, sum_cross, product_is, product_cross, is_below, inverse, zero_ratio, ◌+ᵣ◌, ◌*ᵣ◌, ◌≤ᵣ◌, ◌<ᵣ◌}
use Rattle.np_frac.specs.Steps.Coprime.{scales}
use Rattle.np_frac.specs.Lcm.{IsLcm, IsLcm-quotient, lcm}
use Rattle.np_frac.proofs.Fractions.{gcd-some}
use Rattle.np_frac.proofs.RatioLaws.{is_below_true, is_below_false, clash, *ᵣ_assoc, *ᵣ_comm}
use Rattle.np_frac.proofs.Field.{*ᵣ-inverse, *ᵣ-one}

pub same_by_cross : (a b : Ratio) → (a ≡ b) ↔ (a.num *ℤ pos b.den ≡ b.num *ℤ pos a.den)
same_by_cross a b = (λ e. subst (λ (r : Ratio). a.num *ℤ pos r.den ≡ r.num *ℤ pos a.den) e refl, same_ratio a b)

pub sum_by_cross : (a b r : Ratio) → (r ≡ a +ᵣ b) ↔ (r.num *ℤ pos (a.den * b.den) ≡ (a.num *ℤ pos b.den +ℤ b.num *ℤ pos a.den) *ℤ pos r.den)
sum_by_cross a b r = (
  λ e. subst (λ (s : Ratio). s.num *ℤ pos (a.den * b.den) ≡ (a.num *ℤ pos b.den +ℤ b.num *ℤ pos a.den) *ℤ pos s.den) (sym e) (sum_cross a b),
  sum_is a b r,
)

pub product_by_cross : (a b r : Ratio) → (r ≡ a *ᵣ b) ↔ (r.num *ℤ pos (a.den * b.den) ≡ (a.num *ℤ b.num) *ℤ pos r.den)
product_by_cross a b r = (
  λ e. subst (λ (s : Ratio). s.num *ℤ pos (a.den * b.den) ≡ (a.num *ℤ b.num) *ℤ pos s.den) (sym e) (product_cross a b),
  product_is a b r,
)

pub at_most_by_cross : (a b : Ratio) → (a ≤ᵣ b) ↔ ((a.num *ℤ pos b.den) ≤ℤ (b.num *ℤ pos a.den))
at_most_by_cross a b = (λ h. h.cross, λ h. record { cross = h })

pub below_by_cross : (a b : Ratio) → (a <ᵣ b) ↔ ((a.num *ℤ pos b.den) <ℤ (b.num *ℤ pos a.den))
below_by_cross a b = (λ h. h.cross, λ h. record { cross = h })

by_test : (a b : Ratio) (t : Bool) → is_below a b ≡ t → a <ᵣ b → IsTrue t
by_test a b true e h = refl
by_test a b false e h = absurd (clash h (is_below_false a b e))

pub below_by_test : (a b : Ratio) → IsTrue (is_below a b) ↔ (a <ᵣ b)
below_by_test a b = (is_below_true a b, by_test a b (is_below a b) refl)

pub quotient_times : (a b : Ratio) → b ≢ zero_ratio → (a *ᵣ inverse b) *ᵣ b ≡ a
quotient_times a b h =
    *ᵣ_assoc a (inverse b) b ∙ ap (λ (r : Ratio). a *ᵣ r) (*ᵣ_comm (inverse b) b ∙ *ᵣ-inverse b h) ∙ *ᵣ-one a

pub lcm_is_least : (b d : ℕ) → 0 < b → 0 < d → IsLcm b d (lcm b d)
unfolding lcm
lcm_is_least b d some_b some_d =
    let s = scales b d in
    IsLcm-quotient b d s.divisor (gcd-some b d s.divisor some_d s.is_gcd) s.is_gcd
