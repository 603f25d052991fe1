-- Sums of fractions over the least common denominator.
use Rattle.std.proofs.Common.{◌≡◌, ℕ, ◌<◌, ◌*◌, ◌/◌, ◌^◌, arith, sym, subst, ap, ◌∙◌, ℤ, pos, ◌*ℤ◌, ◌+ℤ◌, unsigned_abs}
use Rattle.std.specs.Int.{IsGcd}
use Rattle.std.proofs.Math.Nat.{mul-div_cancel'}
use Rattle.np_frac.specs.Ratio.{Ratio}
use Rattle.np_frac.specs.Steps.Signs.{cancel_scale, scale-one, scale-scale, +ℤ-*ℤ}
use Rattle.np_frac.specs.Steps.Found.{HasSum}
use Rattle.np_frac.specs.Lcm.{IsLcm, IsLcm-quotient, same_from_IsLcm}
use Rattle.np_frac.proofs.Fractions.{gcd-some}

-- the parts of a sum of fractions, from the greatest common divisor of the lower parts
pub record SumParts (p q : Ratio) (g : ℕ) (common : ℕ) (left right : ℤ) : Type 0 where
  pub is_gcd : IsGcd p.den q.den g
  pub common_is : common ≡ p.den * (q.den / g)
  pub left_is : left ≡ p.num *ℤ pos (q.den / g)
  pub right_is : right ≡ q.num *ℤ pos (p.den / g)

pub common_symm : (b d g : ℕ) → IsGcd b d g → b * (d / g) ≡ d * (b / g)
common_symm b d g h =
    let eb : g * (b / g) ≡ b = mul-div_cancel' g h.0 in
    let ed : g * (d / g) ≡ d = mul-div_cancel' g h.1 in
    let p = ap (λ (n : ℕ). n * (d / g)) eb in
    let q = ap (λ (n : ℕ). (b / g) * n) ed in
    omega arith

-- any parts of the sum are these
pub sum-common : (p q : Ratio) (g : ℕ) → IsGcd p.den q.den g → (h : HasSum p q) → h.common ≡ p.den * (q.den / g)
sum-common p q g is h = same_from_IsLcm p.den q.den h.common (p.den * (q.den / g)) h.least (IsLcm-quotient p.den q.den g (gcd-some _ _ _ q.lowest.positive is) is)

pub sum-left : (p q : Ratio) (g : ℕ) → IsGcd p.den q.den g → (h : HasSum p q) → h.left ≡ p.num *ℤ pos (q.den / g)
sum-left p q g is h =
    let e : h.common ≡ p.den * (q.den / g) = sum-common p q g is h in
    let k : (q.den / g) * p.den ≡ h.common = omega arith in
    cancel_scale h.left (p.num *ℤ pos (q.den / g)) p.den p.lowest.positive (h.left_is ∙ sym (scale-one p.num (q.den / g) p.den h.common k))

pub sum-right : (p q : Ratio) (g : ℕ) → IsGcd p.den q.den g → (h : HasSum p q) → h.right ≡ q.num *ℤ pos (p.den / g)
sum-right p q g is h =
    let e : h.common ≡ p.den * (q.den / g) = sum-common p q g is h in
    let s = common_symm p.den q.den g is in
    let k : (p.den / g) * q.den ≡ h.common = omega arith in
    cancel_scale h.right (q.num *ℤ pos (p.den / g)) q.den q.lowest.positive (h.right_is ∙ sym (scale-one q.num (p.den / g) q.den h.common k))

-- these parts are parts of the sum
pub HasSum-parts : (p q : Ratio) (g c : ℕ) (l r : ℤ) → SumParts p q g c l r → c < 2 ^ 127 → unsigned_abs l < 2 ^ 127 → unsigned_abs r < 2 ^ 127 → unsigned_abs (l +ℤ r) < 2 ^ 127 → HasSum p q
HasSum-parts p q g c l r s c_fits l_fits r_fits sum_fits =
    let is = s.is_gcd in
    let ec = s.common_is in
    let e = common_symm p.den q.den g is in
    record {
      common = c;
      left = l;
      right = r;
      least = subst (λ (n : ℕ). IsLcm p.den q.den n) (sym ec) (IsLcm-quotient p.den q.den g (gcd-some _ _ _ q.lowest.positive is) is);
      left_is = rw (s.left_is) (scale-one p.num (q.den / g) p.den c (omega arith));
      right_is = rw (s.right_is) (scale-one q.num (p.den / g) q.den c (omega arith));
      common_fits = c_fits;
      left_fits = l_fits;
      right_fits = r_fits;
      sum_fits = sum_fits;
    }

-- the sum over the common lower part is the sum of the ratios
pub sum-parts-same : (p q : Ratio) (g c : ℕ) (l r : ℤ) → SumParts p q g c l r → (l +ℤ r) *ℤ pos (p.den * q.den) ≡ (p.num *ℤ pos q.den +ℤ q.num *ℤ pos p.den) *ℤ pos c
sum-parts-same p q g c l r s =
    let ec = s.common_is in
    let e = common_symm p.den q.den g s.is_gcd in
    let f : c ≡ q.den * (p.den / g) = ec ∙ e in
    let a' = ap (λ (n : ℕ). q.den * n) ec in
    let b' = ap (λ (n : ℕ). p.den * n) f in
    let a = scale-scale p.num (q.den / g) (p.den * q.den) q.den c (omega arith) in
    let b = scale-scale q.num (p.den / g) (p.den * q.den) p.den c (omega arith) in
    rw (s.left_is, s.right_is)
    (+ℤ-*ℤ (p.num *ℤ pos (q.den / g)) (q.num *ℤ pos (p.den / g)) (pos (p.den * q.den))
    ∙ ap (λ (z : ℤ). z +ℤ (q.num *ℤ pos (p.den / g)) *ℤ pos (p.den * q.den)) a
    ∙ ap (λ (z : ℤ). (p.num *ℤ pos q.den) *ℤ pos c +ℤ z) b
    ∙ sym (+ℤ-*ℤ (p.num *ℤ pos q.den) (q.num *ℤ pos p.den) (pos c)))
