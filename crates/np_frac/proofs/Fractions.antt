-- Fractions in lowest terms.
use Rattle.std.proofs.Common.{◌≡◌, ℕ, ◌<◌, ◌≤◌, ◌*◌, ◌/◌, ◌^◌, max, arith, sym, subst, ap, ◌∙◌, ℤ, pos, neg_ℤ, ◌*ℤ◌, ◌<ℤ◌, ◌≤ℤ◌, unsigned_abs, to_z}
use Rattle.std.specs.Int.{IsGcd, w128, ◌∣◌}
use Rattle.std.proofs.Math.Nat.{dvd-mul_left, mul-div_cancel', pos_of_dvd_of_pos, mul-pos, div-le_self, le-max_left}
use Rattle.std.proofs.lemmas.Int.{ints, unsigned_abs-mul, to_z_pos}
use Rattle.std.proofs.lemmas.Nat.Gcd.{le_of_dvd, IsGcd-swap}
use Rattle.np_frac.specs.Fits.{Fit, Fits}
use Rattle.np_frac.specs.Steps.Found.{IsReduced}
use Rattle.np_frac.specs.Ratio.{Ratio, IsLowest, made, over_is, over_some, product_is, same_ratio, ◌*ᵣ◌}
use Rattle.np_frac.specs.Steps.Signs.{unsigned_abs-neg, cross_trans, cross-products, up-*, down-*, from_cross}
use borrow.Author.Differences.{up, down, same_in, neg_is}
use Rattle.np_frac.specs.Steps.Coprime.{coprime-quotients, coprime-products, coprime-divisors}

pub Fit-neg : {z : ℤ} {d : ℕ} → Fit z d → Fit (neg_ℤ z) d
Fit-neg {z} {d} h = record { num_fits = rw (unsigned_abs-neg z) h.num_fits; den_fits = h.den_fits }

-- a divisor of a number above 0 is above 0 and no greater
pub gcd-some : (a b g : ℕ) → 0 < b → IsGcd a b g → 0 < g
gcd-some a b g some h = pos_of_dvd_of_pos h.1 some

pub gcd-le : (a b g : ℕ) → 0 < b → IsGcd a b g → g ≤ b
gcd-le a b g some h = le_of_dvd some h.1

-- what division by the greatest common divisor leaves
pub IsReduced-quotients : (num : ℤ) (den g : ℕ) (x : ℤ) → 0 < den → IsGcd (unsigned_abs num) den g → num ≡ pos g *ℤ x → IsReduced num den x (den / g)
IsReduced-quotients num den g x some h e =
    let y : g * (den / g) ≡ den = mul-div_cancel' g h.1 in
    let above : 0 < g = gcd-some _ _ _ some h in
    let e' : g * unsigned_abs x ≡ unsigned_abs num = sym (ap unsigned_abs e ∙ unsigned_abs-mul (pos g) x) in
    record {
      factor = g;
      some = above;
      num_is = e;
      den_is = sym y;
      lowest = record {
        positive = grind arith;
        coprime = coprime-quotients _ _ g _ _ above h e' y;
      };
    }

-- with no common divisor there is nothing to divide by
pub IsReduced-coprime : (num : ℤ) (den g : ℕ) → 0 < den → IsGcd (unsigned_abs num) den g → g ≡ 1 → IsReduced num den num den
IsReduced-coprime num den g some h e =
    record {
      factor = 1;
      some = omega arith;
      num_is = same_in _ _ (simp (up-*, down-*) (omega arith));
      den_is = omega arith;
      lowest = record { positive = some; coprime = subst (λ (k : ℕ). IsGcd (unsigned_abs num) den k) e h };
    }

-- the parts of a reduced fraction divide the parts before
upper-divides : (a : ℤ) (d : ℕ) (x : ℤ) (y : ℕ) → IsReduced a d x y → unsigned_abs x ∣ unsigned_abs a
upper-divides a d x y r = subst (λ k. unsigned_abs x ∣ k) (sym (ap unsigned_abs r.num_is ∙ unsigned_abs-mul (pos r.factor) x)) (dvd-mul_left (unsigned_abs x) r.factor)

lower-divides : (a : ℤ) (d : ℕ) (x : ℤ) (y : ℕ) → IsReduced a d x y → y ∣ d
lower-divides a d x y r = subst (λ k. y ∣ k) (sym r.den_is) (dvd-mul_left y r.factor)

pub times_neg : (k : ℕ) (q : ℤ) → pos k *ℤ neg_ℤ q ≡ neg_ℤ (pos k *ℤ q)
times_neg k q =
    let m = neg_is q in
    let n = neg_is (pos k *ℤ q) in
    let a = ap (λ (t : ℕ). k * t) m.0 in
    let b = ap (λ (t : ℕ). k * t) m.1 in
    same_in _ _ (omega (arith, n, a, b, up-* (pos k) (neg_ℤ q), down-* (pos k) (neg_ℤ q), up-* (pos k) q, down-* (pos k) q))

-- an exact quotient by its size and its sign
pub quotient_below : (z : ℤ) (k : ℕ) → k ∣ unsigned_abs z → z <ℤ pos 0 → z ≡ pos k *ℤ neg_ℤ (pos (unsigned_abs z / k))
quotient_below z k d h =
    let e : k * (unsigned_abs z / k) ≡ unsigned_abs z = mul-div_cancel' k d in
    omega (arith, ints, times_neg k (pos (unsigned_abs z / k)))

pub quotient_not_below : (z : ℤ) (k : ℕ) → k ∣ unsigned_abs z → pos 0 ≤ℤ z → z ≡ pos k *ℤ pos (unsigned_abs z / k)
quotient_not_below z k d h =
    let e : k * (unsigned_abs z / k) ≡ unsigned_abs z = mul-div_cancel' k d in
    same_in _ _ (simp (up-*, down-*) (omega (arith, ints)))

-- the product of two fractions, cancelled across
pub IsLowest-product : (a c : ℤ) (b d : ℕ) (x u : ℤ) (y v : ℕ) → IsLowest a b → IsLowest c d → IsReduced a d x y → IsReduced c b u v → IsLowest (x *ℤ u) (v * y)
IsLowest-product a c b d x u y v ab cd r s = record {
  positive = mul-pos s.lowest.positive r.lowest.positive;
  coprime = rw (unsigned_abs-mul x u)
      (coprime-products (unsigned_abs x) (unsigned_abs u) v y
      (coprime-divisors _ _ _ _ ab.coprime (upper-divides _ _ _ _ r) (lower-divides _ _ _ _ s))
      r.lowest.coprime
      s.lowest.coprime
      (coprime-divisors _ _ _ _ cd.coprime (upper-divides _ _ _ _ s) (lower-divides _ _ _ _ r)));
}

pub product-is : (a c : ℤ) (b d : ℕ) (x u : ℤ) (y v : ℕ) → IsReduced a d x y → IsReduced c b u v → (x *ℤ u) *ℤ pos (b * d) ≡ (a *ℤ c) *ℤ pos (v * y)
product-is a c b d x u y v r s =
    cross-products a (pos b) c (pos d) x u (pos v) (pos y) (pos r.factor) (pos s.factor) r.num_is (ap pos r.den_is) s.num_is (ap pos s.den_is)

-- the reduced fraction is the same ratio
pub reduced-same : (n : ℤ) (d : ℕ) (x : ℤ) (y : ℕ) → IsReduced n d x y → x *ℤ pos d ≡ n *ℤ pos y
reduced-same n d x y r =
    let p : up n ≡ r.factor * up x = ap up r.num_is ∙ up-* (pos r.factor) x ∙ omega arith in
    let q : down n ≡ r.factor * down x = ap down r.num_is ∙ down-* (pos r.factor) x ∙ omega arith in
    let p' = ap (λ (k : ℕ). k * y) p in
    let q' = ap (λ (k : ℕ). k * y) q in
    let s = ap (λ (k : ℕ). up x * k) r.den_is in
    let t = ap (λ (k : ℕ). down x * k) r.den_is in
    from_cross x n d y (omega arith) (omega arith)

-- parts that fit still fit in lowest terms
pub reduced-fits : (n : ℤ) (d : ℕ) (x : ℤ) (y : ℕ) → unsigned_abs n < 2 ^ 127 → d < 2 ^ 127 → IsReduced n d x y → Fit x y
reduced-fits n d x y h k r =
    let p : unsigned_abs n ≡ r.factor * unsigned_abs x = ap unsigned_abs r.num_is ∙ unsigned_abs-mul (pos r.factor) x in
    let f : 1 ≤ r.factor = r.some in
    let s : unsigned_abs x ≤ r.factor * unsigned_abs x = grind arith in
    let t : y ≤ r.factor * y = grind arith in
    let e = r.den_is in
    record { num_fits = omega arith; den_fits = omega arith }

le_lt : {a b c : ℕ} → a ≤ b → b < c → a < c
le_lt h k = omega arith

pub cast_quotient : (d g : ℕ) → d < 2 ^ 127 → to_z w128 (d / g) ≡ pos (d / g)
cast_quotient d g h = to_z_pos w128 (d / g) (le_lt (div-le_self d g) h)

pub quotient-some : (b d g : ℕ) → 0 < d → IsGcd b d g → 0 < d / g
quotient-some b d g some h =
    let y : g * (d / g) ≡ d = mul-div_cancel' g h.1 in
    grind arith

pub IsLowest-inverted : (z : ℤ) (d n : ℕ) → 0 < n → n ≡ unsigned_abs z → IsLowest z d → IsLowest (pos d) n
IsLowest-inverted z d n some e h = record { positive = some; coprime = subst (λ (k : ℕ). IsGcd d k 1) (sym e) (IsGcd-swap _ _ _ h.coprime) }

pub Fit-inverted : (z : ℤ) (d n : ℕ) → n ≡ unsigned_abs z → Fit z d → Fit (pos d) n
Fit-inverted z d n e h = record { num_fits = h.den_fits; den_fits = rw e h.num_fits }

-- what the reduced parts of a product are
pub product-found : (a b : Ratio) (x u : ℤ) (y v : ℕ) → IsReduced a.num b.den x y → IsReduced b.num a.den u v → (l : IsLowest (x *ℤ u) (v * y)) → made (x *ℤ u) (v * y) l ≡ a *ᵣ b
product-found a b x u y v r s l = product_is a b (made (x *ℤ u) (v * y) l) (product-is a.num b.num a.den b.den x u y v r s)

pub product-lowest : (a b : Ratio) (x u : ℤ) (y v : ℕ) → IsReduced a.num b.den x y → IsReduced b.num a.den u v → IsLowest (x *ℤ u) (v * y)
product-lowest a b x u y v r s = IsLowest-product a.num b.num a.den b.den x u y v a.lowest b.lowest r s

-- where the product fits, so do they
pub product-fits : (a b : Ratio) (x u : ℤ) (y v : ℕ) → IsReduced a.num b.den x y → IsReduced b.num a.den u v → Fits (a *ᵣ b) → Fit (x *ℤ u) (v * y)
product-fits a b x u y v r s h = subst Fits (sym (product-found a b x u y v r s (product-lowest a b x u y v r s))) h

-- ---- n over d, where d is above 0

pub over_some_cross : (n : ℤ) (d : ℕ) → 0 < d → (over_some n d).num *ℤ pos d ≡ n *ℤ pos (over_some n d).den
over_some_cross n d some =
    let e : max 1 d ≡ d = omega arith in
    ap (λ (k : ℕ). (over_some n d).num *ℤ pos k) (sym e) ∙ over_is n (max 1 d) (le-max_left 1 d)

pub over_some_is : (r : Ratio) (n : ℤ) (d : ℕ) → 0 < d → r.num *ℤ pos d ≡ n *ℤ pos r.den → r ≡ over_some n d
over_some_is r n d some e =
    let s = over_some n d in
    same_ratio r s (cross_trans r.num n s.num r.den d s.den some e (sym (over_some_cross n d some)))
