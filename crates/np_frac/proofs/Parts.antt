-- A ratio, written as a difference of naturals over a natural. On these the operations are polynomials, which `omega arith` reads.
use Rattle.std.specs.Prelude.{◌≡◌, ◌≢◌, ℕ, ◌+◌, ◌*◌, ◌≤◌, ◌<◌, ℤ, pos, ◌*ℤ◌}
use Rattle.std.proofs.Common.{arith, ap, sym, ◌∙◌, subst}
use Rattle.std.proofs.Math.Nat.{mul-pos, le_refl, mul-le-mul_left, mul-lt-mul_of_pos_left, le_of_mul-le-mul_left, lt_of_mul-lt-mul_left, eq_of_mul-eq-mul_left}
use borrow.Author.Differences.{up, down, neg_is}
use Rattle.np_frac.specs.Ratio.{Ratio, over, over_is, same_ratio, whole, negated, zero_ratio, one_ratio, ◌≤ᵣ◌, ◌<ᵣ◌, ◌+ᵣ◌, ◌*ᵣ◌}
use Rattle.np_frac.proofs.Differences.{diff, as_diff, diff_same, diff_zero, diff-+ℤ, diff-*ℤ, diff_le, diff_lt, le_diff, lt_diff, same_diff}

-- (plus - minus) / den
pub record Parts : Type 0 where
  pub plus : ℕ
  pub minus : ℕ
  pub den : ℕ
  pub den_positive : 0 < den

unfoldable pub ratio : Parts → Ratio
ratio p = over (diff p.plus p.minus) p.den p.den_positive

abbrev pub parts : Ratio → Parts
parts a = record { plus = up a.num; minus = down a.num; den = a.den; den_positive = a.lowest.positive }

scaled : (a b d : ℕ) → diff a b *ℤ pos d ≡ diff (a * d) (b * d)
scaled a b d =
    ap (λ (z : ℤ). diff a b *ℤ z) (sym (diff_zero d)) ∙ diff-*ℤ a b d 0 ∙ diff_same _ _ _ _ (omega arith)

num_scaled : (a : Ratio) (d : ℕ) → a.num *ℤ pos d ≡ diff (up a.num * d) (down a.num * d)
num_scaled a d = ap (λ (z : ℤ). z *ℤ pos d) (as_diff a.num) ∙ scaled (up a.num) (down a.num) d

-- the cross products of two are the same
abbrev pub Same : Parts → Parts → Type 0
Same x y = x.plus * y.den + y.minus * x.den ≡ y.plus * x.den + x.minus * y.den

abbrev pub AtMost : Parts → Parts → Type 0
AtMost x y = x.plus * y.den + y.minus * x.den ≤ y.plus * x.den + x.minus * y.den

abbrev pub Below : Parts → Parts → Type 0
Below x y = x.plus * y.den + y.minus * x.den < y.plus * x.den + x.minus * y.den

same_sym : (x y : Parts) → Same x y → Same y x
same_sym x y e = omega (arith, e)

same_trans : (x y z : Parts) → Same x y → Same y z → Same x z
same_trans x y z d e =
    eq_of_mul-eq-mul_left y.den y.den_positive _ _ (omega (arith, ap (λ (t : ℕ). t * z.den) d, ap (λ (t : ℕ). t * x.den) e))

at_most_moved : (x r y s : Parts) → Same x r → Same y s → AtMost x y → AtMost r s
at_most_moved x r y s d e h =
    le_of_mul-le-mul_left
    (omega (arith, ap (λ (t : ℕ). t * (y.den * s.den)) d, ap (λ (t : ℕ). t * (x.den * r.den)) e, mul-le-mul_left (r.den * s.den) h))
    (mul-pos x.den_positive y.den_positive)

below_moved : (x r y s : Parts) → Same x r → Same y s → Below x y → Below r s
below_moved x r y s d e h =
    lt_of_mul-lt-mul_left (x.den * y.den)
    (omega (arith, ap (λ (t : ℕ). t * (y.den * s.den)) d, ap (λ (t : ℕ). t * (x.den * r.den)) e, mul-lt-mul_of_pos_left h (mul-pos r.den_positive s.den_positive)))

-- what a ratio is in lowest terms
reduced : (x : Parts) → Same x (parts (ratio x))
unfolding ratio
reduced x =
    let r = ratio x in
    same_sym (parts r) x
    (same_diff _ _ _ _ (sym (num_scaled r x.den) ∙ over_is (diff x.plus x.minus) x.den x.den_positive ∙ scaled x.plus x.minus r.den))

pub same_parts : (a b : Ratio) → Same (parts a) (parts b) → a ≡ b
same_parts a b e = same_ratio a b (num_scaled a b.den ∙ diff_same _ _ _ _ e ∙ sym (num_scaled b a.den))

-- ---- equality and order, in naturals

pub same : (x y : Parts) → Same x y → ratio x ≡ ratio y
same x y e = same_parts (ratio x) (ratio y) (same_trans (parts (ratio x)) x (parts (ratio y)) (same_sym x (parts (ratio x)) (reduced x)) (same_trans x y (parts (ratio y)) e (reduced y)))

pub same_is : (x y : Parts) → ratio x ≡ ratio y → Same x y
same_is x y e = same_trans x (parts (ratio y)) y (subst (λ (r : Ratio). Same x (parts r)) e (reduced x)) (same_sym y (parts (ratio y)) (reduced y))

pub at_most : (x y : Parts) → AtMost x y → ratio x ≤ᵣ ratio y
at_most x y h =
    let a = ratio x in
    let b = ratio y in
    record { cross = rw (num_scaled a b.den, num_scaled b a.den) (diff_le _ _ _ _ (at_most_moved x (parts a) y (parts b) (reduced x) (reduced y) h)) }

pub at_most_is : (x y : Parts) → ratio x ≤ᵣ ratio y → AtMost x y
at_most_is x y h =
    let a = ratio x in
    let b = ratio y in
    at_most_moved (parts a) x (parts b) y (same_sym x (parts a) (reduced x)) (same_sym y (parts b) (reduced y)) (le_diff _ _ _ _ (rw (num_scaled a b.den, num_scaled b a.den) at h.cross))

pub below : (x y : Parts) → Below x y → ratio x <ᵣ ratio y
below x y h =
    let a = ratio x in
    let b = ratio y in
    record { cross = rw (num_scaled a b.den, num_scaled b a.den) (diff_lt _ _ _ _ (below_moved x (parts a) y (parts b) (reduced x) (reduced y) h)) }

pub below_is : (x y : Parts) → ratio x <ᵣ ratio y → Below x y
below_is x y h =
    let a = ratio x in
    let b = ratio y in
    below_moved (parts a) x (parts b) y (same_sym x (parts a) (reduced x)) (same_sym y (parts b) (reduced y)) (lt_diff _ _ _ _ (rw (num_scaled a b.den, num_scaled b a.den) at h.cross))

-- ---- the operations
abbrev pub sum : Parts → Parts → Parts
sum x y = record {
  plus = x.plus * y.den + y.plus * x.den;
  minus = x.minus * y.den + y.minus * x.den;
  den = x.den * y.den;
  den_positive = mul-pos x.den_positive y.den_positive;
}

abbrev pub product : Parts → Parts → Parts
product x y = record {
  plus = x.plus * y.plus + x.minus * y.minus;
  minus = x.plus * y.minus + x.minus * y.plus;
  den = x.den * y.den;
  den_positive = mul-pos x.den_positive y.den_positive;
}

abbrev pub opposite : Parts → Parts
opposite x = record { plus = x.minus; minus = x.plus; den = x.den; den_positive = x.den_positive }

abbrev pub nothing : Parts
nothing = record { plus = 0; minus = 0; den = 1; den_positive = le_refl 1 }

abbrev pub natural : ℕ → Parts
natural n = record { plus = n; minus = 0; den = 1; den_positive = le_refl 1 }

abbrev pub unit : Parts
unit = record { plus = 1; minus = 0; den = 1; den_positive = le_refl 1 }

-- each ratio is that of its parts
pub ratio-parts : (a : Ratio) → ratio (parts a) ≡ a
ratio-parts a = same_parts (ratio (parts a)) a (same_sym (parts a) (parts (ratio (parts a))) (reduced (parts a)))

sum_parts : (a b : Ratio) → a +ᵣ b ≡ ratio (sum (parts a) (parts b))
unfolding ratio ◌+ᵣ◌
sum_parts a b =
    let den_positive = mul-pos a.lowest.positive b.lowest.positive in
    ap (λ n. over n (a.den * b.den) den_positive) (rw (num_scaled a b.den, num_scaled b a.den, diff-+ℤ))

product_parts : (a b : Ratio) → a *ᵣ b ≡ ratio (product (parts a) (parts b))
unfolding ratio ◌*ᵣ◌
product_parts a b =
    let den_positive = mul-pos a.lowest.positive b.lowest.positive in
    let e : a.num *ℤ b.num ≡ diff (up a.num) (down a.num) *ℤ diff (up b.num) (down b.num) = ap (λ z. z *ℤ b.num) (as_diff a.num) ∙ ap (λ z. diff (up a.num) (down a.num) *ℤ z) (as_diff b.num) in
    ap (λ n. over n (a.den * b.den) den_positive) (e ∙ diff-*ℤ (up a.num) (down a.num) (up b.num) (down b.num))

pub sum_of : (x y : Parts) → ratio x +ᵣ ratio y ≡ ratio (sum x y)
sum_of x y =
    let r = parts (ratio x) in
    let s = parts (ratio y) in
    sum_parts (ratio x) (ratio y)
    ∙ sym (same (sum x y) (sum r s) (omega (arith, ap (λ (t : ℕ). t * (y.den * s.den)) (reduced x), ap (λ (t : ℕ). t * (x.den * r.den)) (reduced y))))

pub product_of : (x y : Parts) → ratio x *ᵣ ratio y ≡ ratio (product x y)
product_of x y =
    let r = parts (ratio x) in
    let s = parts (ratio y) in
    product_parts (ratio x) (ratio y)
    ∙ sym (same (product x y) (product x s) (omega (arith, ap (λ (t : ℕ). t * (x.den * x.plus)) (reduced y), ap (λ (t : ℕ). t * (x.den * x.minus)) (reduced y)))
    ∙ same (product x s) (product r s) (omega (arith, ap (λ (t : ℕ). t * (s.den * s.plus)) (reduced x), ap (λ (t : ℕ). t * (s.den * s.minus)) (reduced x))))

pub nothing_is : zero_ratio ≡ ratio nothing
unfolding whole
nothing_is = same_parts zero_ratio (ratio nothing) (reduced nothing)

pub opposite_of : (x : Parts) → negated (ratio x) ≡ ratio (opposite x)
unfolding negated
opposite_of x =
    let r = ratio x in
    let d = neg_is r.num in
    same_parts (negated r) (ratio (opposite x))
    (same_trans (parts (negated r)) (opposite x) (parts (ratio (opposite x)))
    (omega (arith, ap (λ (t : ℕ). t * x.den) d.0, ap (λ (t : ℕ). t * x.den) d.1, reduced x))
    (reduced (opposite x)))

pub unit_is : one_ratio ≡ ratio unit
unfolding whole
unit_is = same_parts one_ratio (ratio unit) (reduced unit)

pub ruleset operations = (sum_of, product_of, opposite_of, nothing_is)

-- ---- a claim on every ratio, from the same on all parts
pub by1 : (P : Ratio → Type 0) → ((x : Parts) → P (ratio x)) → (a : Ratio) → P a
by1 P f a = subst P (ratio-parts a) (f (parts a))

pub by2 : (P : Ratio → Ratio → Type 0) → ((x y : Parts) → P (ratio x) (ratio y)) → (a b : Ratio) → P a b
by2 P f a b = by1 (λ r. P r b) (λ x. by1 (P (ratio x)) (f x) b) a

pub by3 : (P : Ratio → Ratio → Ratio → Type 0) → ((x y z : Parts) → P (ratio x) (ratio y) (ratio z)) → (a b c : Ratio) → P a b c
by3 P f a b c = by1 (λ r. P r b c) (λ x. by2 (P (ratio x)) (f x) b c) a

pub by4 : (P : Ratio → Ratio → Ratio → Ratio → Type 0) → ((x y z w : Parts) → P (ratio x) (ratio y) (ratio z) (ratio w)) → (a b c d : Ratio) → P a b c d
by4 P f a b c d = by1 (λ r. P r b c d) (λ x. by3 (P (ratio x)) (f x) b c d) a

pub by6 : (P : Ratio → Ratio → Ratio → Ratio → Ratio → Ratio → Type 0) → ((x y z w u v : Parts) → P (ratio x) (ratio y) (ratio z) (ratio w) (ratio u) (ratio v)) → (a b c d e f : Ratio) → P a b c d e f
by6 P g a b c d e f = by2 (λ r s. P r s c d e f) (λ x y. by4 (P (ratio x) (ratio y)) (g x y) c d e f) a b

-- what is not 0 has a numerator that is not 0
pub num_apart : (r : Ratio) → r ≢ zero_ratio → r.num ≢ pos 0
unfolding whole
num_apart r n e = n (same_parts r zero_ratio (rw e (omega arith)))
