-- The order of ratios.
use Rattle.std.proofs.Common.{◌≡◌, ℕ, suc, ◌<◌, ◌*◌, ◌&&◌, ◌==◌, arith, sym, subst, ap, refl, ℤ, pos, negsuc, neg_ℤ, ◌*ℤ◌, ◌<ℤ◌, ◌≤ℤ◌, unsigned_abs, Bool, true, false, true≢false}
use Rattle.std.specs.declared.cmp.Ordering.{Ordering}
use Rattle.std.specs.declared.cmp.Ordering.TheVariants.{Less, Equal, Greater}
use Rattle.std.specs.Ordering.{nat_cmp, int_cmp, int_eq, is_eq, MatchOrdering}
use Rattle.std.specs.Cmp.{IsTotalOrder, int_ranks, int_cmp_is, ranked, strict, both_ways, tied_itself, signed_Decides, unsigned_Decides}
use Rattle.std.specs.Cmp.Derive.{both_true}
use lib.Signed.{<ℤ_irrefl}
use Rattle.std.proofs.Math.Nat.{mul-pos}
use Rattle.std.proofs.lemmas.Int.{ints}
use Rattle.np_frac.specs.Ratio.{Ratio, same_numbers, same_ratio}
use Rattle.np_frac.specs.Steps.Signs.{cross-below}

abbrev pub ratio_cmp : Ratio → Ratio → Ordering
ratio_cmp a b = int_cmp (a.num *ℤ pos b.den) (b.num *ℤ pos a.den)

-- the test of equality
abbrev pub ratio_eq : Ratio → Ratio → Bool
ratio_eq a b = int_eq a.num b.num && (a.den == b.den)

-- one ratio is below another
pub IsBelow : Ratio → Ratio → Type 0
IsBelow a b = (a.num *ℤ pos b.den) <ℤ (b.num *ℤ pos a.den)

irreflexive : (a : Ratio) → IsBelow a a → ⊥
unfolding IsBelow
irreflexive a h = <ℤ_irrefl h

chain : (a b c : Ratio) → IsBelow a b → IsBelow b c → IsBelow a c
unfolding IsBelow
chain a b c h k = cross-below a.num b.num c.num a.den b.den c.den a.lowest.positive c.lowest.positive h k

ranked_so : (a b : Ratio) (r : Ordering) → MatchOrdering r ((a.num *ℤ pos b.den) <ℤ (b.num *ℤ pos a.den)) (a.num *ℤ pos b.den ≡ b.num *ℤ pos a.den) ((b.num *ℤ pos a.den) <ℤ (a.num *ℤ pos b.den)) → MatchOrdering r (IsBelow a b) (a ≡ b) (IsBelow b a)
unfolding IsBelow
ranked_so a b Less h = h
ranked_so a b Equal h = same_ratio a b h
ranked_so a b Greater h = h

pub ratio_ranks : (a b : Ratio) → MatchOrdering (ratio_cmp a b) (IsBelow a b) (a ≡ b) (IsBelow b a)
ratio_ranks a b = ranked_so a b (ratio_cmp a b) (int_ranks (a.num *ℤ pos b.den) (b.num *ℤ pos a.den))

pub ratio_cmp_total : IsTotalOrder ratio_cmp
ratio_cmp_total = strict IsBelow irreflexive chain ratio_cmp ratio_ranks

same-is : (a b : Ratio) (r : Ordering) → MatchOrdering r (IsBelow a b) (a ≡ b) (IsBelow b a) → is_eq r ≡ true → a ≡ b
same-is a b Less h e = absurd (true≢false (sym e))
same-is a b Equal h e = h
same-is a b Greater h e = absurd (true≢false (sym e))

is-same : (a b : Ratio) → a ≡ b → is_eq (ratio_cmp a b) ≡ true
is-same a b e = subst (λ (k : Ratio). is_eq (ratio_cmp a k) ≡ true) e (ap is_eq (tied_itself ratio_cmp_total a))

left_true : (s t : Bool) → (s && t) ≡ true → s ≡ true
left_true true t e = refl
left_true false t e = e

right_true : (s t : Bool) → (s && t) ≡ true → t ≡ true
right_true true t e = e
right_true false t e = absurd (true≢false (sym e))

pub tests_true : (a b : Ratio) → (int_eq a.num b.num && (a.den == b.den)) ≡ true → a ≡ b
tests_true a b e = same_numbers a b ((signed_Decides a.num b.num).0 (left_true (int_eq a.num b.num) (a.den == b.den) e)) ((unsigned_Decides a.den b.den).0 (right_true (int_eq a.num b.num) (a.den == b.den) e))

pub true_tests : (a b : Ratio) → a ≡ b → (int_eq a.num b.num && (a.den == b.den)) ≡ true
true_tests a b e = both_true ((signed_Decides a.num b.num).1 (ap (λ (f : Ratio). f.num) e)) ((unsigned_Decides a.den b.den).1 (ap (λ (f : Ratio). f.den) e))

pub ratio_matches : (a b : Ratio) → (int_eq a.num b.num && (a.den == b.den)) ≡ is_eq (ratio_cmp a b)
ratio_matches a b = both_ways _ _ (λ e. is-same a b (tests_true a b e)) (λ e. true_tests a b (same-is a b (ratio_cmp a b) (ratio_ranks a b) e))

turned_pos : (m n : ℕ) (r : Ordering) → MatchOrdering r (m < n) (m ≡ n) (n < m) → MatchOrdering r (pos m <ℤ pos n) (pos m ≡ pos n) (pos n <ℤ pos m)
turned_pos m n Less h = omega (arith, ints)
turned_pos m n Equal h = ap pos h
turned_pos m n Greater h = omega (arith, ints)

cmp-pos : (m n : ℕ) → nat_cmp m n ≡ int_cmp (pos m) (pos n)
cmp-pos m n = int_cmp_is (pos m) (pos n) (nat_cmp m n) (turned_pos m n (nat_cmp m n) (ranked m n (nat_cmp m n) refl))

turned_neg : (m n : ℕ) (r : Ordering) → MatchOrdering r (n < m) (n ≡ m) (m < n) → MatchOrdering r (neg_ℤ (pos m) <ℤ neg_ℤ (pos n)) (neg_ℤ (pos m) ≡ neg_ℤ (pos n)) (neg_ℤ (pos n) <ℤ neg_ℤ (pos m))
turned_neg m n Less h = omega (arith, ints)
turned_neg m n Equal h = ap (λ (k : ℕ). neg_ℤ (pos k)) (sym h)
turned_neg m n Greater h = omega (arith, ints)

cmp-neg : (m n : ℕ) → nat_cmp n m ≡ int_cmp (neg_ℤ (pos m)) (neg_ℤ (pos n))
cmp-neg m n = int_cmp_is (neg_ℤ (pos m)) (neg_ℤ (pos n)) (nat_cmp n m) (turned_neg m n (nat_cmp n m) (ranked n m (nat_cmp n m) refl))

-- the order by the sizes of the cross products, for each pair of signs
pub cmp_not_negative : (a c : ℤ) (b d : ℕ) → pos 0 ≤ℤ a → pos 0 ≤ℤ c → nat_cmp (unsigned_abs a * d) (unsigned_abs c * b) ≡ int_cmp (a *ℤ pos d) (c *ℤ pos b)
cmp_not_negative (pos m) (pos n) b d h k = cmp-pos (m * d) (n * b)
cmp_not_negative (pos m) (negsuc n) b d h k = absurd (omega (arith, ints))
cmp_not_negative (negsuc m) c b d h k = absurd (omega (arith, ints))

pub cmp_negative : (a c : ℤ) (b d : ℕ) → a <ℤ pos 0 → c <ℤ pos 0 → nat_cmp (unsigned_abs c * b) (unsigned_abs a * d) ≡ int_cmp (a *ℤ pos d) (c *ℤ pos b)
cmp_negative (negsuc m) (negsuc n) b d h k = cmp-neg (suc m * d) (suc n * b)
cmp_negative (negsuc m) (pos n) b d h k = absurd (omega (arith, ints))
cmp_negative (pos m) c b d h k = absurd (omega (arith, ints))

apart : (m n b d : ℕ) → 0 < b → neg_ℤ (pos (suc n * b)) <ℤ pos (m * d)
apart m n b d some = let k : 0 < suc n * b = mul-pos (omega arith) some in omega (arith, ints)

pub cmp_above : (a c : ℤ) (b d : ℕ) → 0 < b → pos 0 ≤ℤ a → c <ℤ pos 0 → Greater ≡ int_cmp (a *ℤ pos d) (c *ℤ pos b)
cmp_above (pos m) (negsuc n) b d some h k = int_cmp_is (pos (m * d)) (neg_ℤ (pos (suc n * b))) Greater (apart m n b d some)
cmp_above (pos m) (pos n) b d some h k = absurd (omega (arith, ints))
cmp_above (negsuc m) c b d some h k = absurd (omega (arith, ints))

pub cmp_below : (a c : ℤ) (b d : ℕ) → 0 < d → a <ℤ pos 0 → pos 0 ≤ℤ c → Less ≡ int_cmp (a *ℤ pos d) (c *ℤ pos b)
cmp_below (negsuc m) (pos n) b d some h k = int_cmp_is (neg_ℤ (pos (suc m * d))) (pos (n * b)) Less (apart n m d b some)
cmp_below (negsuc m) (negsuc n) b d some h k = absurd (omega (arith, ints))
cmp_below (pos m) c b d some h k = absurd (omega (arith, ints))
