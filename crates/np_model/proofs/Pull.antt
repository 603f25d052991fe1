-- The sum over all nodes in a reduced cost has a term for each end of the arc, and no other.
use Rattle.std.specs.Prelude.{◌≡◌, ◌≢◌, ℕ, ◌+◌, ◌<◌, ◌==◌, if◌then◌else◌, List, [], ◌∷◌, length, zero, suc}
use Rattle.std.specs.List.{enumerate_from}
use Rattle.std.proofs.Common.{refl, arith, sym, ◌∙◌, inl, inr, get_or}
use Rattle.std.proofs.lemmas.Bool.{cases_eq}
use Rattle.std.proofs.lemmas.Bool.Decides.{nat_tests}
use Rattle.np_frac.specs.Ratio.{Ratio, zero_ratio, one_ratio, negated, ◌-ᵣ◌, ◌+ᵣ◌, ◌*ᵣ◌, total}
use Rattle.np_model.specs.declared.arc.Ends.TheVariants.{Link, Drain, Feed}
use Rattle.np_model.specs.Network.Arcs.{ReducedExactly, coefficient}
use Rattle.np_model.specs.Network.Flows.{at}
use Rattle.np_model.specs.Network.Duality.{ReducedByEnds, pull, reduced}
use Rattle.np_frac.proofs.RatioLaws.{+ᵣ-zero, zero-+ᵣ, +ᵣ-*ᵣ, one-*ᵣ, zero-*ᵣ, negated-*ᵣ, minus_link, minus_negated}
use Rattle.std.proofs.lemmas.Grind.{common_steps}
use Rattle.np_frac.specs.Exact.{◌▷◌, plus_of, minus_of, times_of}
use Rattle.np_frac.proofs.Exactness.{found_by, plus_exact, minus_exact, times_exact}
use Rattle.np_frac.proofs.Sums.{sum, total_is, total_each, total-+ᵣ}

-- k at the node a, and 0 elsewhere
abbrev only : ℕ → Ratio → ℕ → Ratio
only a k v = if v == a then k else zero_ratio

only_at : (a v : ℕ) (k : Ratio) → v ≡ a → only a k v ≡ k
only_at a v k e = grind (arith, nat_tests)

only_off : (a v : ℕ) (k : Ratio) → v ≢ a → only a k v ≡ zero_ratio
only_off a v k e = grind (arith, nat_tests)

off : (a : ℕ) (k : Ratio) (i : ℕ) (p : List Ratio) → a < i → sum (λ (v, q). only a k v *ᵣ q) (enumerate_from i p) ≡ zero_ratio
off a k i [] h = refl
off a k i (q ∷ p) h = rw (only_off a i k (omega arith), zero-*ᵣ q, off a k (i + 1) p (omega arith)) (+ᵣ-zero zero_ratio)

single : (a : ℕ) (k : Ratio) (i d : ℕ) (p : List Ratio) → a ≡ i + d → d < length p → sum (λ (v, q). only a k v *ᵣ q) (enumerate_from i p) ≡ k *ᵣ get_or p d zero_ratio
single a k i d [] e h = absurd (omega arith)
single a k i zero (q ∷ p) e h =
    rw (only_at a i k (omega arith), off a k (i + 1) p (omega arith)) (+ᵣ-zero (k *ᵣ q))
single a k i (suc d) (q ∷ p) e h =
    rw (only_off a i k (omega arith), zero-*ᵣ q, single a k (i + 1) d p (omega arith) (omega arith)) (zero-+ᵣ (k *ᵣ get_or p d zero_ratio))

total_single : (a : ℕ) (k : Ratio) (p : List Ratio) → a < length p → total (λ (v, q). only a k v *ᵣ q) (enumerate_from 0 p) ≡ k *ᵣ at p a
total_single a k p h = total_is (λ (v, q). only a k v *ᵣ q) (enumerate_from 0 p) ∙ single a k 0 a p (omega arith) h

link_is : (from to v : ℕ) (gain : Ratio) → from ≢ to → coefficient (Link from to gain) v ≡ only from one_ratio v +ᵣ only to (negated gain) v
link_is from to v gain apart =
    elim (cases_eq v from) [
      | inl e ↦ rw (begins e, only_at from v one_ratio e, only_off to v (negated gain) (λ f. apart (sym e ∙ f))) (sym (+ᵣ-zero one_ratio))
      | inr d ↦ rw (later d, only_off from v one_ratio d) (sym (zero-+ᵣ (only to (negated gain) v)))
    ]
  where
    begins : v ≡ from → coefficient (Link from to gain) v ≡ one_ratio
    begins e = grind (arith, nat_tests)

    later : v ≢ from → coefficient (Link from to gain) v ≡ only to (negated gain) v
    later d = grind (arith, nat_tests)

pub pull_link : (p : List Ratio) (from to : ℕ) (gain : Ratio) → from ≢ to → from < length p → to < length p → pull p (Link from to gain) ≡ at p from +ᵣ negated (gain *ᵣ at p to)
pull_link p from to gain apart h k =
    total_each (enumerate_from 0 p) (λ (v, q). rw (link_is from to v gain apart) (+ᵣ-*ᵣ (only from one_ratio v) (only to (negated gain) v) q))
    ∙ total-+ᵣ (λ (v, q). only from one_ratio v *ᵣ q) (λ (v, q). only to (negated gain) v *ᵣ q) (enumerate_from 0 p)
    ∙ rw (total_single from one_ratio p h, total_single to (negated gain) p k, one-*ᵣ (at p from), negated-*ᵣ gain (at p to)) refl

pub pull_drain : (p : List Ratio) (v : ℕ) → v < length p → pull p (Drain v) ≡ at p v
pull_drain p v h = total_single v one_ratio p h ∙ one-*ᵣ (at p v)

pub pull_feed : (p : List Ratio) (v : ℕ) → v < length p → pull p (Feed v) ≡ negated (at p v)
pull_feed p v h = total_single v (negated one_ratio) p h ∙ rw (negated-*ᵣ one_ratio (at p v), one-*ᵣ (at p v)) refl

-- ---- reduced costs by the ends

pub reduced_link : (p : List Ratio) (from to : ℕ) (gain c : Ratio) → from ≢ to → from < length p → to < length p → reduced p (Link from to gain) c ≡ (c -ᵣ at p from) +ᵣ gain *ᵣ at p to
reduced_link p from to gain c apart h k = rw (pull_link p from to gain apart h k) (minus_link c (at p from) (gain *ᵣ at p to))

pub reduced_drain : (p : List Ratio) (v : ℕ) (c : Ratio) → v < length p → reduced p (Drain v) c ≡ c -ᵣ at p v
reduced_drain p v c h = rw (pull_drain p v h) refl

pub reduced_feed : (p : List Ratio) (v : ℕ) (c : Ratio) → v < length p → reduced p (Feed v) c ≡ c +ᵣ at p v
reduced_feed p v c h = rw (pull_feed p v h) (minus_negated c (at p v))

-- an element that is there
pub at_is : (p : List Ratio) (v : ℕ) (q : Ratio) → v < length p → q ≡ get_or p v q → at p v ≡ q
at_is p v q h e = grind (arith, common_steps, e)

-- ---- by the ends as one function

pub reduced_by_ends : ReducedByEnds
reduced_by_ends p (Link from to gain) c nodes = reduced_link p from to gain c nodes.2 nodes.0 nodes.1
reduced_by_ends p (Drain v) c nodes = reduced_drain p v c nodes
reduced_by_ends p (Feed v) c nodes = reduced_feed p v c nodes

pub reduced_exactly : ReducedExactly
reduced_exactly (Link from to gain) cost first second r e =
    let product = found_by (times_of gain second) (λ product. minus_of cost first ▷ λ difference. plus_of difference product) r e in
    let difference = found_by (minus_of cost first) (λ difference. plus_of difference product.0) r product.2 in
    rw (← minus_exact cost first difference.0 difference.1, ← times_exact gain second product.0 product.1) (plus_exact difference.0 product.0 r difference.2)
reduced_exactly (Drain v) cost first second r e = minus_exact cost first r e
reduced_exactly (Feed v) cost first second r e = plus_exact cost first r e
