-- A plan, moved along a ray.
use Rattle.std.specs.Prelude.{◌≡◌, ℕ, length, List, [], ◌∷◌}
use Rattle.std.specs.List.{AllByRecursion, zip}
use Rattle.std.proofs.Common.{refl, arith, inl, inr, sym, subst, ◌∙◌}
use Rattle.std.proofs.lemmas.List.Elements.{recursion_from_All, All-from_recursion}
use Rattle.np_frac.specs.Ratio.{Ratio, zero_ratio, ◌≤ᵣ◌, ◌<ᵣ◌, ◌+ᵣ◌, ◌*ᵣ◌, total}
use Rattle.np_model.specs.Network.Flows.{moved, Network, at, plan_cost, Feasible}
use Rattle.np_model.specs.Network.Arcs.{coefficient, IsAtMost, IsWithin}
use Rattle.np_model.specs.Network.Duality.{Ray, Falls}
use Rattle.np_model.specs.declared.arc.Upper.TheVariants.{Finite, Infinite}
use Rattle.np_model.specs.declared.arc.Upper.{Upper}
use Rattle.np_model.specs.declared.arc.NetArc.{NetArc}
use Rattle.np_frac.proofs.RatioLaws.{*ᵣ-zero, +ᵣ-zero, ≤ᵣ_antisym, +ᵣ_at_most, below_or, *ᵣ_at_most, along_step, enough}
use Rattle.np_frac.proofs.Sums.{sum, total_is}
use Rattle.np_model.proofs.Balance.{balance-is}

-- x + t d, place by place
abbrev pub along : Ratio → List Ratio → List Ratio → List Ratio
along t [] ds = []
along t (x ∷ xs) [] = []
along t (x ∷ xs) (d ∷ ds) = moved x t d ∷ along t xs ds

length-along : (t : Ratio) (n : ℕ) (xs ds : List Ratio) → length xs ≡ n → length ds ≡ n → length (along t xs ds) ≡ n
length-along t n [] ds e f = e
length-along t n (x ∷ xs) [] e f = absurd (omega arith)
length-along t n (x ∷ xs) (d ∷ ds) e f = omega (arith, length-along t (length xs) xs ds refl (omega arith))

sum_along : {A : Type 0} (k : A → Ratio) (t : Ratio) (ws : List A) (xs ds : List Ratio) → length xs ≡ length ws → length ds ≡ length ws → sum (λ (a, q). k a *ᵣ q) (zip ws (along t xs ds)) ≡ sum (λ (a, q). k a *ᵣ q) (zip ws xs) +ᵣ t *ᵣ sum (λ (a, q). k a *ᵣ q) (zip ws ds)
sum_along k t [] xs ds e f = rw (*ᵣ-zero t) (sym (+ᵣ-zero zero_ratio))
sum_along k t (a ∷ ws) [] ds e f = absurd (omega arith)
sum_along k t (a ∷ ws) (x ∷ xs) [] e f = absurd (omega arith)
sum_along k t (a ∷ ws) (x ∷ xs) (d ∷ ds) e f =
    rw (sum_along k t ws xs ds (omega arith) (omega arith))
    (along_step (k a) x t d (sum (λ (a, q). k a *ᵣ q) (zip ws xs)) (sum (λ (a, q). k a *ᵣ q) (zip ws ds)))

total_along : {A : Type 0} (k : A → Ratio) (t : Ratio) (ws : List A) (xs ds : List Ratio) → length xs ≡ length ws → length ds ≡ length ws → total (λ (a, q). k a *ᵣ q) (zip ws (along t xs ds)) ≡ total (λ (a, q). k a *ᵣ q) (zip ws xs) +ᵣ t *ᵣ total (λ (a, q). k a *ᵣ q) (zip ws ds)
total_along {A} k t ws xs ds e f =
    let term : A × Ratio → Ratio = λ (a, q). k a *ᵣ q in
    rw (total_is term (zip ws (along t xs ds)), total_is term (zip ws xs), total_is term (zip ws ds)) (sum_along k t ws xs ds e f)

-- a step that does not go down keeps the lower bound
lower_along : (t l x d : Ratio) → zero_ratio ≤ᵣ t → zero_ratio ≤ᵣ d → l ≤ᵣ x → l ≤ᵣ x +ᵣ t *ᵣ d
lower_along t l x d s h k =
    subst (λ y. y ≤ᵣ x +ᵣ t *ᵣ d) (+ᵣ-zero l) (+ᵣ_at_most k (subst (λ y. y ≤ᵣ t *ᵣ d) (*ᵣ-zero t) (*ᵣ_at_most s h)))

upper_along : (u : Upper) (t x d : Ratio) → zero_ratio ≤ᵣ d → (zero_ratio <ᵣ d → u ≡ Infinite) → IsAtMost x u → IsAtMost (x +ᵣ t *ᵣ d) u
upper_along Infinite t x d h f k = tt
upper_along (Finite u) t x d h f k =
    elim (below_or zero_ratio d) [
      | inl above ↦ let e : Finite u ≡ Infinite = f above in absurd (cc)
      | inr not_above ↦ rw (≤ᵣ_antisym not_above h, *ᵣ-zero t, +ᵣ-zero x) k
    ]

within_along : (t : Ratio) (arcs : List NetArc) (xs ds : List Ratio) → zero_ratio ≤ᵣ t → length xs ≡ length arcs → length ds ≡ length arcs → AllByRecursion (λ (a, q). IsWithin a q) (zip arcs xs) → AllByRecursion (λ q. zero_ratio ≤ᵣ q) ds → AllByRecursion (λ (a, q). zero_ratio <ᵣ q → a.upper ≡ Infinite) (zip arcs ds) → AllByRecursion (λ (a, q). IsWithin a q) (zip arcs (along t xs ds))
within_along t [] xs ds s e f w n u = tt
within_along t (a ∷ arcs) [] ds s e f w n u = absurd (omega arith)
within_along t (a ∷ arcs) (x ∷ xs) [] s e f w n u = absurd (omega arith)
within_along t (a ∷ arcs) (x ∷ xs) (d ∷ ds) s e f w n u =
    ((lower_along t a.lower x d s n.0 w.0.0, upper_along a.upper t x d n.0 u.0 w.0.1), within_along t arcs xs ds s (omega arith) (omega arith) w.1 n.1 u.1)

pub feasible_along : (net : Network) (x d : List Ratio) (t : Ratio) → zero_ratio ≤ᵣ t → Ray net x d → Feasible net (along t x d)
feasible_along net x d t s r = record {
  one_each = length-along t (length net.arcs) x d r.feasible.one_each r.one_each;
  balanced = λ v h.
      let here = sym (balance-is net.arcs x v) ∙ r.feasible.balanced v h in
      let along_it = sym (balance-is net.arcs d v) ∙ r.balanced v h in
      balance-is net.arcs (along t x d) v
      ∙ total_along (λ (a : NetArc). coefficient a.ends v) t net.arcs x d r.feasible.one_each r.one_each
      ∙ rw (here, along_it, *ᵣ-zero t) (+ᵣ-zero (at net.supply v));
  within = All-from_recursion (λ (a, q). IsWithin a q) (zip net.arcs (along t x d))
      (within_along t net.arcs x d s r.feasible.one_each r.one_each
      (recursion_from_All (λ (a, q). IsWithin a q) (zip net.arcs x) r.feasible.within)
      (recursion_from_All (λ q. zero_ratio ≤ᵣ q) d r.not_negative)
      (recursion_from_All (λ (a, q). zero_ratio <ᵣ q → a.upper ≡ Infinite) (zip net.arcs d) r.unbounded));
}

pub falls : Falls
falls net x d r c =
    let far = enough (plan_cost net.arcs x) (plan_cost net.arcs d) c r.falls in (
      along far.0 x d,
      feasible_along net x d far.0 far.1 r,
      rw (total_along (λ (a : NetArc). a.cost) far.0 net.arcs x d r.feasible.one_each r.one_each) far.2,
    )
