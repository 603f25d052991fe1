-- The residuals of nodes, as one arc after the other is taken.
use Rattle.std.specs.Prelude.{◌≡◌, ◌≢◌, ℕ, ◌+◌, ◌<◌, ◌≤◌, ◌==◌, Bool, true, false, if◌then◌else◌, Ok, Err, List, [], ◌∷◌, length, map}
use Rattle.std.specs.List.{fold}
use Rattle.std.proofs.Common.{refl, sym, ap, subst, ◌∙◌, arith, get_or, set, take}
use Rattle.std.proofs.lemmas.List.{take_all}
use Rattle.std.proofs.lemmas.Bool.Decides.{nat_tests}
use Rattle.np_frac.specs.Ratio.{Ratio, zero_ratio, one_ratio, negated, ◌+ᵣ◌, ◌-ᵣ◌, ◌*ᵣ◌}
use Rattle.np_frac.specs.Fits.{Fits}
use Rattle.np_frac.specs.Exact.{plus_of, minus_of, times_of, ◌▷◌}
use Rattle.np_frac.proofs.RatioLaws.{one-*ᵣ, zero-*ᵣ, negated-*ᵣ, minus_negated, minus_sum, minus-zero}
use Rattle.np_frac.proofs.Sums.{sum, total_is}
use Rattle.np_frac.proofs.Exactness.{found_by, plus_exact, minus_exact, times_exact}
use Rattle.np_frac.proofs.Fitting.{plus_fits, minus_fits}
use Rattle.np_frac.proofs.Folds.{fold_more, fold_exact, overflow_stays}
use Rattle.np_frac.proofs.Running.{Running, two_go_on}
use Rattle.np_model.specs.declared.arc.Ends.{Ends}
use Rattle.np_model.specs.declared.arc.Ends.TheVariants.{Link, Drain, Feed}
use Rattle.np_model.specs.declared.arc.NetArc.{NetArc}
use Rattle.np_model.specs.Network.Arcs.{coefficient}
use Rattle.np_model.specs.Network.Flows.{Network, at, balance, with_ends}
use Rattle.np_model.specs.Basis.Starts.{residual}
use Rattle.np_model.specs.Rows.Arcs.{less_amount, residual_of}

-- ---- one arc

at_tail : (v from to : ℕ) (gain x y : Ratio) → v ≡ from → less_amount (Link from to gain) x v y ≡ minus_of y x
at_tail v from to gain x y e = grind (arith, nat_tests)

at_head : (v from to : ℕ) (gain x y : Ratio) → v ≢ from → v ≡ to → less_amount (Link from to gain) x v y ≡ times_of gain x ▷ plus_of y
at_head v from to gain x y d e = grind (arith, nat_tests)

apart : (v from to : ℕ) (gain x y : Ratio) → v ≢ from → v ≢ to → less_amount (Link from to gain) x v y ≡ Ok y
apart v from to gain x y d e = grind (arith, nat_tests)

-- a link changes the running residuals of its two ends alone
pub link_taken : (xs : List Running) (from to v : ℕ) (gain x : Ratio) (r s a b d : Running) → from < length xs → to < length xs → from ≢ to
    → r ≡ get_or xs from r → a ≡ r ▷ (λ rest. minus_of rest x)
    → s ≡ get_or (set xs from a) to s → b ≡ s ▷ (λ rest. times_of gain x ▷ plus_of rest)
    → v < length xs → get_or (set (set xs from a) to b) v d ≡ get_or xs v d ▷ less_amount (Link from to gain) x v
link_taken xs from to v gain x r s a b d at_from at_to differ r_is a_is s_is b_is below =
    two_go_on xs from to v (λ rest. minus_of rest x) (λ rest. times_of gain x ▷ plus_of rest) (less_amount (Link from to gain) x v) r s a b d
    at_from at_to differ r_is a_is s_is b_is (λ e y. at_tail v from to gain x y e) (λ n e y. at_head v from to gain x y n e)
    (λ n m y. apart v from to gain x y n m) below

-- ---- all arcs

-- the running residual of a node after one more arc
pub one_more_taken : (arcs : List NetArc) (v i : ℕ) (supply : Ratio) (arc : NetArc) (old new : Running) → i < length arcs → arc ≡ get_or arcs i arc
    → old ≡ residual_of (take i arcs) v supply → new ≡ old ▷ less_amount arc.ends arc.lower v → new ≡ residual_of (take (i + 1) arcs) v supply
one_more_taken arcs v i supply arc old new below arc_is before after =
    after ∙ ap (λ (r : Running). r ▷ less_amount arc.ends arc.lower v) before
    ∙ sym (fold_more (λ running (a : NetArc). running ▷ less_amount a.ends a.lower v) (Ok supply) arcs i arc below (sym arc_is))

pub all_taken : (arcs : List NetArc) (v i : ℕ) (supply : Ratio) (old : Running) → length arcs ≤ i → old ≡ residual_of (take i arcs) v supply
    → old ≡ residual_of arcs v supply
all_taken arcs v i supply old end before = before ∙ ap (λ (all : List NetArc). residual_of all v supply) (take_all i arcs end)

-- ---- what is found is the residual

link_exact : (b c : Bool) (gain x r s : Ratio) → (if b then minus_of r x else (if c then (times_of gain x ▷ plus_of r) else Ok r)) ≡ Ok s
    → s ≡ r -ᵣ (if b then one_ratio else (if c then negated gain else zero_ratio)) *ᵣ x
link_exact true c gain x r s e = rw (one-*ᵣ x) (minus_exact r x s e)
link_exact false true gain x r s e =
    let found = found_by (times_of gain x) (plus_of r) s e in
    rw (negated-*ᵣ gain x, minus_negated r (gain *ᵣ x), ← times_exact gain x found.0 found.1) (plus_exact r found.0 s found.2)
link_exact false false gain x r s e = rw (zero-*ᵣ x, minus-zero r) (cc e)

drain_exact : (b : Bool) (x r s : Ratio) → (if b then minus_of r x else Ok r) ≡ Ok s → s ≡ r -ᵣ (if b then one_ratio else zero_ratio) *ᵣ x
drain_exact true x r s e = rw (one-*ᵣ x) (minus_exact r x s e)
drain_exact false x r s e = rw (zero-*ᵣ x, minus-zero r) (cc e)

feed_exact : (b : Bool) (x r s : Ratio) → (if b then plus_of r x else Ok r) ≡ Ok s → s ≡ r -ᵣ (if b then negated one_ratio else zero_ratio) *ᵣ x
feed_exact true x r s e = rw (negated-*ᵣ one_ratio x, one-*ᵣ x, minus_negated r x) (plus_exact r x s e)
feed_exact false x r s e = rw (zero-*ᵣ x, minus-zero r) (cc e)

less_exact : (ends : Ends) (x : Ratio) (v : ℕ) (r s : Ratio) → less_amount ends x v r ≡ Ok s → s ≡ r -ᵣ coefficient ends v *ᵣ x
less_exact (Link from to gain) x v r s e = link_exact (v == from) (v == to) gain x r s e
less_exact (Drain node) x v r s e = drain_exact (v == node) x r s e
less_exact (Feed node) x v r s e = feed_exact (v == node) x r s e

-- the residual from this supply on, over all arcs
abbrev left_over : List NetArc → ℕ → Ratio → Ratio
left_over arcs v supply = supply -ᵣ balance arcs (map (λ (a : NetArc). a.lower) arcs) v

left_over_is : (arcs : List NetArc) (v : ℕ) (supply : Ratio)
    → fold (λ (rest : Ratio) (a : NetArc). rest +ᵣ negated (coefficient a.ends v *ᵣ a.lower)) supply arcs ≡ left_over arcs v supply
left_over_is [] v supply = sym (minus-zero supply)
left_over_is (a ∷ arcs) v supply =
    let term : Ends × Ratio → Ratio = λ z. coefficient z.0 v *ᵣ z.1 in
    let pairs : List (Ends × Ratio) = with_ends arcs (map (λ (b : NetArc). b.lower) arcs) in
    let first : Ratio = coefficient a.ends v *ᵣ a.lower in
    left_over_is arcs v (supply -ᵣ first)
    ∙ ap (λ (t : Ratio). (supply -ᵣ first) -ᵣ t) (total_is term pairs)
    ∙ minus_sum supply first (sum term pairs)
    ∙ ap (λ (t : Ratio). supply -ᵣ t) (sym (total_is term ((a.ends, a.lower) ∷ pairs)))

pub residual_exact : (net : Network) (v : ℕ) (r : Ratio) → residual_of net.arcs v (at net.supply v) ≡ Ok r → r ≡ residual net v
residual_exact net v r e =
    fold_exact (λ (a : NetArc) rest. less_amount a.ends a.lower v rest) (λ (a : NetArc). negated (coefficient a.ends v *ᵣ a.lower))
    (λ (a : NetArc) q s is. less_exact a.ends a.lower v q s is) (at net.supply v) r net.arcs e
    ∙ left_over_is net.arcs v (at net.supply v)

-- ---- and fits

link_fits : (b c : Bool) (gain x r s : Ratio) → (if b then minus_of r x else (if c then (times_of gain x ▷ plus_of r) else Ok r)) ≡ Ok s → Fits r → Fits s
link_fits true c gain x r s e fits = minus_fits r x s e
link_fits false true gain x r s e fits =
    let found = found_by (times_of gain x) (plus_of r) s e in
    plus_fits r found.0 s found.2
link_fits false false gain x r s e fits = let same : r ≡ s = cc e in subst Fits same fits

drain_fits : (b : Bool) (x r s : Ratio) → (if b then minus_of r x else Ok r) ≡ Ok s → Fits r → Fits s
drain_fits true x r s e fits = minus_fits r x s e
drain_fits false x r s e fits = let same : r ≡ s = cc e in subst Fits same fits

feed_fits : (b : Bool) (x r s : Ratio) → (if b then plus_of r x else Ok r) ≡ Ok s → Fits r → Fits s
feed_fits true x r s e fits = plus_fits r x s e
feed_fits false x r s e fits = let same : r ≡ s = cc e in subst Fits same fits

less_fits : (ends : Ends) (x : Ratio) (v : ℕ) (r s : Ratio) → less_amount ends x v r ≡ Ok s → Fits r → Fits s
less_fits (Link from to gain) x v r s e fits = link_fits (v == from) (v == to) gain x r s e fits
less_fits (Drain node) x v r s e fits = drain_fits (v == node) x r s e fits
less_fits (Feed node) x v r s e fits = feed_fits (v == node) x r s e fits

fold_fits : (arcs : List NetArc) (v : ℕ) (q r : Ratio) → Fits q → residual_of arcs v q ≡ Ok r → Fits r
fold_fits [] v q r fits e = let same : q ≡ r = cc e in subst Fits same fits
fold_fits (a ∷ arcs) v q r fits e =
    elim (less_amount a.ends a.lower v q) as (λ res. less_amount a.ends a.lower v q ≡ res → fold (λ running (b : NetArc). running ▷ less_amount b.ends b.lower v) res arcs ≡ Ok r → Fits r) [
      | Ok s ↦ λ is rest. fold_fits arcs v s r (less_fits a.ends a.lower v q s is fits) rest
      | Err p ↦ λ is rest. absurd (cc (overflow_stays (λ (b : NetArc) s. less_amount b.ends b.lower v s) (Ok q) p arcs, rest))
    ] refl e

pub residual_fits : (net : Network) (v : ℕ) (r : Ratio) → Fits (at net.supply v) → residual_of net.arcs v (at net.supply v) ≡ Ok r → Fits r
residual_fits net v r fits e = fold_fits net.arcs v (at net.supply v) r fits e
