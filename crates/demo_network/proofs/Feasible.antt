-- The demo network has a feasible plan: drains and feeds balance each node, and nothing else flows.
use Rattle.std.specs.Prelude.{◌≡◌, ◌≢◌, ℕ, ◌+◌, ◌*◌, ◌-◌, ◌/◌, ◌%◌, ◌<◌, ◌==◌, Bool, true, false, if◌then◌else◌, List, [], ◌∷◌, length, map, codes}
use Rattle.std.specs.List.{AllByRecursion, range_with_len, zip}
use Rattle.std.proofs.Common.{refl, sym, ap, subst, ◌∙◌, arith, ne_eqb, eq-eqb}
use Rattle.std.proofs.Math.Nat.{mod-lt, mod-add-div', lt_of_mul-lt-mul_right}
use Rattle.std.proofs.lemmas.Nat.{same_from_place}
use Rattle.std.proofs.lemmas.Bool.Decides.{Decides-eqb}
use Rattle.std.proofs.lemmas.List.Elements.{All-from_recursion}
use Rattle.std.proofs.lemmas.List.FromFn.{length-map-range_with_len}
use Rattle.np_frac.specs.Ratio.{Ratio, zero_ratio, one_ratio, negated, ◌≤ᵣ◌, ◌+ᵣ◌, ◌*ᵣ◌, is_below}
use Rattle.np_frac.proofs.RatioLaws.{+ᵣ-zero, zero-+ᵣ, *ᵣ-zero, zero-*ᵣ, one-*ᵣ, negated-*ᵣ, minus-zero, minus_negated, minus_not_negative, ≤ᵣ_refl, <ᵣ_is_≤ᵣ, if_below}
use Rattle.np_frac.proofs.Sums.{sum, total_is, length-map}
use Rattle.np_model.specs.declared.arc.Ends.{Ends}
use Rattle.np_model.specs.declared.arc.Ends.TheVariants.{Link, Drain, Feed}
use Rattle.np_model.specs.declared.arc.NetArc.{NetArc}
use Rattle.np_model.specs.declared.scheme.Flow.{Flow}
use Rattle.np_model.specs.declared.scheme.FlowKind.{FlowKind}
use Rattle.np_model.specs.declared.scheme.FlowKind.TheVariants as kind
use Rattle.np_model.specs.declared.scheme.Scheme.{Scheme}
use Rattle.np_model.specs.Network.Arcs.{coefficient, IsWithin}
use Rattle.np_model.specs.Network.Flows.{Network, Feasible, at, balance}
use Rattle.np_model.specs.Scheme.Convex.{hull_net}
use Rattle.np_model.specs.Scheme.Kinds.{node_in, ends_in, is_hold}
use Rattle.np_model.specs.Scheme.Plans.{staged, stage_in}
use Rattle.np_model.specs.Scheme.Segments.{Stage, hull}
use Rattle.np_model.proofs.Coefficients.{drain_at as coefficient_drain, drain_off, feed_at as coefficient_feed, feed_off}
use Rattle.demo_network.specs.Demo.{named, supply_at, supplies, hold_at, flows_at, flows, IsDemo}
use Rattle.demo_network.specs.Plans.{HasPlan}
use Rattle.demo_network.proofs.FlowFacts.{link_flow, flows_each, from_zero}
use Rattle.demo_network.proofs.Lists.{all_flat}
use Rattle.demo_network.proofs.Staging.{staged_of, staged_all, sum_joined, sum_flat_map, sum_none, sum_one, sum_staged}

-- ---- the plan

-- what of a supply is too much, and what it lacks
abbrev surplus : Ratio → Ratio
surplus s = if is_below s zero_ratio then zero_ratio else s

abbrev shortage : Ratio → Ratio
shortage s = if is_below s zero_ratio then negated s else zero_ratio

abbrev amount_on : List Ratio → Ends → Ratio
amount_on supply (Link from to gain) = zero_ratio
amount_on supply (Drain v) = surplus (at supply v)
amount_on supply (Feed v) = shortage (at supply v)

abbrev plan_of : List Ratio → List Stage → List Ratio
plan_of supply stages = map (λ (s : Stage). amount_on supply s.ends) stages

surplus_up : (s : Ratio) → zero_ratio ≤ᵣ surplus s
surplus_up s = if_below (λ r. zero_ratio ≤ᵣ r) s zero_ratio zero_ratio s (λ h. ≤ᵣ_refl zero_ratio) (λ h. h)

shortage_up : (s : Ratio) → zero_ratio ≤ᵣ shortage s
shortage_up s =
    if_below (λ r. zero_ratio ≤ᵣ r) s zero_ratio (negated s) zero_ratio
    (λ h. subst (λ (r : Ratio). zero_ratio ≤ᵣ r) (zero-+ᵣ (negated s)) (minus_not_negative (<ᵣ_is_≤ᵣ h))) (λ h. ≤ᵣ_refl zero_ratio)

evened : (s : Ratio) → surplus s +ᵣ negated (shortage s) ≡ s
evened s = by_test (is_below s zero_ratio)
  where
    by_test : (b : Bool) → (if b then zero_ratio else s) +ᵣ negated (if b then negated s else zero_ratio) ≡ s
    by_test true = minus_negated zero_ratio s ∙ zero-+ᵣ s
    by_test false = minus-zero s

-- ---- what an arc adds to the balance of a node

skip : (r s t : Ratio) → r ≡ zero_ratio → s ≡ t → r +ᵣ s ≡ t
skip r s t e f = rw e (zero-+ᵣ s ∙ f)

module _ (supply : List Ratio) (v : ℕ) where
  abbrev pub term : Ends → Ratio
  term ends = coefficient ends v *ᵣ amount_on supply ends

  abbrev pub term_in : ℕ → ℕ → Flow → Ratio
  term_in n period f = term (ends_in n period f.kind)

  pub term_none : (n period : ℕ) (f : Flow) → is_hold f.kind ≡ true → term_in n period f ≡ zero_ratio
  term_none n period f h = by_kind f.kind h
    where
      by_kind : (k : FlowKind) → is_hold k ≡ true → term (ends_in n period k) ≡ zero_ratio
      by_kind (kind.Link from to gain) e = absurd (cc e)
      by_kind (kind.Hold node gain) e = *ᵣ-zero _
      by_kind (kind.Drain node) e = absurd (cc e)
      by_kind (kind.Feed node) e = absurd (cc e)

  -- the drain and the feed of a node add its supply there, and nothing elsewhere
  at_own : (u : ℕ) (b : Bool) → (v == u) ≡ b → term (Drain u) +ᵣ term (Feed u) ≡ (if b then at supply v else zero_ratio)
  at_own u true e =
      let same = (Decides-eqb v u).0 e in
      rw (coefficient_drain u v same, coefficient_feed u v same, one-*ᵣ (surplus (at supply u)), negated-*ᵣ one_ratio (shortage (at supply u)), one-*ᵣ (shortage (at supply u)))
      (evened (at supply u) ∙ ap (at supply) (sym same))
  at_own u false e =
      let differs : v ≢ u = λ q. absurd (cc (sym e ∙ (Decides-eqb v u).1 q)) in
      rw (drain_off u v differs, feed_off u v differs, zero-*ᵣ (surplus (at supply u)), zero-*ᵣ (shortage (at supply u))) (+ᵣ-zero zero_ratio)

  link_none : (n period : ℕ) (name : List ℕ) (from to most cost : ℕ) (b : Bool) → sum (term_in n period) (if b then [] else (link_flow name from to most cost ∷ [])) ≡ zero_ratio
  link_none n period name from to most cost true = refl
  link_none n period name from to most cost false = +ᵣ-zero _ ∙ *ᵣ-zero _

  at_node : (n period k : ℕ) → sum (term_in n period) (flows_at n k) ≡ (if v == node_in n period k then at supply v else zero_ratio)
  at_node n period k =
      let a = link_none n period (named (codes "a") k) k ((k + 1) % n) 10 (1 + k % 3) (k == (k + 1) % n) in
      let b = link_none n period (named (codes "b") k) k ((k + 7) % n) 4 2 (k == (k + 7) % n) in
      let u = node_in n period k in
      sum_joined (term_in n period) _ _
      ∙ skip _ _ _ a (sum_joined (term_in n period) _ _
      ∙ skip _ _ _ b (skip _ _ _ (term_none n period (hold_at k) refl) (ap (λ r. term (Drain u) +ᵣ r) (+ᵣ-zero (term (Feed u))) ∙ at_own u (v == u) refl)))

  in_period : (n period : ℕ) → sum (term_in n period) (flows n) ≡ sum (λ k. if v == node_in n period k then at supply v else zero_ratio) (range_with_len 0 n)
  in_period n period = sum_flat_map (term_in n period) (flows_at n) (range_with_len 0 n) ∙ (λ i. sum (λ k. at_node n period k i) (range_with_len 0 n))

  mark_off : (u : ℕ) → v ≢ u → (if v == u then at supply v else zero_ratio) ≡ zero_ratio
  mark_off u differs = rw (ne_eqb v u differs) refl

  mark_on : (u : ℕ) → v ≡ u → (if v == u then at supply v else zero_ratio) ≡ at supply v
  mark_on u same = rw (eq-eqb v u same) refl

  -- where the node stands in this row at this place
  by_place : (n q r : ℕ) → v ≡ q * n + r → r < n → q < 8 → sum (λ period. sum (term_in n period) (flows n)) (range_with_len 1 8) ≡ at supply v
  by_place n q r e low few =
      let own : (q + 1 - 1) * n + r ≡ q * n + r = ap (λ m. m * n + r) (omega arith) in
      sum_one (λ period. sum (term_in n period) (flows n)) (at supply v) 1 8 (q + 1) (omega arith) (omega arith)
      (in_period n (q + 1)
      ∙ sum_one (λ k. if v == node_in n (q + 1) k then at supply v else zero_ratio) (at supply v) 0 n r (omega arith) (omega arith) (mark_on _ (e ∙ sym own))
      (λ k h high differs. mark_off _ (λ same. absurd (differs (sym (same_from_place q r (q + 1 - 1) k n low (omega arith) (sym e ∙ same)).1)))))
      (λ period h high differs.
      in_period n period
      ∙ sum_none (λ k. if v == node_in n period k then at supply v else zero_ratio) 0 n
      (λ k h' high'. mark_off _ (λ same. let row = (same_from_place q r (period - 1) k n low (omega arith) (sym e ∙ same)).0 in absurd (differs (omega arith)))))

  -- over all flows in all periods they add the supply of the node
  pub whole_balance : (n : ℕ) → v < 8 * n → sum (λ period. sum (term_in n period) (flows n)) (range_with_len 1 8) ≡ at supply v
  whole_balance n high =
      let e = mod-add-div' v n in
      let row : v / n * n < 8 * n = omega arith in
      by_place n (v / n) (v % n) (omega arith) (mod-lt v (omega arith)) (lt_of_mul-lt-mul_right n row)

-- ---- it is within the bounds, and balanced

within_flows : (supply : List Ratio) (n : ℕ) → AllByRecursion (λ (f : Flow). (period : ℕ) → IsWithin (hull (stage_in n period (0, f))) (amount_on supply (ends_in n period f.kind))) (flows n)
within_flows supply n =
    all_flat (λ (f : Flow). (period : ℕ) → IsWithin (hull (stage_in n period (0, f))) (amount_on supply (ends_in n period f.kind))) (flows_at n) 0 n
    (λ k low high.
    flows_each (λ (f : Flow). (period : ℕ) → IsWithin (hull (stage_in n period (0, f))) (amount_on supply (ends_in n period f.kind))) n k
    (λ differs period. (≤ᵣ_refl zero_ratio, from_zero 10)) (λ differs period. (≤ᵣ_refl zero_ratio, from_zero 4)) (λ period. (≤ᵣ_refl zero_ratio, from_zero 8))
    (λ period. (surplus_up (at supply (node_in n period k)), tt)) (λ period. (shortage_up (at supply (node_in n period k)), tt)))

beside : (supply : List Ratio) (stages : List Stage) → AllByRecursion (λ (s : Stage). IsWithin (hull s) (amount_on supply s.ends)) stages → AllByRecursion (λ (a, q). IsWithin a q) (zip (map hull stages) (plan_of supply stages))
beside supply [] h = tt
beside supply (s ∷ stages) h = (h.0, beside supply stages h.1)

balance_sum : (supply : List Ratio) (stages : List Stage) (v : ℕ) → balance (map hull stages) (plan_of supply stages) v ≡ sum (λ (s : Stage). term supply v s.ends) stages
balance_sum supply stages v = total_is (λ (ends, q). coefficient ends v *ᵣ q) (zip (map (λ (a : NetArc). a.ends) (map hull stages)) (plan_of supply stages)) ∙ each stages
  where
    each : (stages : List Stage) → sum (λ (ends, q). coefficient ends v *ᵣ q) (zip (map (λ (a : NetArc). a.ends) (map hull stages)) (plan_of supply stages)) ≡ sum (λ (s : Stage). term supply v s.ends) stages
    each [] = refl
    each (s ∷ stages) = ap (λ (r : Ratio). term supply v s.ends +ᵣ r) (each stages)

feasible : (n : ℕ) → Feasible (hull_net (supplies n) (staged_of 8 n (flows n))) (plan_of (supplies n) (staged_of 8 n (flows n)))
feasible n =
    let supply = supplies n in
    let stages = staged_of 8 n (flows n) in
    let many = length-map-range_with_len (supply_at n) 0 (8 * n) in
    record {
      one_each = length-map (λ (s : Stage). amount_on supply s.ends) stages ∙ sym (length-map hull stages);
      balanced =
          λ v high. balance_sum supply stages v
          ∙ sum_staged (term supply v) 8 n (flows n) (λ period f h. term_none supply v n period f h)
          ∙ whole_balance supply v n (omega arith);
      within =
          All-from_recursion (λ (a, q). IsWithin a q) (zip (map hull stages) (plan_of supply stages))
          (beside supply stages
          (staged_all (λ (s : Stage). IsWithin (hull s) (amount_on supply s.ends)) (λ (f : Flow). (period : ℕ) → IsWithin (hull (stage_in n period (0, f))) (amount_on supply (ends_in n period f.kind))) 8 n
          (flows n) (λ period number f q. q period) (within_flows supply n)));
    }

-- the network of its staged arcs is that of the demo's flows
pub same_net : (n : ℕ) (scheme : Scheme) → IsDemo n scheme → hull_net scheme.supply (staged scheme) ≡ hull_net (supplies n) (staged_of 8 n (flows n))
same_net n scheme demo =
    (λ i. hull_net (demo.supply_is i) (staged_of (demo.periods_are i) (length (demo.nodes_are i)) (demo.flows_are i)))
    ∙ ap (λ (k : ℕ). hull_net (supplies n) (staged_of 8 k (flows n))) (length-map-range_with_len (named (codes "n")) 0 n)

pub has_plan : HasPlan
has_plan n scheme demo =
    (plan_of (supplies n) (staged_of 8 n (flows n)), subst (λ (net : Network). Feasible net (plan_of (supplies n) (staged_of 8 n (flows n)))) (sym (same_net n scheme demo)) (feasible n))
