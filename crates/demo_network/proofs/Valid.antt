-- The demo network is a valid planning problem.
use Rattle.std.specs.Prelude.{◌≡◌, ℕ, zero, suc, ◌+◌, ◌*◌, ◌/◌, ◌%◌, ◌<◌, ◌≤◌, ◌^◌, Bool, true, false, cond, pos, negsuc, ◌-◌, ◌-ℤ◌, unsigned_abs, map, codes}
use Rattle.std.specs.List.{IsDistinct, flat_map, range_with_len}
use Rattle.std.specs.Str.{bytes_eq}
use Rattle.std.proofs.Common.{refl, sym, ap, ◌∙◌, arith, le_refl}
use Rattle.std.proofs.Math.Nat.{mod-lt}
use Rattle.std.proofs.lemmas.List.Elements.{All-from_recursion}
use Rattle.std.proofs.lemmas.List.FromFn.{length-map-range_with_len}
use Rattle.np_frac.specs.Ratio.{Ratio}
use Rattle.np_frac.specs.Amount.{is_amount}
use Rattle.np_frac.proofs.Amounts.{whole_amount}
use Rattle.np_model.specs.declared.scheme.Flow.{Flow}
use Rattle.np_model.specs.Scheme.Names.{AreNames, is_name, flow_names}
use Rattle.np_model.specs.Scheme.Valid.{IsScheme, IsSound}
use Rattle.demo_network.specs.Demo.{named, node_names, supply_at, supplies, flows_at, flows}
use Rattle.demo_network.proofs.Lists.{all_range, all_flat, map_flat}
use Rattle.demo_network.proofs.NameFacts.{named_is_name, differ, distinct_names}
use Rattle.demo_network.proofs.FlowFacts.{flows_sound, few_arcs, few_flows, names_differ, names_numbered, names_are}

supply_amount : (n place : ℕ) → is_amount (supply_at n place) ≡ true
supply_amount n place =
    let below = mod-lt (7 * (place % n) + 5 * (place / n + 1)) {m = 11} (omega arith) in
    whole_amount (pos ((7 * (place % n) + 5 * (place / n + 1)) % 11) -ℤ pos 5) (small ((7 * (place % n) + 5 * (place / n + 1)) % 11) below)
  where
    either : (b : Bool) (k j : ℕ) → k < 11 → j < 11 → unsigned_abs (cond b (negsuc k) (pos j)) < 10 ^ 18
    either true k j h i = omega arith
    either false k j h i = omega arith

    small : (m : ℕ) → m < 11 → unsigned_abs (pos m -ℤ pos 5) < 10 ^ 18
    small m h = either _ (5 - suc m) (m - 5) (omega arith) (omega arith)

node_names_differ : (a m : ℕ) → a + m ≤ 1000 → IsDistinct bytes_eq (map (named (codes "n")) (range_with_len a m))
unfolding IsDistinct
node_names_differ a zero few = tt
node_names_differ a (suc m) few = (
  all_range (λ y. bytes_eq (named (codes "n") a) y ≡ false) (named (codes "n")) (a + 1) m
      (λ k low high. differ a (named (codes "n") a) (named (codes "n") k) (omega arith) (110, a, le_refl a, omega arith, refl) (110, k, low, omega arith, refl)),
  node_names_differ (a + 1) m (omega arith),
)

nodes_named : (n : ℕ) → n ≤ 1000 → AreNames (node_names n)
nodes_named n few =
    record {
      each = All-from_recursion (λ name. is_name name ≡ true) (node_names n) (all_range (λ name. is_name name ≡ true) (named (codes "n")) 0 n (λ k low high. named_is_name 110 k refl (omega arith)));
      distinct = node_names_differ 0 n (omega arith);
    }

flow_names_are : (n : ℕ) → flow_names (flows n) ≡ flat_map (λ k. flow_names (flows_at n k)) (range_with_len 0 n)
flow_names_are n = map_flat (λ (f : Flow). f.name) (flows_at n) 0 n

flows_have_names : (n : ℕ) → n ≤ 1000 → AreNames (flow_names (flows n))
flows_have_names n few =
    record {
      each =
          rw (flow_names_are n)
          (All-from_recursion (λ name. is_name name ≡ true) (flat_map (λ k. flow_names (flows_at n k)) (range_with_len 0 n))
          (all_flat (λ name. is_name name ≡ true) (λ k. flow_names (flows_at n k)) 0 n (λ k low high. names_are n k (omega arith))));
      distinct = rw (flow_names_are n) (distinct_names (λ k. flow_names (flows_at n k)) 0 n (omega arith) (names_differ n) (names_numbered n)).0;
    }

pub demo_valid : (n : ℕ) → 1 ≤ n → n ≤ 1000 → IsScheme 8 (node_names n) (supplies n) (flows n)
demo_valid n some few =
    let nodes = length-map-range_with_len (named (codes "n")) 0 n in
    let amounts = length-map-range_with_len (supply_at n) 0 (8 * n) in
    record {
      some_period = omega arith;
      few_periods = omega arith;
      node_names = nodes_named n few;
      few_nodes = omega (arith, nodes);
      one_each = amounts ∙ ap (λ (k : ℕ). 8 * k) (sym nodes);
      amounts = All-from_recursion (λ (r : Ratio). is_amount r ≡ true) (supplies n) (all_range (λ (r : Ratio). is_amount r ≡ true) (supply_at n) 0 (8 * n) (λ place low high. supply_amount n place));
      flow_names = flows_have_names n few;
      sound = rw nodes (All-from_recursion (IsSound n) (flows n) (all_flat (IsSound n) (flows_at n) 0 n (λ k low high. flows_sound n k (omega arith))));
      few_flows = let h = few_flows n in omega arith;
      few_arcs = let h = few_arcs n in omega arith;
    }
