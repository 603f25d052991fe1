-- The flows of the demo network, one node after the other.
use Rattle.std.specs.Prelude.{◌≡◌, ◌≢◌, ℕ, ◌+◌, ◌*◌, ◌%◌, ◌<◌, ◌≤◌, ◌==◌, Bool, true, false, if◌then◌else◌, pos, sum_by, List, [], ◌∷◌, ◌++◌, length, codes, decimal}
use Rattle.std.specs.List.{AllByRecursion, IsDistinct}
use Rattle.std.specs.Str.{bytes_eq}
use Rattle.std.proofs.Common.{rules, refl, sym, ◌∙◌, arith, le_refl}
use Rattle.std.proofs.Math.Nat.{mod-lt, le-max_left, one-dvd}
use Rattle.std.proofs.lemmas.Bool.Decides.{Decides-eqb}
use Rattle.np_frac.specs.Ratio.{Ratio, whole, over_same, zero_ratio, ◌<ᵣ◌, ◌≤ᵣ◌}
use Rattle.np_frac.specs.Amount.{is_amount}
use Rattle.np_frac.proofs.Amounts.{whole_amount}
use Rattle.np_frac.proofs.RatioLaws.{is_below_true, is_below_false}
use Rattle.np_model.specs.declared.scheme.Flow.{Flow}
use Rattle.np_model.specs.declared.scheme.FlowKind.TheVariants.{Link}
use Rattle.np_model.specs.declared.arc.Upper.TheVariants.{Finite}
use Rattle.np_model.specs.Scheme.Kinds.{periods_of}
use Rattle.np_model.specs.Scheme.Names.{is_name, flow_names}
use Rattle.np_model.specs.Scheme.Valid.{IsSound, expanded_arcs}
use Rattle.demo_network.specs.Demo.{amount, one_half, named, hold_at, drain_at, feed_at, flows_at, flows}
use Rattle.demo_network.proofs.Lists.{all_joined, all_mapped, sum_flat, length_flat}
use Rattle.demo_network.proofs.NameFacts.{IsNumbered, named_is_name}

-- a link with gain 1, from 0 to a bound
abbrev pub link_flow : List ℕ → ℕ → ℕ → ℕ → ℕ → Flow
link_flow name from to most cost = record { name = name; kind = Link from to (amount 1); lower = amount 0; upper = Finite (amount most); cost = amount cost; bands = [] }

link_each : (P : Flow → Type 0) (name : List ℕ) (from to most cost : ℕ) (b : Bool) → (from == to) ≡ b → (from ≢ to → P (link_flow name from to most cost))
    → AllByRecursion P (if b then [] else (link_flow name from to most cost ∷ []))
link_each P name from to most cost true e h = tt
link_each P name from to most cost false e h = (h (λ same. absurd (cc (sym e ∙ (Decides-eqb from to).1 same))), tt)

-- what holds of each flow that begins at node k
pub flows_each : (P : Flow → Type 0) (n k : ℕ) → (k ≢ (k + 1) % n → P (link_flow (named (codes "a") k) k ((k + 1) % n) 10 (1 + k % 3)))
    → (k ≢ (k + 7) % n → P (link_flow (named (codes "b") k) k ((k + 7) % n) 4 2)) → P (hold_at k) → P (drain_at k) → P (feed_at k) → AllByRecursion P (flows_at n k)
flows_each P n k a b hold drain feed =
    let first = link_each P (named (codes "a") k) k ((k + 1) % n) 10 (1 + k % 3) (k == (k + 1) % n) refl a in
    let second = link_each P (named (codes "b") k) k ((k + 7) % n) 4 2 (k == (k + 7) % n) refl b in
    all_joined P _ _ first (all_joined P _ _ second (hold, (drain, (feed, tt))))

-- ---- their names

own_names : (b c : Bool) (k : ℕ) (x y : Flow) → x.name ≡ named (codes "a") k → y.name ≡ named (codes "b") k
    → IsDistinct bytes_eq (flow_names ((if b then [] else (x ∷ [])) ++ ((if c then [] else (y ∷ [])) ++ (hold_at k ∷ drain_at k ∷ feed_at k ∷ []))))
unfolding IsDistinct
own_names true true k x y e f = ((refl, (refl, tt)), ((refl, tt), (tt, tt)))
own_names true false k x y e f = rw f ((refl, (refl, (refl, tt))), ((refl, (refl, tt)), ((refl, tt), (tt, tt))))
own_names false true k x y e f = rw e ((refl, (refl, (refl, tt))), ((refl, (refl, tt)), ((refl, tt), (tt, tt))))
own_names false false k x y e f = rw (e, f) ((refl, (refl, (refl, (refl, tt)))), ((refl, (refl, (refl, tt))), ((refl, (refl, tt)), ((refl, tt), (tt, tt)))))

pub names_differ : (n k : ℕ) → IsDistinct bytes_eq (flow_names (flows_at n k))
names_differ n k =
    own_names (k == (k + 1) % n) (k == (k + 7) % n) k (link_flow (named (codes "a") k) k ((k + 1) % n) 10 (1 + k % 3)) (link_flow (named (codes "b") k) k ((k + 7) % n) 4 2) refl refl

pub names_numbered : (n k : ℕ) → AllByRecursion (IsNumbered k (k + 1)) (flow_names (flows_at n k))
names_numbered n k =
    let numbered : (c : ℕ) → IsNumbered k (k + 1) (c ∷ decimal k) = λ c. (c, k, le_refl k, omega arith, refl) in
    all_mapped (IsNumbered k (k + 1)) (λ (f : Flow). f.name) (flows_at n k)
    (flows_each (λ f. IsNumbered k (k + 1) f.name) n k (λ differs. numbered 97) (λ differs. numbered 98) (numbered 104) (numbered 100) (numbered 102))

pub names_are : (n k : ℕ) → k < 1000 → AllByRecursion (λ name. is_name name ≡ true) (flow_names (flows_at n k))
names_are n k few =
    all_mapped (λ name. is_name name ≡ true) (λ (f : Flow). f.name) (flows_at n k)
    (flows_each (λ f. is_name f.name ≡ true) n k (λ differs. named_is_name 97 k refl few) (λ differs. named_is_name 98 k refl few) (named_is_name 104 k refl few)
    (named_is_name 100 k refl few) (named_is_name 102 k refl few))

-- ---- how many they are, and how many arcs they have

pub few_flows : (n : ℕ) → length (flows n) ≤ 5 * n
few_flows n = length_flat (flows_at n) 5 0 n (λ k. own (k == (k + 1) % n) (k == (k + 7) % n) k (link_flow (named (codes "a") k) k ((k + 1) % n) 10 (1 + k % 3)) (link_flow (named (codes "b") k) k ((k + 7) % n) 4 2))
  where
    own : (b c : Bool) (k : ℕ) (x y : Flow) → length ((if b then [] else (x ∷ [])) ++ ((if c then [] else (y ∷ [])) ++ (hold_at k ∷ drain_at k ∷ feed_at k ∷ []))) ≤ 5
    own true true k x y = omega arith
    own true false k x y = omega arith
    own false true k x y = omega arith
    own false false k x y = omega arith

abbrev arcs_of : Flow → ℕ
arcs_of flow = (1 + length flow.bands) * periods_of 8 flow.kind

pub few_arcs : (n : ℕ) → expanded_arcs 8 (flows n) ≤ 47 * n
few_arcs n = sum_flat arcs_of (flows_at n) 47 0 n (λ k. own (k == (k + 1) % n) (k == (k + 7) % n) k (link_flow (named (codes "a") k) k ((k + 1) % n) 10 (1 + k % 3)) (link_flow (named (codes "b") k) k ((k + 7) % n) 4 2) (le_refl 8) (le_refl 8))
  where
    own : (b c : Bool) (k : ℕ) (x y : Flow) → arcs_of x ≤ 8 → arcs_of y ≤ 8
        → sum_by arcs_of ((if b then [] else (x ∷ [])) ++ ((if c then [] else (y ∷ [])) ++ (hold_at k ∷ drain_at k ∷ feed_at k ∷ []))) ≤ 47
    own true true k x y h i = omega arith
    own true false k x y h i = omega (arith, i)
    own false true k x y h i = omega (arith, h)
    own false false k x y h i = omega (arith, h, i)

-- ---- they are sound

abbrev half : Ratio
half = record { num = pos 1; den = 2; lowest = record { positive = omega arith; coprime = (one-dvd 1, one-dvd 2, λ d m n. m) } }

half_is : one_half ≡ half
half_is = sym (over_same half (pos 1) 2 (le-max_left 1 2) refl)

half_above : zero_ratio <ᵣ one_half
unfolding whole
half_above = rw half_is (is_below_true zero_ratio half refl)

half_amount : is_amount one_half ≡ true
unfolding is_amount
half_amount = rw half_is refl

pub from_zero : (most : ℕ) → amount 0 ≤ᵣ amount most
unfolding whole
from_zero most = record { cross = search rules }

dearer : amount 20 ≤ᵣ amount 30
unfolding whole
dearer = is_below_false (amount 30) (amount 20) refl

link_sound : (n : ℕ) (name : List ℕ) (from to most cost : ℕ) → from < n → to < n → from ≢ to → most < 1000 → cost < 1000 → IsSound n (link_flow name from to most cost)
unfolding whole
link_sound n name from to most cost h i differs small cheap =
    let one = whole_amount (pos 1) (omega arith) in
    let none = whole_amount (pos 0) (omega arith) in
    let upper = whole_amount (pos most) (omega arith) in
    let price = whole_amount (pos cost) (omega arith) in
    record {
      joins = (h, i, differs);
      gain = is_below_true zero_ratio (amount 1) refl;
      bounds = from_zero most;
      reached = tt;
      convex = tt;
      amounts = rw (one, none, upper, price) refl;
    }

hold_sound : (n k : ℕ) → k < n → IsSound n (hold_at k)
unfolding whole
hold_sound n k h =
    record {
      joins = h;
      gain = half_above;
      bounds = from_zero 8;
      reached = tt;
      convex = tt;
      amounts = rw (half_amount, whole_amount (pos 0) (omega arith), whole_amount (pos 8) (omega arith)) refl;
    }

drain_sound : (n k : ℕ) → k < n → IsSound n (drain_at k)
drain_sound n k h =
    record { joins = h; gain = tt; bounds = tt; reached = tt; convex = tt; amounts = rw (whole_amount (pos 0) (omega arith)) refl }

feed_sound : (n k : ℕ) → k < n → IsSound n (feed_at k)
feed_sound n k h =
    record {
      joins = h;
      gain = tt;
      bounds = from_zero 5;
      reached = tt;
      convex = (dearer, tt, tt);
      amounts = rw (whole_amount (pos 0) (omega arith), whole_amount (pos 5) (omega arith), whole_amount (pos 20) (omega arith), whole_amount (pos 30) (omega arith)) refl;
    }

pub flows_sound : (n k : ℕ) → k < n → AllByRecursion (IsSound n) (flows_at n k)
flows_sound n k h =
    let some : 0 < n = omega arith in
    flows_each (IsSound n) n k
    (λ differs. link_sound n (named (codes "a") k) k ((k + 1) % n) 10 (1 + k % 3) h (mod-lt (k + 1) some) differs (omega arith) (let small = mod-lt k {m = 3} (omega arith) in omega arith))
    (λ differs. link_sound n (named (codes "b") k) k ((k + 7) % n) 4 2 h (mod-lt (k + 7) some) differs (omega arith) (omega arith))
    (hold_sound n k h) (drain_sound n k h) (feed_sound n k h)
