-- The tests of a scheme hold exactly of what is a scheme.
use Rattle.std.specs.Prelude.{◌≡◌, ℕ, ◌==◌, ◌&&◌, not, nat_lt, true, false, List, [], ◌∷◌, length}
use Rattle.std.specs.List.{AllByRecursion, IsDistinct, list_all}
use Rattle.std.specs.Str.{bytes_eq}
use Rattle.std.proofs.Common.{refl, sym, ◌∙◌, arith}
use Rattle.std.proofs.lemmas.Bool.{and_parts}
use Rattle.std.proofs.lemmas.Bool.Decides.{nat_tests}
use Rattle.std.proofs.lemmas.List.Sums.{AllPass-from_list_all, list_all-from_AllPass}
use Rattle.std.proofs.lemmas.List.Folds.{list_all-map}
use Rattle.std.proofs.lemmas.List.Elements.{recursion_from_All, All-from_recursion}
use Rattle.np_frac.specs.Ratio.{Ratio, zero_ratio, is_below, ◌≤ᵣ◌, ◌<ᵣ◌}
use Rattle.np_frac.specs.Amount.{is_amount}
use Rattle.np_frac.proofs.RatioLaws.{is_below_true, is_below_false, clash}
use Rattle.np_model.specs.declared.arc.Upper.{Upper}
use Rattle.np_model.specs.declared.arc.Upper.TheVariants.{Finite, Infinite}
use Rattle.np_model.specs.declared.scheme.FlowKind.{FlowKind}
use Rattle.np_model.specs.declared.scheme.FlowKind.TheVariants.{Link, Hold, Drain, Feed}
use Rattle.np_model.specs.declared.scheme.Band.{Band}
use Rattle.np_model.specs.declared.scheme.Flow.{Flow}
use Rattle.np_model.specs.Network.Arcs.{IsAtMost, is_at_most, IsUnder, is_under}
use Rattle.np_model.specs.Scheme.Names.{is_name, flow_names}
use Rattle.np_model.specs.Scheme.Kinds.{JoinsNodes, HasGain}
use Rattle.np_model.specs.Scheme.Segments.{AreReached, IsConvexFrom}
use Rattle.np_model.specs.Scheme.Valid.{has_amounts, IsSound, IsScheme}
use Rattle.np_model.specs.Steps.Tests.{joins_nodes, has_gain, go_on, is_sound, AreTested}

-- ---- tests of ratios

below-is : (a b : Ratio) → a <ᵣ b → is_below a b ≡ true
below-is a b k = elim (is_below a b) as (λ t. is_below a b ≡ t → t ≡ true) [ true ↦ λ e. refl | false ↦ λ e. absurd (clash k (is_below_false a b e)) ] refl

not-below-is : (a b : Ratio) → b ≤ᵣ a → not (is_below a b) ≡ true
not-below-is a b k = elim (is_below a b) as (λ t. is_below a b ≡ t → not t ≡ true) [ true ↦ λ e. absurd (clash (is_below_true a b e) k) | false ↦ λ e. refl ] refl

not-below-so : (a b : Ratio) → not (is_below a b) ≡ true → b ≤ᵣ a
not-below-so a b = elim (is_below a b) as (λ t. is_below a b ≡ t → not t ≡ true → b ≤ᵣ a) [ true ↦ λ e h. absurd (cc h) | false ↦ λ e h. is_below_false a b e ] refl

pub at-most-is : (x : Ratio) (u : Upper) → IsAtMost x u → is_at_most x u ≡ true
at-most-is x (Finite u) h = not-below-is u x h
at-most-is x Infinite h = refl

pub at-most-so : (x : Ratio) (u : Upper) → is_at_most x u ≡ true → IsAtMost x u
at-most-so x (Finite u) h = not-below-so u x h
at-most-so x Infinite h = tt

pub under-is : (x : Ratio) (u : Upper) → IsUnder x u → is_under x u ≡ true
under-is x (Finite u) h = below-is x u h
under-is x Infinite h = refl

pub under-so : (x : Ratio) (u : Upper) → is_under x u ≡ true → IsUnder x u
under-so x (Finite u) h = is_below_true x u h
under-so x Infinite h = tt

-- ---- kinds of flow

pub joins-is : (n : ℕ) (kind : FlowKind) → JoinsNodes n kind → joins_nodes n kind ≡ true
joins-is n (Link from to gain) h = let a = h.0 in let b = h.1 in let c = h.2 in grind (arith, nat_tests)
joins-is n (Hold node gain) h = grind (arith, nat_tests)
joins-is n (Drain node) h = grind (arith, nat_tests)
joins-is n (Feed node) h = grind (arith, nat_tests)

pub joins-so : (n : ℕ) (kind : FlowKind) → joins_nodes n kind ≡ true → JoinsNodes n kind
joins-so n (Link from to gain) h =
    let p = and_parts (nat_lt from n && nat_lt to n) (not (from == to)) h in
    let q = and_parts (nat_lt from n) (nat_lt to n) p.0 in
    let a = q.0 in
    let b = q.1 in
    let d = p.1 in
    (grind (arith, nat_tests), grind (arith, nat_tests), λ e. absurd (grind (arith, nat_tests)))
joins-so n (Hold node gain) h = grind (arith, nat_tests)
joins-so n (Drain node) h = grind (arith, nat_tests)
joins-so n (Feed node) h = grind (arith, nat_tests)

pub gain-is : (kind : FlowKind) → HasGain kind → has_gain kind ≡ true
gain-is (Link from to gain) h = below-is zero_ratio gain h
gain-is (Hold node gain) h = below-is zero_ratio gain h
gain-is (Drain node) h = refl
gain-is (Feed node) h = refl

pub gain-so : (kind : FlowKind) → has_gain kind ≡ true → HasGain kind
gain-so (Link from to gain) h = is_below_true zero_ratio gain h
gain-so (Hold node gain) h = is_below_true zero_ratio gain h
gain-so (Drain node) h = tt
gain-so (Feed node) h = tt

-- ---- bands

pub go-on-is : (end : Upper) (slope : Ratio) (bands : List Band) → AreReached end bands → IsConvexFrom slope bands → go_on end slope bands ≡ true
go-on-is end slope [] h k = refl
go-on-is Infinite slope (b ∷ bs) h k = absurd h
go-on-is (Finite end) slope (b ∷ bs) h k = rw (not-below-is b.slope slope k.0, under-is zero_ratio b.width k.1, go-on-is b.width b.slope bs h k.2) refl

pub go-on-so : (end : Upper) (slope : Ratio) (bands : List Band) → go_on end slope bands ≡ true → AreReached end bands × IsConvexFrom slope bands
go-on-so end slope [] h = (tt, tt)
go-on-so Infinite slope (b ∷ bs) h = absurd (cc h)
go-on-so (Finite end) slope (b ∷ bs) h =
    let p = and_parts (not (is_below b.slope slope) && is_under zero_ratio b.width) (go_on b.width b.slope bs) h in
    let q = and_parts (not (is_below b.slope slope)) (is_under zero_ratio b.width) p.0 in
    let rest = go-on-so b.width b.slope bs p.1 in
    (rest.0, (not-below-so b.slope slope q.0, under-so zero_ratio b.width q.1, rest.1))

-- ---- flows

pub sound-is : (n : ℕ) (flow : Flow) → IsSound n flow → is_sound n flow ≡ true
sound-is n flow h =
    rw (joins-is n flow.kind h.joins, gain-is flow.kind h.gain, at-most-is flow.lower flow.upper h.bounds, go-on-is flow.upper flow.cost flow.bands h.reached h.convex, h.amounts) refl

pub sound-so : (n : ℕ) (flow : Flow) → is_sound n flow ≡ true → IsSound n flow
sound-so n flow h =
    let j = joins_nodes n flow.kind in
    let g = has_gain flow.kind in
    let b = is_at_most flow.lower flow.upper in
    let w = go_on flow.upper flow.cost flow.bands in
    let p = and_parts (j && g && b && w) (has_amounts flow) h in
    let q = and_parts (j && g && b) w p.0 in
    let r = and_parts (j && g) b q.0 in
    let s = and_parts j g r.0 in
    let bands = go-on-so flow.upper flow.cost flow.bands q.1 in
    record { joins = joins-so n flow.kind s.0; gain = gain-so flow.kind s.1; bounds = at-most-so flow.lower flow.upper r.1; reached = bands.0; convex = bands.1; amounts = p.1 }

each-is : (n : ℕ) (flows : List Flow) → AllByRecursion (IsSound n) flows → list_all (is_sound n) flows ≡ true
each-is n [] h = refl
each-is n (f ∷ fs) h = rw (sound-is n f h.0, each-is n fs h.1) refl

each-so : (n : ℕ) (flows : List Flow) → list_all (is_sound n) flows ≡ true → AllByRecursion (IsSound n) flows
each-so n [] h = tt
each-so n (f ∷ fs) h = let p = and_parts (is_sound n f) (list_all (is_sound n) fs) h in (sound-so n f p.0, each-so n fs p.1)

-- ---- the whole

pub scheme-so : (periods : ℕ) (nodes : List (List ℕ)) (supply : List Ratio) (flows : List Flow) → AreTested periods nodes supply flows → IsDistinct bytes_eq nodes → IsDistinct bytes_eq (flow_names flows) → IsScheme periods nodes supply flows
scheme-so periods nodes supply flows t d e =
    let few = t.few in
    record {
      some_period = t.size.some_period;
      few_periods = t.size.few_periods;
      node_names = record { each = AllPass-from_list_all is_name nodes t.node_names; distinct = d };
      few_nodes = t.size.few_nodes;
      one_each = t.size.one_each;
      amounts = AllPass-from_list_all is_amount supply t.amounts;
      flow_names = record { each = AllPass-from_list_all is_name (flow_names flows) (list_all-map is_name (λ (f : Flow). f.name) flows ∙ t.flow_names); distinct = e };
      sound = All-from_recursion (IsSound (length nodes)) flows (each-so (length nodes) flows t.sound);
      few_flows = t.size.few_flows;
      few_arcs = grind (arith, nat_tests);
    }

pub scheme-is : (periods : ℕ) (nodes : List (List ℕ)) (supply : List Ratio) (flows : List Flow) → IsScheme periods nodes supply flows → AreTested periods nodes supply flows
scheme-is periods nodes supply flows h =
    let few = h.few_arcs in
    record {
      size = record { some_period = h.some_period; few_periods = h.few_periods; few_nodes = h.few_nodes; one_each = h.one_each; few_flows = h.few_flows };
      few = grind (arith, nat_tests);
      node_names = list_all-from_AllPass is_name nodes h.node_names.each;
      flow_names = sym (list_all-map is_name (λ (f : Flow). f.name) flows) ∙ list_all-from_AllPass is_name (flow_names flows) h.flow_names.each;
      amounts = list_all-from_AllPass is_amount supply h.amounts;
      sound = each-is (length nodes) flows (recursion_from_All (IsSound (length nodes)) flows h.sound);
    }
