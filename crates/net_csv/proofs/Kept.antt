-- The tables of records without a fault make a valid scheme: their names are names, their flows sound, and their nodes few.
use Rattle.std.specs.Prelude.{◌≡◌, ℕ, suc, zero, ◌+◌, ◌-◌, ◌*◌, ◌≤◌, ◌&&◌, nat_le, not, Bool, true, false, Option, Some, None, is_some, IfSome, List, [], ◌∷◌, ◌++◌, length, set, map, slice_get, codes}
use Rattle.std.specs.List.{All, list_all}
use Rattle.std.specs.Option.{option_map_or, option_and_then}
use Rattle.std.specs.Str.{bytes_eq}
use Rattle.std.proofs.Common.{refl, sym, ap, ◌∙◌, inl, inr, arith}
use Rattle.std.proofs.lemmas.Bool.{and_parts, cases_Bool}
use Rattle.std.proofs.lemmas.Bool.Decides.{nat_tests}
use Rattle.std.proofs.lemmas.List.{length_push, map-append}
use Rattle.std.proofs.lemmas.List.Elements.{All-nil, All-head, All-tail, All-push, All-set, All-weaker}
use Rattle.std.proofs.lemmas.List.Folds.{list_all-append}
use Rattle.np_frac.specs.Ratio.{Ratio, zero_ratio, is_below, ◌≤ᵣ◌, ◌<ᵣ◌}
use Rattle.np_frac.specs.Text.{number, is_number}
use Rattle.np_frac.specs.Amount.{amount_of, is_amount}
use Rattle.np_frac.proofs.Amounts.{value_is_amount}
use Rattle.np_frac.proofs.RatioLaws.{is_below_true, is_below_false}
use Rattle.np_records.specs.Names.{place_of, place_in}
use Rattle.np_records.specs.Records.{field_of}
use Rattle.np_model.specs.declared.arc.Upper.{Upper}
use Rattle.np_model.specs.declared.arc.Upper.TheVariants.{Finite, Infinite}
use Rattle.np_model.specs.declared.scheme.Band.{Band}
use Rattle.np_model.specs.declared.scheme.Flow.{Flow}
use Rattle.np_model.specs.declared.scheme.FlowKind.{FlowKind}
use Rattle.np_model.specs.declared.scheme.FlowKind.TheVariants.{Link, Hold, Drain, Feed}
use Rattle.np_model.specs.Network.Arcs.{IsAtMost, IsUnder, is_at_most, is_under, is_finite}
use Rattle.np_model.specs.Scheme.Segments.{last_slope, IsConvexFrom, AreReached}
use Rattle.np_model.specs.Scheme.Names.{AreNames, is_name}
use Rattle.np_model.specs.Scheme.Valid.{IsSound, is_amount_or_infinite, has_amount_gain}
use Rattle.np_model.specs.Scheme.Kinds.{JoinsNodes, HasGain}
use Rattle.net_csv.specs.declared.given.Given.{Given}
use Rattle.net_csv.specs.declared.refused.Code.TheVariants as code
use Rattle.np_records.specs.Faults.{unless}
use Rattle.net_csv.specs.Fields.{fields_fault, period_fault, new_fault, used_fault, amount_fault, is_all, period_of, upper_fault, gain_fault, upper_of, is_infinite}
use Rattle.np_records.specs.Rows.{is_period, is_kind}
use Rattle.net_csv.specs.Network.{is_flow, kind_in, bounds_place}
use Rattle.net_csv.specs.Faults.{has_finite_end, present_slope, record_fault, kind_fault, flow_fields, numbers_fault, ends_fault, bounds_fault, head_fault, flow_fault, band_fault, band_of, piece_fault, node_fault, supply_fault, nodes_fault}
use Rattle.net_csv.specs.Steps.Tables.{Tables, no_tables, AreKept, IsGiven, supply_of, with_record, with_node, with_supply, with_flow, with_piece, band_added, banded, plain_flow, numbers_of}
use Rattle.np_frac.proofs.TextTests.{amount-reads}
use Rattle.np_records.proofs.FaultFacts.{or-first, or-rest, unless-none}
use Rattle.net_csv.proofs.LastSlopes.{last-of}
use Rattle.net_csv.proofs.Fine.{used-some}
use Rattle.np_records.proofs.Places.{place-within, places-differ, distinct-push, distinct-none}

-- ---- amounts and bounds

amount-is : (bs : List ℕ) → amount_fault bs ≡ None → is_amount (amount_of bs) ≡ true
amount-is bs h = value_is_amount (amount_of bs) bs (amount-reads bs (unless-none _ _ h)) refl

upper-is : (bs : List ℕ) → upper_fault bs ≡ None → is_amount_or_infinite (upper_of bs) ≡ true
upper-is bs h = elim (cases_Bool (is_infinite bs)) [
  | inl t ↦ rw t refl
  | inr f ↦ rw f (amount-is bs (rw f at h))
]

gain-above : (bs : List ℕ) → gain_fault bs ≡ None → zero_ratio <ᵣ amount_of bs
gain-above bs h = is_below_true zero_ratio (amount_of bs) (unless-none _ _ (or-rest (amount_fault bs) _ h))

gain-is : (bs : List ℕ) → gain_fault bs ≡ None → is_amount (amount_of bs) ≡ true
gain-is bs h = amount-is bs (or-first (amount_fault bs) _ h)

not-true : (b : Bool) → not b ≡ true → b ≡ false
not-true true h = absurd (cc h)
not-true false h = refl

at-most : (x : Ratio) (u : Upper) → is_at_most x u ≡ true → IsAtMost x u
at-most x (Finite u) h = is_below_false u x (not-true _ h)
at-most x Infinite h = tt

wide : (u : Upper) → is_under zero_ratio u ≡ true → IsUnder zero_ratio u
wide (Finite u) h = is_below_true zero_ratio u h
wide Infinite h = tt

-- ---- bands

reached-push : (end : Upper) (bands : List Band) (b : Band) → AreReached end bands → is_finite (option_map_or (λ band. band.width) (slice_get bands (length bands - 1)) end) ≡ true
    → AreReached end (bands ++ b ∷ [])
reached-push (Finite u) [] b h e = tt
reached-push Infinite [] b h e = absurd (cc e)
reached-push Infinite (a ∷ rest) b h e = h
reached-push (Finite u) (a ∷ []) b h e = reached-push a.width [] b tt e
reached-push (Finite u) (a ∷ c ∷ rest) b h e = reached-push a.width (c ∷ rest) b h (ap is_finite (sym (last-of (λ band. band.width) a c rest (Finite u) a.width)) ∙ e)

convex-push : (slope : Ratio) (bands : List Band) (b : Band) → IsConvexFrom slope bands → last_slope slope bands ≤ᵣ b.slope → IsUnder zero_ratio b.width → IsConvexFrom slope (bands ++ b ∷ [])
convex-push slope [] b h e w = (e, w, tt)
convex-push slope (a ∷ rest) b h e w = (h.0, h.1, convex-push a.slope rest b h.2 e w)

-- ---- a flow

list_all-push : {X : Type 0} (p : X → Bool) (xs : List X) (x : X) → list_all p xs ≡ true → p x ≡ true → list_all p (xs ++ x ∷ []) ≡ true
list_all-push p xs x all here = list_all-append p xs (x ∷ []) ∙ rw (all, here) refl

-- what is asked of the kind of a flow among n nodes
record IsKindRight (n : ℕ) (kind : FlowKind) : Type 0 where
  pub joins : JoinsNodes n kind
  pub gain : HasGain kind
  pub amounts : has_amount_gain kind ≡ true

kind-right : (ns : List (List ℕ)) (r : List (List ℕ)) → kind_fault ns r ≡ None → ends_fault r ≡ None → IsKindRight (length ns) (kind_in ns r)
kind-right ns r h e = elim (cases_Bool (is_kind r (codes "arc"))) [
  | inl t ↦
      let k = rw t at h in
      let from = used-some ns (field_of r 2) (or-first (used_fault ns (field_of r 2)) _ k) in
      let to = used-some ns (field_of r 3) (or-first (used_fault ns (field_of r 3)) _ (or-rest (used_fault ns (field_of r 2)) _ k)) in
      let gain = or-first (gain_fault (field_of r 4)) None (or-rest (used_fault ns (field_of r 3)) _ (or-rest (used_fault ns (field_of r 2)) _ k)) in
      let apart : bytes_eq (field_of r 2) (field_of r 3) ≡ false = not-true _ (unless-none _ _ (rw t at e)) in
      rw t (record {
        joins = (place-within ns (field_of r 2) from, place-within ns (field_of r 3) to, places-differ ns (field_of r 2) (field_of r 3) from to apart);
        gain = gain-above (field_of r 4) gain;
        amounts = gain-is (field_of r 4) gain;
      })
  | inr a ↦ elim (cases_Bool (is_kind r (codes "hold"))) [
    | inl t ↦
        let k = rw (a, t) at h in
        let node = used-some ns (field_of r 2) (or-first (used_fault ns (field_of r 2)) _ k) in
        let gain = or-first (gain_fault (field_of r 3)) None (or-rest (used_fault ns (field_of r 2)) _ k) in
        rw (a, t) (record { joins = place-within ns (field_of r 2) node; gain = gain-above (field_of r 3) gain; amounts = gain-is (field_of r 3) gain })
    | inr b ↦
        let node = used-some ns (field_of r 2) (rw (a, b) at h) in
        elim (cases_Bool (is_kind r (codes "drain"))) [
          | inl t ↦ rw (a, b, t) (record { joins = place-within ns (field_of r 2) node; gain = tt; amounts = refl })
          | inr c ↦ rw (a, b, c) (record { joins = place-within ns (field_of r 2) node; gain = tt; amounts = refl })
        ]
  ]
]

-- what the tests of a flow's record leave
record IsHeadRight (ns names : List (List ℕ)) (r : List (List ℕ)) : Type 0 where
  pub name : new_fault names (field_of r 1) ≡ None
  pub kind : IsKindRight (length ns) (kind_in ns r)
  pub lower : is_amount (amount_of (field_of r (bounds_place r))) ≡ true
  pub upper : is_amount_or_infinite (upper_of (field_of r (bounds_place r + 1))) ≡ true
  pub cost : is_amount (amount_of (field_of r (bounds_place r + 2))) ≡ true
  pub bounds : IsAtMost (amount_of (field_of r (bounds_place r))) (upper_of (field_of r (bounds_place r + 1)))

head-right : (ns names : List (List ℕ)) (r : List (List ℕ)) → head_fault ns names r ≡ None → IsHeadRight ns names r
head-right ns names r h =
    let p = bounds_place r in
    let rest = or-rest (fields_fault (flow_fields r) r) _ h in
    let after_name = or-rest (new_fault names (field_of r 1)) _ rest in
    let after_kind = or-rest (kind_fault ns r) _ after_name in
    let after_numbers = or-rest (numbers_fault r p) _ after_kind in
    let numbers = or-first (numbers_fault r p) _ after_kind in
    let upper = or-rest (amount_fault (field_of r p)) _ numbers in
    record {
      name = or-first (new_fault names (field_of r 1)) _ rest;
      kind = kind-right ns r (or-first (kind_fault ns r) _ after_name) (or-first (ends_fault r) _ after_numbers);
      lower = amount-is (field_of r p) (or-first (amount_fault (field_of r p)) _ numbers);
      upper = upper-is (field_of r (p + 1)) (or-first (upper_fault (field_of r (p + 1))) _ upper);
      cost = amount-is (field_of r (p + 2)) (or-first (amount_fault (field_of r (p + 2))) _ (or-rest (upper_fault (field_of r (p + 1))) _ upper));
      bounds = at-most _ _ (unless-none _ _ (or-first (bounds_fault r p) None (or-rest (ends_fault r) _ after_numbers)));
    }

flow-sound : (ns names : List (List ℕ)) (r : List (List ℕ)) → IsHeadRight ns names r → IsSound (length ns) (plain_flow (field_of r 1) (kind_in ns r) (numbers_of r (bounds_place r)))
flow-sound ns names r h = record {
  joins = h.kind.joins;
  gain = h.kind.gain;
  bounds = h.bounds;
  reached = tt;
  convex = tt;
  amounts = rw (h.kind.amounts, h.lower, h.upper, h.cost) refl;
}

-- ---- a band

band-sound : (n periods arcs : ℕ) (band : Band) (f : Flow) → IsSound n f → (is_amount_or_infinite band.width && is_amount band.slope) ≡ true → band_fault periods arcs band f ≡ None
    → IsSound n (banded f band)
band-sound n periods arcs band f s amounts h =
    let wide_on = or-rest (unless (has_finite_end f) code.PieceAfterInfinite) _ h in
    let slope_on = or-rest (unless (is_under zero_ratio band.width) code.BadBounds) _ wide_on in
    let finite : has_finite_end f ≡ true = unless-none _ _ (or-first (unless (has_finite_end f) code.PieceAfterInfinite) _ h) in
    let width = unless-none _ _ (or-first (unless (is_under zero_ratio band.width) code.BadBounds) _ wide_on) in
    let slope = unless-none _ _ (or-first (unless (not (is_below band.slope (present_slope f))) code.NotConvex) _ slope_on) in
    let banded_ok = λ (b : Band). is_amount_or_infinite b.width && is_amount b.slope in
    let rest = and_parts (has_amount_gain f.kind && is_amount f.lower && is_amount_or_infinite f.upper && is_amount f.cost) (list_all banded_ok f.bands) s.amounts in
    record {
      joins = s.joins;
      gain = s.gain;
      bounds = s.bounds;
      reached = reached-push f.upper f.bands band s.reached finite;
      convex = convex-push f.cost f.bands band s.convex (is_below_false band.slope (present_slope f) (not-true _ slope)) (wide band.width width);
      amounts = rw (rest.0, list_all-push banded_ok f.bands band rest.1 amounts) refl;
    }

-- ---- the tables

joins-more : (n m : ℕ) (kind : FlowKind) → n ≤ m → JoinsNodes n kind → JoinsNodes m kind
joins-more n m (Link from to gain) l (a, b, c) = (omega arith, omega arith, c)
joins-more n m (Hold node gain) l h = omega arith
joins-more n m (Drain node) l h = omega arith
joins-more n m (Feed node) l h = omega arith

sound-more : (n m : ℕ) (f : Flow) → n ≤ m → IsSound n f → IsSound m f
sound-more n m f l s = record { joins = joins-more n m f.kind l s.joins; gain = s.gain; bounds = s.bounds; reached = s.reached; convex = s.convex; amounts = s.amounts }

new-name : (names : List (List ℕ)) (name : List ℕ) → new_fault names name ≡ None → is_name name ≡ true
new-name names name h = unless-none (is_name name) code.BadName (or-first (unless (is_name name) code.BadName) _ h)

new-place : (names : List (List ℕ)) (name : List ℕ) → new_fault names name ≡ None → place_of names name ≡ None
new-place names name h = by (place_of names name) (not-true _ (unless-none _ _ (or-rest (unless (is_name name) code.BadName) _ h)))
  where
    by : (o : Option ℕ) → is_some o ≡ false → o ≡ None
    by None e = refl
    by (Some x) e = absurd (cc e)

names-push : (names : List (List ℕ)) (name : List ℕ) → AreNames names → new_fault names name ≡ None → AreNames (names ++ name ∷ [])
names-push names name h e = record {
  each = All-push (λ n. is_name n ≡ true) names name h.each (new-name names name e);
  distinct = distinct-push names name h.distinct (new-place names name e);
}

given-more : (n m periods : ℕ) (g : Given) → n ≤ m → IsGiven n periods g → IsGiven m periods g
given-more n m periods g l h = let node = h.node in record { node = omega arith; period = h.period; amount = h.amount }

period-right : (periods : ℕ) (bs : List ℕ) → period_fault periods bs ≡ None → IfSome (period_of bs) (λ p. (1 ≤ p) × (p ≤ periods))
period-right periods bs h = elim (cases_Bool (is_all bs)) [
  | inl t ↦ rw t tt
  | inr f ↦
      let all : is_period periods bs ≡ true = unless-none _ _ (rw f at h) in
      let high = and_parts (is_number 9 bs && nat_le 1 (number bs)) (nat_le (number bs) periods) all in
      let low = and_parts (is_number 9 bs) (nat_le 1 (number bs)) high.0 in
      rw f (let a = low.1 in grind (arith, nat_tests), let b = high.1 in grind (arith, nat_tests))
]

kept-node : (t : Tables) (r : List (List ℕ)) → AreKept t → node_fault t.periods t.nodes r ≡ None → AreKept (with_node t r)
kept-node t r k h =
    let rest = or-rest (fields_fault 2 r) _ h in
    let few : nat_le ((length t.nodes + 1) * t.periods) 20000 ≡ true = unless-none _ _ (or-first (nodes_fault t.periods (length t.nodes + 1)) None (or-rest (new_fault t.nodes (field_of r 1)) _ rest)) in
    let size = length_push t.nodes (field_of r 1) in
    record {
      nodes = names-push t.nodes (field_of r 1) k.nodes (or-first (new_fault t.nodes (field_of r 1)) _ rest);
      flow_names = k.flow_names;
      same_names = k.same_names;
      sound = All-weaker (IsSound (length t.nodes)) (IsSound (length (t.nodes ++ field_of r 1 ∷ []))) (λ f s. sound-more (length t.nodes) _ f (omega arith) s) t.flows k.sound;
      supplies = All-weaker (IsGiven (length t.nodes) t.periods) (IsGiven (length (t.nodes ++ field_of r 1 ∷ [])) t.periods)
          (λ g h. given-more (length t.nodes) _ t.periods g (omega arith) h) t.supplies k.supplies;
      few_nodes = rw size (grind (arith, nat_tests));
    }

kept-supply : (t : Tables) (r : List (List ℕ)) → AreKept t → supply_fault t.periods t.nodes r ≡ None → AreKept (with_supply t r)
kept-supply t r k h =
    let after_count = or-rest (fields_fault 4 r) _ h in
    let after_name = or-rest (used_fault t.nodes (field_of r 1)) _ after_count in
    let amount = or-first (amount_fault (field_of r 3)) None (or-rest (period_fault t.periods (field_of r 2)) _ after_name) in
    let given : IsGiven (length t.nodes) t.periods (supply_of t.nodes r) = record {
      node = place-within t.nodes (field_of r 1) (used-some t.nodes (field_of r 1) (or-first (used_fault t.nodes (field_of r 1)) _ after_count));
      period = period-right t.periods (field_of r 2) (or-first (period_fault t.periods (field_of r 2)) _ after_name);
      amount = amount-is (field_of r 3) amount;
    } in
    record {
      nodes = k.nodes;
      flow_names = k.flow_names;
      same_names = k.same_names;
      sound = k.sound;
      supplies = All-push (IsGiven (length t.nodes) t.periods) t.supplies (supply_of t.nodes r) k.supplies given;
      few_nodes = k.few_nodes;
    }

kept-flow : (t : Tables) (r : List (List ℕ)) → AreKept t → flow_fault t.periods t.nodes t.names t.arcs r ≡ None → AreKept (with_flow t r)
kept-flow t r k h =
    let head = head-right t.nodes t.names r (or-first (head_fault t.nodes t.names r) _ h) in
    let flow = plain_flow (field_of r 1) (kind_in t.nodes r) (numbers_of r (bounds_place r)) in
    record {
      nodes = k.nodes;
      flow_names = names-push t.names (field_of r 1) k.flow_names head.name;
      same_names = map-append (λ (f : Flow). f.name) t.flows (flow ∷ []) ∙ ap (λ (l : List (List ℕ)). l ++ field_of r 1 ∷ []) k.same_names;
      sound = All-push (IsSound (length t.nodes)) t.flows flow k.sound (flow-sound t.nodes t.names r head);
      supplies = k.supplies;
      few_nodes = k.few_nodes;
    }

names-set : (fs : List Flow) (k : ℕ) (band : Band) (f : Flow) → slice_get fs k ≡ Some f → map (λ (f : Flow). f.name) (set fs k (banded f band)) ≡ map (λ (f : Flow). f.name) fs
names-set [] k band f e = refl
names-set (g ∷ gs) zero band f e = let here : g ≡ f = cc e in rw here refl
names-set (g ∷ gs) (suc k) band f e = ap (λ (l : List (List ℕ)). g.name ∷ l) (names-set gs k band f e)

sound-at : (n : ℕ) (fs : List Flow) (k : ℕ) (f : Flow) → All (IsSound n) fs → slice_get fs k ≡ Some f → IsSound n f
sound-at n [] k f s e = absurd (cc e)
sound-at n (g ∷ gs) zero f s e = let here : g ≡ f = cc e in rw here at (All-head (IsSound n) g gs s)
sound-at n (g ∷ gs) (suc k) f s e = sound-at n gs k f (All-tail (IsSound n) g gs s) e

kept-band : (t : Tables) (k : ℕ) (band : Band) (o : Option Flow) → AreKept t → slice_get t.flows k ≡ o → (is_amount_or_infinite band.width && is_amount band.slope) ≡ true
    → option_and_then (band_fault t.periods t.arcs band) o ≡ None → AreKept (option_map_or (band_added t k band) o t)
kept-band t k band None h e a fault = h
kept-band t k band (Some f) h e a fault = record {
  nodes = h.nodes;
  flow_names = h.flow_names;
  same_names = names-set t.flows k band f e ∙ h.same_names;
  sound = All-set (IsSound (length t.nodes)) t.flows k (banded f band) (band-sound (length t.nodes) t.periods t.arcs band f (sound-at (length t.nodes) t.flows k f h.sound e) a fault) h.sound;
  supplies = h.supplies;
  few_nodes = h.few_nodes;
}

kept-piece : (t : Tables) (r : List (List ℕ)) → AreKept t → piece_fault t.periods t.names t.arcs t.flows r ≡ None → AreKept (with_piece t r)
kept-piece t r k h =
    let place = place_in t.names (field_of r 1) in
    let o = slice_get t.flows place in
    let after_name = or-rest (used_fault t.names (field_of r 1)) _ (or-rest (fields_fault 4 r) _ h) in
    let after_width = or-rest (upper_fault (field_of r 2)) _ after_name in
    let width = upper-is (field_of r 2) (or-first (upper_fault (field_of r 2)) _ after_name) in
    let slope = amount-is (field_of r 3) (or-first (amount_fault (field_of r 3)) _ after_width) in
    kept-band t place (band_of r) o k refl (rw (width, slope) refl)
    (or-first (option_and_then (band_fault t.periods t.arcs (band_of r)) o) None (or-rest (amount_fault (field_of r 3)) _ after_width))

no-names : AreNames []
no-names = record { each = All-nil (λ n. is_name n ≡ true); distinct = distinct-none }

pub kept-none : (periods : ℕ) → AreKept (no_tables periods)
kept-none periods = record {
  nodes = no-names;
  flow_names = no-names;
  same_names = refl;
  sound = All-nil (IsSound 0);
  supplies = All-nil (IsGiven 0 periods);
  few_nodes = omega arith;
}

pub kept-more : (t : Tables) (r : List (List ℕ)) → AreKept t → record_fault t.periods t.nodes t.names t.arcs t.flows r ≡ None → AreKept (with_record t r)
kept-more t r k e = elim (cases_Bool (is_kind r (codes "node"))) [
  | inl y ↦ rw y (kept-node t r k (rw y at e))
  | inr a ↦ elim (cases_Bool (is_kind r (codes "supply"))) [
    | inl y ↦ rw (a, y) (kept-supply t r k (rw (a, y) at e))
    | inr b ↦ elim (cases_Bool (is_flow r)) [
      | inl y ↦ rw (a, b, y) (kept-flow t r k (rw (a, b, y) at e))
      | inr c ↦ elim (cases_Bool (is_kind r (codes "piece"))) [
        | inl y ↦ rw (a, b, c) (kept-piece t r k (rw (a, b, c, y) at e))
        | inr d ↦ absurd (cc (rw (a, b, c, d) at e))
      ]
    ]
  ]
]
