-- The staged arcs of a scheme are sound, and their segments few.
use Rattle.std.specs.Prelude.{◌≡◌, ◌≢◌, ℕ, zero, suc, ◌+◌, ◌-◌, ◌*◌, ◌==◌, ◌<◌, ◌≤◌, ◌&&◌, not, Bool, true, false, List, [], ◌∷◌, length, if◌then◌else◌, sum_by}
use Rattle.std.specs.List.{All, AllByRecursion, filter, filter_map, flat_map, enumerate_from, range_with_len}
use Rattle.std.proofs.Common.{refl, arith, ap, inl, inr, eq-eqb}
use Rattle.std.proofs.Math.Nat.{mul-le-mul_left}
use Rattle.std.proofs.lemmas.Bool.{cases_Bool, ne_eqb, eqb-false}
use Rattle.std.proofs.lemmas.List.Elements.{All-append, All-cons, All-nil, recursion_from_All}
use Rattle.std.proofs.lemmas.List.Sums.{sum_by-append, sum_by-cons}
use Rattle.np_model.specs.declared.scheme.FlowKind.{FlowKind}
use Rattle.np_model.specs.declared.scheme.FlowKind.TheVariants.{Link, Hold, Drain, Feed}
use Rattle.np_model.specs.declared.scheme.Flow.{Flow}
use Rattle.np_model.specs.declared.scheme.Scheme.{Scheme}
use Rattle.np_model.specs.Scheme.Segments.{Stage}
use Rattle.np_model.specs.Network.Arcs.{AreNodes, IsGaining}
use Rattle.np_model.specs.Scheme.Valid.{IsSound, expanded_arcs}
use Rattle.np_model.specs.Scheme.Kinds.{JoinsNodes, HasGain, periods_of, node_in, ends_in, is_hold}
use Rattle.np_model.specs.Scheme.Plans.{stage_in, stage_of, staged}
use Rattle.period_expand.specs.Expansion.{IsSoundStage, IsExpansion, segment_count}
use Rattle.period_expand.proofs.Standing.{last_apart, piece}

-- ---- the ends in a period

node_below : (k periods period i : ℕ) → i < k → 1 ≤ period → period ≤ periods → node_in k period i < periods * k
node_below k periods zero i h low high = absurd (omega arith)
node_below k periods (suc q) i h low high =
    let e : suc q - 1 ≡ q = omega arith in
    let m : k * suc q ≤ k * periods = mul-le-mul_left k high in
    rw e (omega (arith, m))

node_apart : (k period i : ℕ) → 1 ≤ period → i < k → node_in k period i ≢ node_in k (period + 1) i
node_apart k zero i low h e = absurd (omega arith)
node_apart k (suc q) i low h e =
    let a : suc q - 1 ≡ q = omega arith in
    let b : suc q + 1 - 1 ≡ suc q = omega arith in
    let same : q * k + i ≡ suc q * k + i = rw (a, b) at e in
    absurd (omega (arith, same))

ends_sound : (k periods period : ℕ) (kind : FlowKind) → JoinsNodes k kind → 1 ≤ period → period ≤ periods → (is_hold kind && (period == periods)) ≡ false →
    AreNodes (periods * k) (ends_in k period kind)
ends_sound k periods period (Link from to gain) h low high kept =
    (node_below k periods period from h.0 low high, node_below k periods period to h.1 low high, λ e. h.2 (omega arith))
ends_sound k periods period (Hold node gain) h low high kept =
    let last : period ≢ periods = eqb-false period periods kept in
    let next : period + 1 ≤ periods = omega arith in
    (node_below k periods period node h low high, node_below k periods (period + 1) node h (omega arith) next, node_apart k period node low h)
ends_sound k periods period (Drain node) h low high kept = node_below k periods period node h low high
ends_sound k periods period (Feed node) h low high kept = node_below k periods period node h low high

gain_sound : (k period : ℕ) (kind : FlowKind) → HasGain kind → IsGaining (ends_in k period kind)
gain_sound k period (Link from to gain) h = h
gain_sound k period (Hold node gain) h = h
gain_sound k period (Drain node) h = h
gain_sound k period (Feed node) h = h

-- ---- each stage is sound

flow_sound : (k periods period number : ℕ) (flow : Flow) → IsSound k flow → 1 ≤ period → period ≤ periods → (is_hold flow.kind && (period == periods)) ≡ false →
    IsSoundStage (periods * k) (stage_in k period (number, flow))
flow_sound k periods period number flow h low high kept = record {
  joins = ends_sound k periods period flow.kind h.joins low high kept;
  gain = gain_sound k period flow.kind h.gain;
  convex = (h.bounds, h.convex);
  reached = h.reached;
}

stages_sound : (k periods period n : ℕ) (flows : List Flow) → AllByRecursion (IsSound k) flows → 1 ≤ period → period ≤ periods →
    All (IsSoundStage (periods * k)) (filter_map (stage_of periods k period) (enumerate_from n flows))
stages_sound k periods period n [] h low high = All-nil (IsSoundStage (periods * k))
stages_sound k periods period n (flow ∷ flows) h low high =
    let rest = stages_sound k periods period (n + 1) flows h.1 low high in
    elim (cases_Bool (is_hold flow.kind && (period == periods))) [
      | inl t ↦ rw t rest
      | inr f ↦ rw f (All-cons (IsSoundStage (periods * k)) _ _ (flow_sound k periods period n flow h.0 low high f) rest)
    ]

pieces_sound : {Y : Type 0} (P : Y → Type 0) (f : ℕ → List Y) (a n : ℕ) → ((p : ℕ) → a ≤ p → p < a + n → All P (f p)) → All P (flat_map f (range_with_len a n))
pieces_sound P f a zero h = All-nil P
pieces_sound P f a (suc n) h =
    All-append P (f a) _ (h a (omega arith) (omega arith)) (pieces_sound P f (a + 1) n (λ p low high. h p (omega arith) (omega arith)))

staged_sound : (scheme : Scheme) → All (IsSoundStage (scheme.periods * length scheme.nodes)) (staged scheme)
staged_sound scheme =
    pieces_sound (IsSoundStage (scheme.periods * length scheme.nodes)) (piece scheme) 1 scheme.periods
    (λ p low high. stages_sound (length scheme.nodes) scheme.periods p 0 scheme.flows (recursion_from_All _ scheme.flows scheme.valid.sound) low (omega arith))

-- ---- their segments are few

abbrev flow_segments : Flow → ℕ
flow_segments flow = 1 + length flow.bands

abbrev kept_segments : Bool → List Flow → ℕ
kept_segments last flows = if last then sum_by flow_segments (filter (λ flow. not (is_hold flow.kind)) flows) else sum_by flow_segments flows

segments_more : (stage : Stage) (stages : List Stage) (flow : Flow) (flows : List Flow) → segment_count stage ≡ flow_segments flow →
    sum_by segment_count stages ≡ sum_by flow_segments flows → sum_by segment_count (stage ∷ stages) ≡ sum_by flow_segments (flow ∷ flows)
segments_more stage stages flow flows e rest =
    omega (arith, sum_by-cons segment_count stage stages, sum_by-cons flow_segments flow flows, e, rest)

segments_sum : (periods k period n : ℕ) (flows : List Flow) (last : Bool) → (period == periods) ≡ last →
    sum_by segment_count (filter_map (stage_of periods k period) (enumerate_from n flows)) ≡ kept_segments last flows
segments_sum periods k period n [] true e = refl
segments_sum periods k period n [] false e = refl
segments_sum periods k period n (flow ∷ flows) true e =
    let rest = segments_sum periods k period (n + 1) flows true e in
    let later = filter_map (stage_of periods k period) (enumerate_from (n + 1) flows) in
    elim (cases_Bool (is_hold flow.kind)) [
      | inl t ↦ rw (e, t) rest
      | inr f ↦ rw (e, f) (segments_more (stage_in k period (n, flow)) later flow (filter (λ flow. not (is_hold flow.kind)) flows) refl rest)
    ]
segments_sum periods k period n (flow ∷ flows) false e =
    let rest = segments_sum periods k period (n + 1) flows false e in
    let later = filter_map (stage_of periods k period) (enumerate_from (n + 1) flows) in
    elim (cases_Bool (is_hold flow.kind)) [
      | inl t ↦ rw (e, t) (segments_more (stage_in k period (n, flow)) later flow flows refl rest)
      | inr f ↦ rw (e, f) (segments_more (stage_in k period (n, flow)) later flow flows refl rest)
    ]

pieces_sum : {Y : Type 0} (w : Y → ℕ) (f : ℕ → List Y) (m a n : ℕ) → ((p : ℕ) → a ≤ p → p < a + n → sum_by w (f p) ≡ m) → sum_by w (flat_map f (range_with_len a n)) ≡ n * m
pieces_sum w f m a zero h = omega arith
pieces_sum w f m a (suc n) h =
    let one = h a (omega arith) (omega arith) in
    let rest = pieces_sum w f m (a + 1) n (λ p low high. h p (omega arith) (omega arith)) in
    omega (arith, sum_by-append w (f a) (flat_map f (range_with_len (a + 1) n)), one, rest)

hold_periods : (t : ℕ) (kind : FlowKind) → is_hold kind ≡ true → periods_of (suc t) kind ≡ t
hold_periods t (Link from to gain) h = absurd (cc h)
hold_periods t (Hold node gain) h = omega arith
hold_periods t (Drain node) h = absurd (cc h)
hold_periods t (Feed node) h = absurd (cc h)

other_periods : (t : ℕ) (kind : FlowKind) → is_hold kind ≡ false → periods_of (suc t) kind ≡ suc t
other_periods t (Link from to gain) h = refl
other_periods t (Hold node gain) h = absurd (cc h)
other_periods t (Drain node) h = refl
other_periods t (Feed node) h = refl

by_flow : (t : ℕ) (flows : List Flow) →
    t * sum_by flow_segments flows + sum_by flow_segments (filter (λ flow. not (is_hold flow.kind)) flows) ≡ expanded_arcs (suc t) flows
by_flow t [] = omega arith
by_flow t (flow ∷ flows) =
    let rest = by_flow t flows in
    let all = ap (λ (n : ℕ). t * n) (sum_by-cons flow_segments flow flows) in
    let each = sum_by-cons (λ flow. flow_segments flow * periods_of (suc t) flow.kind) flow flows in
    elim (cases_Bool (is_hold flow.kind)) [
      | inl h ↦ rw h (omega (arith, rest, all, each, ap (λ (n : ℕ). flow_segments flow * n) (hold_periods t flow.kind h)))
      | inr f ↦ rw f (omega (arith, rest, all, each, sum_by-cons flow_segments flow (filter (λ flow. not (is_hold flow.kind)) flows), ap (λ (n : ℕ). flow_segments flow * n) (other_periods t flow.kind f)))
    ]

staged_few : (scheme : Scheme) → sum_by segment_count (staged scheme) ≡ expanded_arcs scheme.periods scheme.flows
staged_few scheme =
    let t = scheme.periods - 1 in
    let some = scheme.valid.some_period in
    let again : suc t ≡ scheme.periods = omega arith in
    let before = flat_map (piece scheme) (range_with_len 1 t) in
    let earlier =
    pieces_sum segment_count (piece scheme) (sum_by flow_segments scheme.flows) 1 t
    (λ p low high. segments_sum scheme.periods (length scheme.nodes) p 0 scheme.flows false (ne_eqb p scheme.periods (λ e. absurd (omega arith)))) in
    let last = segments_sum scheme.periods (length scheme.nodes) scheme.periods 0 scheme.flows true (eq-eqb scheme.periods scheme.periods refl) in
    omega (arith, ap (sum_by segment_count) (last_apart scheme), sum_by-append segment_count before (piece scheme scheme.periods), earlier, last, by_flow t scheme.flows, ap (λ (n : ℕ). expanded_arcs n scheme.flows) again)

pub is_expansion : (scheme : Scheme) → IsExpansion scheme.supply (staged scheme)
is_expansion scheme =
    let size = scheme.valid.one_each in
    record {
      few_nodes = omega (arith, scheme.valid.few_nodes);
      few_segments = rw (staged_few scheme) scheme.valid.few_arcs;
      sound = rw size (staged_sound scheme);
    }
