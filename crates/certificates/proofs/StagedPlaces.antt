-- The places of the amounts of staged arcs rise, and lie in periods of their flows.
use Rattle.std.specs.Prelude.{◌≡◌, ℕ, zero, suc, ◌+◌, ◌-◌, ◌*◌, ◌==◌, ◌<◌, ◌≤◌, ◌&&◌, false, Some, unwrap_or, List, [], ◌∷◌, ◌++◌, length, map, slice_get}
use Rattle.std.specs.List.{All, filter_map, flat_map, enumerate_from, range_with_len}
use Rattle.std.proofs.Common.{refl, inl, inr, arith, append_assoc}
use Rattle.std.proofs.lemmas.Bool.{cases_Bool, eqb-false}
use Rattle.std.proofs.lemmas.List.{length-append, map-append}
use Rattle.std.proofs.lemmas.List.Elements.{All-nil, All-cons, All-append}
use Rattle.np_model.specs.declared.scheme.FlowKind.{FlowKind}
use Rattle.np_model.specs.declared.scheme.FlowKind.TheVariants.{Link, Hold, Drain, Feed}
use Rattle.np_model.specs.declared.scheme.Flow.{Flow}
use Rattle.np_model.specs.declared.scheme.Scheme.{Scheme}
use Rattle.np_model.specs.Scheme.Segments.{Stage}
use Rattle.np_model.specs.Scheme.Kinds.{is_hold, periods_of}
use Rattle.np_model.specs.Scheme.Plans.{stage_in, stage_of, staged}
use Rattle.certificates.specs.Claims.{place_with, outline_of}
use Rattle.certificates.proofs.Rising.{Rises, rises-from, rises-append}

-- of so many flows
abbrev pub stage_place : ℕ → Stage → ℕ
stage_place count arc = place_with count arc.period arc.flow

-- ---- the places rise

rises-flows : (periods k period count number : ℕ) (flows : List Flow) → number + length flows ≡ count
    → Rises ((period - 1) * count + number) ((period - 1) * count + count) (map (stage_place count) (filter_map (stage_of periods k period) (enumerate_from number flows)))
rises-flows periods k period count number [] e = omega arith
rises-flows periods k period count number (flow ∷ flows) e =
    let rest = rises-flows periods k period count (number + 1) flows (omega arith) in
    elim (cases_Bool (is_hold flow.kind && (period == periods))) [
      | inl t ↦ rw t (rises-from _ ((period - 1) * count + (number + 1)) _ _ (omega arith) rest)
      | inr f ↦
          let next : (period - 1) * count + (number + 1) ≡ (period - 1) * count + number + 1 = omega arith in
          rw f (omega arith, rw next at rest)
    ]

rises-periods : (periods k count before : ℕ) (flows : List Flow) (n : ℕ) → length flows ≡ count
    → Rises (before * count) ((before + n) * count) (map (stage_place count) (flat_map (λ period. filter_map (stage_of periods k period) (enumerate_from 0 flows)) (range_with_len (before + 1) n)))
rises-periods periods k count before flows zero e = omega arith
rises-periods periods k count before flows (suc n) e =
    let piece = λ (period : ℕ). filter_map (stage_of periods k period) (enumerate_from 0 flows) in
    let same : before + 1 - 1 ≡ before = omega arith in
    let start : before * count + 0 ≡ before * count = omega arith in
    let end : before * count + count ≡ (before + 1) * count = omega arith in
    let all : (before + 1 + n) * count ≡ (before + suc n) * count = omega arith in
    let here = rw (same, start, end) at (rises-flows periods k (before + 1) count 0 flows (omega arith)) in
    let rest = rw all at (rises-periods periods k count (before + 1) flows n e) in
    rw (map-append (stage_place count) (piece (before + 1)) (flat_map piece (range_with_len (before + 1 + 1) n)))
    (rises-append (before * count) ((before + 1) * count) ((before + suc n) * count) _ _ here rest)

pub rises-staged : (scheme : Scheme) → Rises 0 (scheme.periods * length scheme.flows) (map (stage_place (length scheme.flows)) (staged scheme))
rises-staged scheme =
    let none : 0 * length scheme.flows ≡ 0 = omega arith in
    let all : (0 + scheme.periods) * length scheme.flows ≡ scheme.periods * length scheme.flows = omega arith in
    let one : 0 + 1 ≡ 1 = omega arith in
    rw (none, all, one) at (rises-periods scheme.periods (length scheme.nodes) (length scheme.flows) 0 scheme.flows scheme.periods refl)

-- ---- each arc is that of a flow, in one of its periods

pub record IsArcOf (count periods : ℕ) (last : List ℕ) (arc : Stage) : Type 0 where
  pub flow : arc.flow < count
  pub low : 1 ≤ arc.period
  pub within : arc.period ≤ periods
  pub high : arc.period ≤ unwrap_or (slice_get last arc.flow) 0

-- the last period of a flow
abbrev last_of : ℕ → Flow → ℕ
last_of periods flow = periods_of periods flow.kind

last-at : (periods number : ℕ) (before after : List Flow) (flow : Flow) → number ≡ length before → slice_get (map (last_of periods) (before ++ flow ∷ after)) number ≡ Some (last_of periods flow)
last-at periods zero [] after flow e = refl
last-at periods (suc n) [] after flow e = absurd (omega arith)
last-at periods zero (b ∷ before) after flow e = absurd (omega arith)
last-at periods (suc n) (b ∷ before) after flow e = last-at periods n before after flow (omega arith)

in-periods : (periods period : ℕ) (kind : FlowKind) → period ≤ periods → (is_hold kind && (period == periods)) ≡ false → period ≤ periods_of periods kind
in-periods periods period (Link from to gain) high kept = high
in-periods periods period (Hold node gain) high kept = let differ = eqb-false period periods kept in omega arith
in-periods periods period (Drain node) high kept = high
in-periods periods period (Feed node) high kept = high

arcs-flows : (periods k period count number : ℕ) (before flows : List Flow) → number ≡ length before → number + length flows ≡ count → 1 ≤ period → period ≤ periods
    → All (IsArcOf count periods (map (last_of periods) (before ++ flows))) (filter_map (stage_of periods k period) (enumerate_from number flows))
arcs-flows periods k period count number before [] e size low high = All-nil (IsArcOf count periods (map (last_of periods) (before ++ [])))
arcs-flows periods k period count number before (flow ∷ flows) e size low high =
    let longer = length-append before (flow ∷ []) in
    let rest =
    rw (append_assoc before (flow ∷ []) flows)
    at (arcs-flows periods k period count (number + 1) (before ++ flow ∷ []) flows (omega arith) (omega arith) low high) in
    elim (cases_Bool (is_hold flow.kind && (period == periods))) [
      | inl t ↦ rw t rest
      | inr f ↦
          let last = last-at periods number before flows flow e in
          let here : IsArcOf count periods (map (last_of periods) (before ++ flow ∷ flows)) (stage_in k period (number, flow)) =
          record { flow = omega arith; low = low; within = high; high = rw last (in-periods periods period flow.kind high f) } in
          rw f (All-cons (IsArcOf count periods (map (last_of periods) (before ++ flow ∷ flows))) (stage_in k period (number, flow)) _ here rest)
    ]

pieces-all : {Y : Type 0} (P : Y → Type 0) (f : ℕ → List Y) (a n : ℕ) → ((p : ℕ) → a ≤ p → p < a + n → All P (f p)) → All P (flat_map f (range_with_len a n))
pieces-all P f a zero h = All-nil P
pieces-all P f a (suc n) h =
    All-append P (f a) (flat_map f (range_with_len (a + 1) n)) (h a (omega arith) (omega arith))
    (pieces-all P f (a + 1) n (λ p low high. h p (omega arith) (omega arith)))

pub arcs-staged : (scheme : Scheme) → All (IsArcOf (length scheme.flows) scheme.periods (outline_of scheme).last) (staged scheme)
arcs-staged scheme =
    pieces-all (IsArcOf (length scheme.flows) scheme.periods (outline_of scheme).last)
    (λ period. filter_map (stage_of scheme.periods (length scheme.nodes) period) (enumerate_from 0 scheme.flows)) 1 scheme.periods
    (λ period low high. arcs-flows scheme.periods (length scheme.nodes) period (length scheme.flows) 0 [] scheme.flows refl (omega arith) low (omega arith))
