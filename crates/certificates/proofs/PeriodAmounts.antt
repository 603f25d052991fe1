-- The amounts of the staged arcs, period by period.
use Rattle.std.specs.Prelude.{◌≡◌, ℕ, zero, suc, ◌+◌, ◌-◌, ◌≤◌, ◌==◌, ◌&&◌, nat_lt, Bool, true, false, Option, Some, None, option_map, List, [], ◌∷◌, length, map, if◌then◌else◌}
use Rattle.std.specs.List.{filter_map, flat_map, enumerate_from, range_with_len, cons_option}
use Rattle.std.proofs.Common.{refl, sym, ap, ◌∙◌, arith}
use Rattle.std.proofs.lemmas.Bool.Decides.{nat_tests}
use Rattle.std.proofs.lemmas.List.{map-append}
use Rattle.np_frac.specs.Ratio.{Ratio}
use Rattle.np_model.specs.declared.scheme.Flow.{Flow}
use Rattle.np_model.specs.declared.scheme.FlowKind.{FlowKind}
use Rattle.np_model.specs.declared.scheme.FlowKind.TheVariants.{Link, Hold, Drain, Feed}
use Rattle.np_model.specs.declared.scheme.Scheme.{Scheme}
use Rattle.np_model.specs.Scheme.Kinds.{periods_of, is_hold}
use Rattle.np_model.specs.Scheme.Segments.{Stage}
use Rattle.np_model.specs.Scheme.Plans.{stage_in, stage_of}
use Rattle.certificates.specs.Claims.{place_with}
use Rattle.certificates.specs.Grammar.{amount_at, staged_amounts}
use Rattle.certificates.specs.Steps.Amounts.{amount_in, period_amounts}

-- a flow has an arc in a period up to its last one
left-out : (periods period : ℕ) (kind : FlowKind) → 1 ≤ period → period ≤ periods → (is_hold kind && (period == periods)) ≡ nat_lt (periods_of periods kind) period
left-out periods period (Link from to gain) low high = let e : nat_lt periods period ≡ false = grind (arith, nat_tests) in rw e refl
left-out periods period (Hold node gain) low high = by_cases
  where
    by_cases : (period == periods) ≡ nat_lt (periods - 1) period
    by_cases = grind (arith, nat_tests)
left-out periods period (Drain node) low high = let e : nat_lt periods period ≡ false = grind (arith, nat_tests) in rw e refl
left-out periods period (Feed node) low high = let e : nat_lt periods period ≡ false = grind (arith, nat_tests) in rw e refl

abbrev arc_amount : Scheme → List (Option Ratio) → Stage → Ratio
arc_amount scheme given arc = amount_at given (place_with (length scheme.flows) arc.period arc.flow)

of-stage : (scheme : Scheme) (given : List (Option Ratio)) (period number : ℕ) (flow : Flow) → 1 ≤ period → period ≤ scheme.periods
    → option_map (arc_amount scheme given) (stage_of scheme.periods (length scheme.nodes) period (number, flow)) ≡ amount_in given scheme period number flow.kind
of-stage scheme given period number flow low high = rw (left-out scheme.periods period flow.kind low high) (by (nat_lt (periods_of scheme.periods flow.kind) period))
  where
    by : (b : Bool) → option_map (arc_amount scheme given) (if b then None else Some (stage_in (length scheme.nodes) period (number, flow))) ≡ (if b then None else Some (amount_at given (place_with (length scheme.flows) period number)))
    by true = refl
    by false = refl

cons-map : {X Y : Type 0} (f : X → Y) (o : Option X) (xs : List X) → map f (cons_option o xs) ≡ cons_option (option_map f o) (map f xs)
cons-map f None xs = refl
cons-map f (Some x) xs = refl

in-period : (scheme : Scheme) (given : List (Option Ratio)) (period : ℕ) → 1 ≤ period → period ≤ scheme.periods → (from : ℕ) (flows : List Flow)
    → map (arc_amount scheme given) (filter_map (stage_of scheme.periods (length scheme.nodes) period) (enumerate_from from flows))
    ≡ filter_map (λ (number, flow). amount_in given scheme period number flow.kind) (enumerate_from from flows)
in-period scheme given period low high from [] = refl
in-period scheme given period low high from (flow ∷ flows) =
    let stage = stage_of scheme.periods (length scheme.nodes) period in
    cons-map (arc_amount scheme given) (stage (from, flow)) (filter_map stage (enumerate_from (from + 1) flows))
    ∙ rw (of-stage scheme given period from flow low high, in-period scheme given period low high (from + 1) flows) refl

in-periods : (scheme : Scheme) (given : List (Option Ratio)) (from n : ℕ) → 1 ≤ from → from + n ≤ scheme.periods + 1
    → map (arc_amount scheme given) (flat_map (λ period. filter_map (stage_of scheme.periods (length scheme.nodes) period) (enumerate_from 0 scheme.flows)) (range_with_len from n))
    ≡ flat_map (period_amounts given scheme) (range_with_len from n)
in-periods scheme given from zero low high = refl
in-periods scheme given from (suc n) low high =
    let here = in-period scheme given from low (omega arith) 0 scheme.flows in
    let rest = in-periods scheme given (from + 1) n (omega arith) (omega arith) in
    map-append (arc_amount scheme given) (filter_map (stage_of scheme.periods (length scheme.nodes) from) (enumerate_from 0 scheme.flows)) _ ∙ rw (here, rest) refl

pub staged-by-period : (scheme : Scheme) (given : List (Option Ratio)) (n : ℕ) (items : List Ratio) → n ≡ scheme.periods
    → items ≡ flat_map (period_amounts given scheme) (range_with_len 1 n) → items ≡ staged_amounts scheme given
staged-by-period scheme given n items all e =
    e ∙ ap (λ (k : ℕ). flat_map (period_amounts given scheme) (range_with_len 1 k)) all ∙ sym (in-periods scheme given 1 scheme.periods (omega arith) (omega arith))
