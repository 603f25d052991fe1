-- How many staged arcs a scheme has: those of each flow over the periods.
use Rattle.std.specs.Prelude.{◌≡◌, ℕ, zero, suc, ◌+◌, ◌-◌, ◌==◌, ◌&&◌, Bool, true, false, if◌then◌else◌, List, [], ◌∷◌, length, sum_by}
use Rattle.std.specs.List.{filter_map, enumerate_from, range_with_len}
use Rattle.std.proofs.Common.{refl, sym, ap, ◌∙◌, arith, ne_eqb, eq-eqb}
use Rattle.std.proofs.lemmas.List.Sums.{sum_by-cons}
use Rattle.std.proofs.lemmas.List.Concat.{length-flat_map}
use Rattle.np_model.specs.declared.scheme.FlowKind.{FlowKind}
use Rattle.np_model.specs.declared.scheme.FlowKind.TheVariants.{Link, Hold, Drain, Feed}
use Rattle.np_model.specs.declared.scheme.Flow.{Flow}
use Rattle.np_model.specs.declared.scheme.Scheme.{Scheme}
use Rattle.np_model.specs.Scheme.Kinds.{is_hold, periods_of}
use Rattle.np_model.specs.Scheme.Plans.{stage_of, staged}

-- whether a flow has an arc in a period, as a number
abbrev one_in : ℕ → FlowKind → ℕ → ℕ
one_in periods kind period = if is_hold kind && (period == periods) then 0 else 1

sum_by-+ : (f g : ℕ → ℕ) (xs : List ℕ) → sum_by (λ x. f x + g x) xs ≡ sum_by f xs + sum_by g xs
sum_by-+ f g [] = refl
sum_by-+ f g (x ∷ xs) = omega (arith, sum_by-cons (λ y. f y + g y) x xs, sum_by-cons f x xs, sum_by-cons g x xs, sum_by-+ f g xs)

sum_by-each : (f g : ℕ → ℕ) (xs : List ℕ) → ((x : ℕ) → f x ≡ g x) → sum_by f xs ≡ sum_by g xs
sum_by-each f g [] h = refl
sum_by-each f g (x ∷ xs) h = omega (arith, sum_by-cons f x xs, sum_by-cons g x xs, h x, sum_by-each f g xs h)

count_step : (periods k period n : ℕ) (flow : Flow) (flows : List Flow) (b : Bool) → (is_hold flow.kind && (period == periods)) ≡ b
    → length (filter_map (stage_of periods k period) (enumerate_from n (flow ∷ flows))) ≡ one_in periods flow.kind period + length (filter_map (stage_of periods k period) (enumerate_from (n + 1) flows))
count_step periods k period n flow flows true e = rw e (omega arith)
count_step periods k period n flow flows false e = rw e (omega arith)

-- the arcs in one period
in_period : (periods k period n : ℕ) (flows : List Flow) → length (filter_map (stage_of periods k period) (enumerate_from n flows)) ≡ sum_by (λ flow. one_in periods flow.kind period) flows
in_period periods k period n [] = refl
in_period periods k period n (flow ∷ flows) =
    count_step periods k period n flow flows (is_hold flow.kind && (period == periods)) refl
    ∙ ap (λ (m : ℕ). one_in periods flow.kind period + m) (in_period periods k period (n + 1) flows)
    ∙ sym (sum_by-cons (λ (f : Flow). one_in periods f.kind period) flow flows)

abbrev counted : ℕ → ℕ → ℕ
counted periods period = if period == periods then 0 else 1

-- a hold over the periods from a on
held : (periods : ℕ) (n a : ℕ) → a + n ≡ suc periods → sum_by (counted periods) (range_with_len a n) ≡ n - 1
held periods zero a e = refl
held periods (suc zero) a e =
    let here : (a == periods) ≡ true = eq-eqb a periods (omega arith) in
    rw here refl
held periods (suc (suc n)) a e =
    let here : (a == periods) ≡ false = ne_eqb a periods (λ h. absurd (omega arith)) in
    let one : counted periods a ≡ 1 = rw here refl in
    sum_by-cons (counted periods) a (range_with_len (a + 1) (suc n)) ∙ omega (arith, one, held periods (suc n) (a + 1) (omega arith))

ones : (n a : ℕ) → sum_by (λ period. 1) (range_with_len a n) ≡ n
ones zero a = refl
ones (suc n) a = omega (arith, sum_by-cons (λ (period : ℕ). 1) a (range_with_len (a + 1) n), ones n (a + 1))

of_kind : (periods : ℕ) (kind : FlowKind) → sum_by (one_in periods kind) (range_with_len 1 periods) ≡ periods_of periods kind
of_kind periods (Link from to gain) = ones periods 1
of_kind periods (Hold node gain) = held periods periods 1 (omega arith)
of_kind periods (Drain node) = ones periods 1
of_kind periods (Feed node) = ones periods 1

over_flows : (periods : ℕ) (flows : List Flow) → sum_by (λ period. sum_by (λ flow. one_in periods flow.kind period) flows) (range_with_len 1 periods) ≡ sum_by (λ flow. periods_of periods flow.kind) flows
over_flows periods [] = nothing 1 periods
  where
    nothing : (a n : ℕ) → sum_by (λ period. 0) (range_with_len a n) ≡ 0
    nothing a zero = refl
    nothing a (suc n) = omega (arith, sum_by-cons (λ (period : ℕ). 0) a (range_with_len (a + 1) n), nothing (a + 1) n)
over_flows periods (flow ∷ flows) =
    sum_by-each (λ period. sum_by (λ f. one_in periods f.kind period) (flow ∷ flows)) (λ period. one_in periods flow.kind period + sum_by (λ f. one_in periods f.kind period) flows) (range_with_len 1 periods)
    (λ period. sum_by-cons (λ (f : Flow). one_in periods f.kind period) flow flows)
    ∙ sum_by-+ (one_in periods flow.kind) (λ period. sum_by (λ f. one_in periods f.kind period) flows) (range_with_len 1 periods)
    ∙ omega (arith, of_kind periods flow.kind, over_flows periods flows, sum_by-cons (λ (f : Flow). periods_of periods f.kind) flow flows)

pub length-staged : (scheme : Scheme) → length (staged scheme) ≡ sum_by (λ flow. periods_of scheme.periods flow.kind) scheme.flows
length-staged scheme =
    length-flat_map (λ period. filter_map (stage_of scheme.periods (length scheme.nodes) period) (enumerate_from 0 scheme.flows)) (range_with_len 1 scheme.periods)
    ∙ sum_by-each (λ period. length (filter_map (stage_of scheme.periods (length scheme.nodes) period) (enumerate_from 0 scheme.flows))) (λ period. sum_by (λ flow. one_in scheme.periods flow.kind period) scheme.flows)
    (range_with_len 1 scheme.periods) (λ period. in_period scheme.periods (length scheme.nodes) period 0 scheme.flows)
    ∙ over_flows scheme.periods scheme.flows
