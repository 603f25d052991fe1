-- The records of a plan's claims and of its log are taken, and add what they tell.
use Rattle.std.specs.Prelude.{◌≡◌, ℕ, ◌+◌, ◌≤◌, nat_le, ◌==◌, true, Option, Some, None, option_map, IfSome, List, [], ◌∷◌, ◌++◌, length, map, codes, decimal}
use Rattle.std.specs.List.{AllByRecursion, enumerate_from}
use Rattle.std.specs.Option.{option_to_list}
use Rattle.std.proofs.Common.{refl, sym, arith, append_assoc}
use Rattle.std.proofs.lemmas.Bool.{eq-eqb}
use Rattle.std.proofs.lemmas.Bool.Decides.{nat_tests}
use Rattle.std.proofs.lemmas.List.{append-nil, length-append}
use Rattle.std.proofs.lemmas.List.Elements.{recursion_from_All}
use Rattle.np_frac.specs.Ratio.{Ratio}
use Rattle.np_frac.specs.Fits.{Fits}
use Rattle.np_model.specs.declared.rows.Overflow.{Overflow}
use Rattle.np_model.specs.declared.log.Entry.{Entry}
use Rattle.np_model.specs.declared.log.Log.{Log}
use Rattle.np_model.specs.Scheme.Fits.{IsShortNumber, LogFits}
use Rattle.certificates.specs.Claims.{Outline, Claims}
use Rattle.certificates.specs.Faults.{is_next}
use Rattle.certificates.specs.Writing.{amount_row, number_row, past_row, pivot_row, log_rows}
use Rattle.certificates.proofs.PlanFacts.{HasPlace, HasNumbers, IsAtBound}
use Rattle.certificates.proofs.WrittenWords.{fraction-back, whole-back, number-back, is_number-decimal, overflow-back, entry-back}
use Rattle.certificates.proofs.Runs.{IsStep, Runs, runs-step, runs-append}

-- ---- the claims of a verdict

pub runs-cost : (o : Outline) (t : Claims) (amount : Option Ratio) → IfSome amount Fits → t.cost ≡ None
    → Runs o t (option_to_list (option_map (amount_row (codes "cost")) amount)) (record t { cost = amount })
runs-cost o t None fit free = rw (sym free) refl
runs-cost o t (Some amount) fit free =
    let back = fraction-back amount fit in
    (record { goes = refl; right = rw (back, free) refl }, rw back refl)

pub runs-gap : (o : Outline) (t : Claims) (amount : Option Ratio) → IfSome amount Fits → t.gap ≡ None
    → Runs o t (option_to_list (option_map (amount_row (codes "gap")) amount)) (record t { gap = amount })
runs-gap o t None fit free = rw (sym free) refl
runs-gap o t (Some amount) fit free =
    let back = fraction-back amount fit in
    (record { goes = refl; right = rw (back, free) refl }, rw back refl)

pub runs-arc : (o : Outline) (t : Claims) (arc : Option ℕ) → IfSome arc IsShortNumber → t.arc ≡ None
    → Runs o t (option_to_list (option_map (number_row (codes "arc")) arc)) (record t { arc = arc })
runs-arc o t None fit free = rw (sym free) refl
runs-arc o t (Some arc) fit free =
    let back = whole-back arc fit in
    (record { goes = refl; right = rw (back, free) refl }, rw back refl)

pub runs-overflow : (o : Outline) (t : Claims) (overflow : Option Overflow) → IfSome overflow HasPlace → IfSome overflow (λ p. Fits p.past.left × Fits p.past.right) → t.overflow ≡ None
    → Runs o t (option_to_list (option_map past_row overflow)) (record t { overflow = overflow })
runs-overflow o t None place operands free = rw (sym free) refl
runs-overflow o t (Some overflow) place operands free =
    let back = overflow-back overflow place operands in
    (record { goes = refl; right = rw (back, free) refl }, rw back refl)

-- ---- the log

pub runs-turned : (o : Outline) (t : Claims) (turned : Option ℕ) → IfSome turned IsShortNumber → t.turned ≡ None
    → Runs o t (option_to_list (option_map (number_row (codes "turned")) turned)) (record t { turned = turned })
runs-turned o t None fit free = rw (sym free) refl
runs-turned o t (Some turned) fit free =
    let back = whole-back turned fit in
    (record { goes = refl; right = rw (back, free) refl }, rw back refl)

-- a pivot has the next number
next-number : (count k : ℕ) → k ≡ count + 1 → k ≤ 1000000 → is_next count (decimal k) ≡ true
next-number count k e few =
    let value = number-back k (omega arith) in
    let same : (k == count + 1) ≡ true = eq-eqb k (count + 1) e in
    let most : nat_le k 1000000 ≡ true = grind (arith, nat_tests) in
    rw (is_number-decimal k (omega arith), value, same, most) refl

pivot-step : (o : Outline) (t : Claims) (done : List Entry) (k : ℕ) (entry : Entry) → k ≡ length done + 1 → k ≤ 1000000 → HasNumbers entry → IsAtBound entry
    → IsStep o (record t { entries = done }) (pivot_row (k, entry))
pivot-step o t done k entry e few numbers at_bound =
    record { goes = refl; right = rw (next-number (length done) k e few, entry-back k entry numbers at_bound) refl }

runs-entries : (o : Outline) (t : Claims) (left done : List Entry) (k : ℕ) → k ≡ length done + 1 → length done + length left ≤ 1000000 → AllByRecursion HasNumbers left → AllByRecursion IsAtBound left
    → Runs o (record t { entries = done }) (map pivot_row (enumerate_from k left)) (record t { entries = done ++ left })
runs-entries o t [] done k e few numbers at_bounds = rw (append-nil done) refl
runs-entries o t (entry ∷ left) done k e few numbers at_bounds =
    let pushed : length (done ++ entry ∷ []) ≡ length done + 1 = length-append done (entry ∷ []) in
    let next : done ++ entry ∷ [] ++ left ≡ done ++ entry ∷ left = append_assoc done (entry ∷ []) left in
    let rest = runs-entries o t left (done ++ entry ∷ []) (k + 1) (omega arith) (omega arith) numbers.1 at_bounds.1 in
    runs-step o _ _ _ _ _ (pivot-step o t done k entry e (omega arith) numbers.0 at_bounds.0) (rw (entry-back k entry numbers.0 at_bounds.0) refl) (rw next at rest)

pub runs-log : (o : Outline) (t : Claims) (log : Log) → LogFits log → t.turned ≡ None → t.entries ≡ []
    → Runs o t (log_rows log) (record t { turned = log.turned; entries = log.entries })
runs-log o t log fit turned none =
    let numbers = recursion_from_All HasNumbers log.entries fit.numbers in
    let at_bounds = recursion_from_All IsAtBound log.entries fit.at_bounds in
    let few = fit.few in
    let first = runs-turned o t log.turned fit.turned turned in
    let second = runs-entries o (record t { turned = log.turned }) log.entries [] 1 (omega arith) (omega arith) numbers at_bounds in
    runs-append o _ _ _ (record t { turned = log.turned }) _ first (rw none second)
