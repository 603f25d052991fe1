-- A log fits where each of its pivots does.
use Rattle.std.specs.Prelude.{◌≡◌, ℕ, zero, suc, ◌<◌, ◌≤◌, List, [], ◌∷◌, length, get_or, take}
use Rattle.std.specs.List.{All, AllByRecursion}
use Rattle.std.proofs.Common.{arith, subst}
use Rattle.std.proofs.lemmas.List.{take_all}
use Rattle.std.proofs.lemmas.List.Elements.{recursion_from_All, All-from_recursion}
use Rattle.np_model.specs.declared.log.Entry.{Entry}
use Rattle.np_model.specs.declared.log.Log.{Log}
use Rattle.np_model.specs.declared.log.Mark.TheVariants as mark
use Rattle.np_model.specs.Scheme.Fits.{IsShortNumber, LogFits}
use Rattle.np_model.specs.Steps.Tests.{EntryFits}

each-at : {X : Type 0} (P : X → Type 0) (xs : List X) (i : ℕ) (d : X) → i < length xs → AllByRecursion P xs → P (get_or xs i d)
each-at P [] i d below h = absurd (omega arith)
each-at P (x ∷ xs) zero d below h = h.0
each-at P (x ∷ xs) (suc i) d below h = each-at P xs i d (omega arith) h.1

pub all-at : {X : Type 0} (P : X → Type 0) (xs : List X) (i : ℕ) (d : X) → i < length xs → All P xs → P (get_or xs i d)
all-at P xs i d below h = each-at P xs i d below (recursion_from_All P xs h)

pub all-end : {X : Type 0} (P : X → Type 0) (xs : List X) (i : ℕ) → length xs ≤ i → All P (take i xs) → All P xs
all-end P xs i h all = subst (All P) (take_all i xs h) all

numbers-of : (entries : List Entry) → AllByRecursion EntryFits entries → AllByRecursion (λ entry. IsShortNumber entry.enter × IsShortNumber entry.leave) entries
numbers-of [] h = tt
numbers-of (e ∷ es) h = ((h.0.enter, h.0.leave), numbers-of es h.1)

bounds-of : (entries : List Entry) → AllByRecursion EntryFits entries → AllByRecursion (λ entry. entry.leave_at ≡ mark.Basic → ⊥) entries
bounds-of [] h = tt
bounds-of (e ∷ es) h = (h.0.at_bound, bounds-of es h.1)

entries-of : (entries : List Entry) → AllByRecursion (λ entry. IsShortNumber entry.enter × IsShortNumber entry.leave) entries → AllByRecursion (λ entry. entry.leave_at ≡ mark.Basic → ⊥) entries → AllByRecursion EntryFits entries
entries-of [] h k = tt
entries-of (e ∷ es) h k = (record { enter = h.0.0; leave = h.0.1; at_bound = k.0 }, entries-of es h.1 k.1)

pub numbers-fit : (entries : List Entry) → All EntryFits entries → All (λ entry. IsShortNumber entry.enter × IsShortNumber entry.leave) entries
numbers-fit entries h = All-from_recursion (λ entry. IsShortNumber entry.enter × IsShortNumber entry.leave) entries (numbers-of entries (recursion_from_All EntryFits entries h))

pub bounds-fit : (entries : List Entry) → All EntryFits entries → All (λ entry. entry.leave_at ≡ mark.Basic → ⊥) entries
bounds-fit entries h = All-from_recursion (λ entry. entry.leave_at ≡ mark.Basic → ⊥) entries (bounds-of entries (recursion_from_All EntryFits entries h))

pub entries-fit : (log : Log) → LogFits log → All EntryFits log.entries
entries-fit log h =
    All-from_recursion EntryFits log.entries
    (entries-of log.entries
    (recursion_from_All (λ entry. IsShortNumber entry.enter × IsShortNumber entry.leave) log.entries h.numbers)
    (recursion_from_All (λ entry. entry.leave_at ≡ mark.Basic → ⊥) log.entries h.at_bounds))
