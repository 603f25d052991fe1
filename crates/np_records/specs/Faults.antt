-- Tests that are made in order, each with the fault that it tells where it does not hold, and the first fault of a text.
use Rattle.std.specs.Prelude.{◌≡◌, ℕ, Bool, Option, Some, None, option_map, Result, Ok, Err, List, [], ◌∷◌, if◌then◌else◌}
use Rattle.std.specs.List.{range_with_len}
use Rattle.std.specs.Option.{option_or}

-- what is wrong where a test does not hold
abbrev pub unless : {C : Type 0} → Bool → C → Option C
unless holds c = if holds then None else Some c

-- the first fault of tests that are made in order
abbrev pub first_fault : {C : Type 0} → List (Option C) → Option C
first_fault [] = None
first_fault (test ∷ tests) = option_or test (first_fault tests)

-- what the first element gives that gives something
abbrev pub found : {X Y : Type 0} → (X → Option Y) → List X → Option Y
found f [] = None
found f (x ∷ xs) = option_or (f x) (found f xs)

-- the first of so many places, from 0, that has a fault, with the fault; None where none has
abbrev pub first_place : {C : Type 0} → (ℕ → Option C) → ℕ → Option (ℕ × C)
first_place fault_at places = found (λ place. option_map (λ c. (place, c)) (fault_at place)) (range_with_len 0 places)

-- the value where there is no fault, and the fault where there is one
abbrev pub Reads : {Y C : Type 0} → Result Y C → Option C → Y → Type 0
Reads (Ok x) fault value = (fault ≡ None) × (x ≡ value)
Reads (Err c) fault value = fault ≡ Some c
