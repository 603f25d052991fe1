-- Two ascending lists made one, and entries picked from a list. (This project's own.)
use Rattle.std.specs.Prelude.{◌≡◌, ◌⊎◌, ◌↔◌, ◌<◌, ℕ, List, length, map, slice_index_or}
use Rattle.std.specs.List.Sorted.{IsStrictlyIncreasing}
use Rattle.gain_graphs.specs.Arcs.{IsIn}

-- the entries of both lists in ascending order, one that stands in both but once
pub record IsMerged {T : Type 0} (number : T → ℕ) (xs ys both : List T) : Type 0 where
  pub ascend : IsStrictlyIncreasing (map number both)
  pub are : (x : T) → IsIn x both ↔ (IsIn x xs ⊎ IsIn x ys)

-- entries of the one list with the numbers of the other
pub record ArePicked {T : Type 0} (number : T → ℕ) (xs like picked : List T) : Type 0 where
  pub numbers : map number picked ≡ map number like
  pub from : (x : T) → IsIn x picked → IsIn x xs

-- there is an entry at this place, and it has the number
abbrev pub StandsAtPlace : {T : Type 0} → (T → ℕ) → List T → ℕ → ℕ → Type 0
StandsAtPlace number xs place wanted = (place < length xs) × (slice_index_or (map number xs) place 0 ≡ wanted)
