-- Places of numbers in lists.
use Rattle.std.specs.Prelude.{◌≡◌, ℕ, ◌<◌, Option, Some, None, List, length, map, slice_index_or}
use Rattle.gain_graphs.specs.Arcs.{IsIn}

-- the place of the entry with this number, or that there is none
abbrev pub IsPlace : {A : Type 0} → (A → ℕ) → List A → ℕ → Option ℕ → Type 0
IsPlace number entries wanted None = ¬ IsIn wanted (map number entries)
IsPlace number entries wanted (Some place) = (place < length entries) × ((d : _) → number (slice_index_or entries place d) ≡ wanted)
