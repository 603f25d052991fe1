-- Names that are numbered in the order in which they were defined.
use Rattle.std.specs.Prelude.{ℕ, ◌+◌, Bool, is_some, unwrap_or, List, [], ◌∷◌, Option, Some, None, option_map, if◌then◌else◌}
use Rattle.std.specs.Str.{bytes_eq}

-- the place of the first of these names that is the name given, from 0; None where none is
abbrev pub place_of : List (List ℕ) → List ℕ → Option ℕ
place_of [] name = None
place_of (first ∷ rest) name =
    if bytes_eq name first then Some 0 else option_map (λ place. place + 1) (place_of rest name)

-- the name is one of these
abbrev pub is_defined : List (List ℕ) → List ℕ → Bool
is_defined names name = is_some (place_of names name)

-- the place of a name that is one of these
abbrev pub place_in : List (List ℕ) → List ℕ → ℕ
place_in names name = unwrap_or (place_of names name) 0
