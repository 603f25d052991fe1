-- What a reading took of a source.
use Rattle.std.specs.Prelude.{◌≡◌, ℕ, ◌≤◌, List, Option, length}
use Rattle.std.specs.Io.KnownBytes.{prepend_known}

-- what was left before is some bytes, at most so many, and then what is left after; a source that tells nothing still tells nothing
abbrev pub TookAtMost : ℕ → Option (List ℕ) → Option (List ℕ) → Type 0
TookAtMost most before after =
    (taken : List ℕ) × (length taken ≤ most) × (before ≡ prepend_known taken after)

-- the same of exactly so many bytes
abbrev pub TookExactly : ℕ → Option (List ℕ) → Option (List ℕ) → Type 0
TookExactly count before after =
    (taken : List ℕ) × (length taken ≡ count) × (before ≡ prepend_known taken after)
