-- How the pieces and entries of a closed table are gathered. (This project's own.)
use Rattle.std.specs.Prelude.{ℕ, suc, List, [], ◌∷◌, Option, Some, None}
use Rattle.np_model.specs.declared.log.Entry.{Entry}

-- the values of a list that has some
abbrev pub somes : {T : Type 0} → List (Option T) → List T
somes [] = []
somes (None ∷ xs) = somes xs
somes (Some x ∷ xs) = x ∷ somes xs

-- the entries with their tickets, from n on
abbrev pub ticketed_from : ℕ → List Entry → List (ℕ × Entry)
ticketed_from n [] = []
ticketed_from n (e ∷ es) = (n, e) ∷ ticketed_from (suc n) es
