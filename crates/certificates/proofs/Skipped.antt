-- Records that are overflow over.
use Rattle.std.specs.Prelude.{◌≡◌, ℕ, ◌+◌, List, [], ◌∷◌, drop}
use Rattle.std.proofs.Common.{sym, ap, ◌∙◌}
use Rattle.std.proofs.lemmas.List.{drop-drop}

pub drop-next : {X : Type 0} (xs after : List X) (x : X) (k : ℕ) → drop k xs ≡ x ∷ after → drop (k + 1) xs ≡ after
drop-next xs after x k e = sym (drop-drop 1 k xs) ∙ ap (drop 1) e

pub drop-none : {X : Type 0} (xs : List X) (k : ℕ) → drop k xs ≡ [] → drop (k + 1) xs ≡ []
drop-none xs k e = sym (drop-drop 1 k xs) ∙ ap (drop 1) e
