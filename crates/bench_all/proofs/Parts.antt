-- Lists that grow by one entry a turn.
use Rattle.std.specs.Prelude.{◌≡◌, ℕ, ◌+◌, List, [], ◌∷◌, ◌++◌, map}
use Rattle.std.specs.List.{range_with_len}
use Rattle.std.proofs.Common.{sym, ap, ◌∙◌}
use Rattle.std.proofs.lemmas.List.FromFn.{map-range_with_len_more}

-- what f makes of the numbers so far from `first` on, and of the next one
pub one_more : {A : Type 0} (f : ℕ → A) (first i next : ℕ) (x : A) (old new : List A) → first + i ≡ next → old ≡ map f (range_with_len first i) → x ≡ f next → new ≡ old ++ x ∷ []
    → new ≡ map f (range_with_len first (i + 1))
one_more f first i next x old new place before here after =
    after ∙ ap (λ t. t ++ x ∷ []) before ∙ ap (λ z. map f (range_with_len first i) ++ z ∷ []) here ∙ sym (map-range_with_len_more f first i next place)
