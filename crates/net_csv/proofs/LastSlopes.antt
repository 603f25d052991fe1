-- The slope of the last band.
use Rattle.std.specs.Prelude.{◌≡◌, suc, ◌-◌, List, [], ◌∷◌, ◌++◌, length, slice_get}
use Rattle.std.specs.Option.{option_map_or}
use Rattle.std.proofs.Common.{refl, ◌∙◌, arith}
use Rattle.np_frac.specs.Ratio.{Ratio}
use Rattle.np_model.specs.declared.scheme.Band.{Band}
use Rattle.np_model.specs.Scheme.Segments.{last_slope}
use Rattle.net_csv.proofs.Steps.{there}

-- what the last band tells does not come from the first of two
pub last-of : {A : Type 0} (f : Band → A) (a c : Band) (rest : List Band) (d e : A)
    → option_map_or f (slice_get (a ∷ c ∷ rest) (length (a ∷ c ∷ rest) - 1)) d ≡ option_map_or f (slice_get (c ∷ rest) (length (c ∷ rest) - 1)) e
last-of f a c rest d e =
    let x : suc (suc (length rest)) - 1 ≡ suc (length rest) = omega arith in
    let y : suc (length rest) - 1 ≡ length rest = omega arith in
    let last = there (c ∷ rest) (length rest) (omega arith) in
    rw (x, y, last.1) refl

pub last_slope-push : (slope : Ratio) (bands : List Band) (b : Band) → last_slope slope (bands ++ b ∷ []) ≡ b.slope
last_slope-push slope [] b = refl
last_slope-push slope (a ∷ rest) b = last_slope-push a.slope rest b

pub last_slope-get : (slope : Ratio) (bands : List Band) → option_map_or (λ band. band.slope) (slice_get bands (length bands - 1)) slope ≡ last_slope slope bands
last_slope-get slope [] = refl
last_slope-get slope (a ∷ []) = refl
last_slope-get slope (a ∷ c ∷ rest) = last-of (λ band. band.slope) a c rest slope a.slope ∙ last_slope-get a.slope (c ∷ rest)
