-- Amounts are gathered stage by stage.
use Rattle.std.specs.Prelude.{◌≡◌, Result, Ok, Err, List, [], ◌++◌}
use Rattle.std.proofs.Common.{refl, sym, ap}
use Rattle.np_frac.specs.Ratio.{Ratio}
use Rattle.np_frac.specs.declared.frac.Past.{Past}
use Rattle.np_frac.specs.Exact.{◌▷◌}

-- with no amounts before them, those that are found are all
pub nothing_before : (found : Result (List Ratio) Past) (amounts : List Ratio) → amounts ≡ [] → found ≡ (found ▷ λ xs. Ok (amounts ++ xs))
nothing_before (Ok xs) amounts e = ap (λ ys. Ok (ys ++ xs)) (sym e)
nothing_before (Err past) amounts e = refl
