-- How a record was taken, from what its parts gave.
use Rattle.std.specs.Prelude.{◌≡◌, Option, None, Result, Ok, Err, [], ◌∷◌}
use Rattle.std.proofs.Common.{refl}
use Rattle.net_csv.specs.declared.refused.Code.{Code}
use Rattle.net_csv.specs.declared.refused.Stop.{Stop}
use Rattle.net_csv.specs.declared.refused.Stop.TheVariants as stop
use Rattle.np_records.specs.Faults.{first_fault}
use Rattle.net_csv.specs.Steps.Tables.{Tables, TakesRecord}

-- where only the last of five tests is left, it tells
pub takes-last : {U : Type 0} (r : Result U Stop) (a b c d e : Option Code) (new made : Tables)
    → a ≡ None → b ≡ None → c ≡ None → d ≡ None → TakesRecord r e new made → TakesRecord r (first_fault (a ∷ b ∷ c ∷ d ∷ e ∷ [])) new made
takes-last (Ok done) a b c d e new made ha hb hc hd h = rw (ha, hb, hc, hd, h.0) (refl, h.1)
takes-last (Err (stop.Fault x)) a b c d e new made ha hb hc hd h = rw (ha, hb, hc, hd, h) refl
takes-last (Err stop.Memory) a b c d e new made ha hb hc hd h = tt
