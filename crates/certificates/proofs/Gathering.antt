-- What gathering answers, as it is told.
use Rattle.std.specs.Prelude.{Result, Err, List}
use Rattle.std.proofs.Common.{refl}
use Rattle.np_frac.specs.Ratio.{Ratio}
use Rattle.np_frac.specs.declared.frac.Past.{Past}
use Rattle.convex_arcs.specs.Gathered.{Gathers}
use Rattle.convex_arcs.specs.declared.amounts.GatherRefusal.{GatherRefusal}
use Rattle.convex_arcs.specs.declared.amounts.GatherRefusal.TheVariants as gather
use Rattle.certificates.specs.Steps.Certifying.{Gathered, told_of_gathering}

pub gathering_told : (r : GatherRefusal) (found : Result (List Ratio) Past) → Gathers (Err r) found → Gathered (Err (told_of_gathering r)) found
gathering_told (gather.Past past) found told = (past, told, refl)
gathering_told gather.Memory found told = tt
