-- What the refusals of the crates below are told as.
use Rattle.std.specs.Prelude.{◌≡◌, ⊤, Result, Ok, Err, List}
use Rattle.np_frac.specs.Ratio.{Ratio}
use Rattle.np_frac.specs.declared.frac.Past.{Past}
use Rattle.np_model.specs.declared.rows.CheckRow.TheVariants.{C0}
use Rattle.convex_arcs.specs.declared.amounts.GatherRefusal.{GatherRefusal}
use Rattle.convex_arcs.specs.declared.amounts.GatherRefusal.TheVariants as gather
use Rattle.cert_checker.specs.declared.answer.CheckRefusal.{CheckRefusal}
use Rattle.cert_checker.specs.declared.answer.CheckRefusal.TheVariants as refusal
use Rattle.certificates.specs.declared.certifying.TextRefusal.{TextRefusal}
use Rattle.certificates.specs.declared.certifying.TextRefusal.TheVariants as text
use Rattle.certificates.specs.Certificates.{total_overflow}

-- no clause fails
abbrev pub IsNoReject : CheckRefusal → Type 0
IsNoReject (refusal.Reject clause name period) = ⊥
IsNoReject (refusal.Past row past) = ⊤
IsNoReject refusal.Memory = ⊤

-- what is told of a refusal of the walk; that a clause fails is not told, since none does
abbrev pub told_of_walk : CheckRefusal → TextRefusal
told_of_walk (refusal.Reject clause name period) = text.Memory
told_of_walk (refusal.Past row past) = text.Past (total_overflow row past)
told_of_walk refusal.Memory = text.Memory

-- what is told where amounts are not gathered
abbrev pub told_of_gathering : GatherRefusal → TextRefusal
told_of_gathering (gather.Past past) = text.Past (total_overflow C0 past)
told_of_gathering gather.Memory = text.Memory

-- amounts that are gathered, or what is told of the addition that overflows
abbrev pub Gathered : Result (List Ratio) TextRefusal → Result (List Ratio) Past → Type 0
Gathered (Ok amounts) found = found ≡ Ok amounts
Gathered (Err text.Memory) found = Unit {0}
Gathered (Err r) found = (past : Past) × (found ≡ Err past) × (r ≡ text.Past (total_overflow C0 past))
