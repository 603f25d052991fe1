use Rattle.std.proofs.Common.{subst, sym}
use Rattle.net_csv.specs.Steps.Tables.{IsReady}
use Rattle.net_csv.proofs.SchemeValid.{parts-valid}
use Rattle.net_csv.proofs.draft.Draft.into_scheme.Goals as goal

pub invariant_of-result : goal.invariant_of-result
invariant_of-result c = record { valid = parts-valid _ _ _ (subst IsReady (sym c.self.view_is) c.requires) c.in_ok-nodes.ensures (rw (c.len.ensures, c.deref.ensures.value) at c.in_ok-supply.ensures) }
