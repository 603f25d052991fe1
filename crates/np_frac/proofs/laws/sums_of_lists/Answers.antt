use Rattle.np_frac.proofs.Sums.{total_joined, total_part, total_changed_at, total_zero, total-+ᵣ, *ᵣ-total, total_same, total_at_most}
use Rattle.np_frac.proofs.laws.sums_of_lists.Goals as goal

pub returns-clause-zero : goal.returns-clause-zero
returns-clause-zero g c = total_zero

pub returns-clause-split : goal.returns-clause-split
returns-clause-split g c = total-+ᵣ

pub returns-clause-factor : goal.returns-clause-factor
returns-clause-factor g c = *ᵣ-total

pub returns-clause-same : goal.returns-clause-same
returns-clause-same g c = total_same

pub returns-clause-at_most : goal.returns-clause-at_most
returns-clause-at_most g c = total_at_most

pub returns-clause-joined : goal.returns-clause-joined
returns-clause-joined g c = total_joined

pub returns-clause-part : goal.returns-clause-part
returns-clause-part g c = total_part

pub returns-clause-changed : goal.returns-clause-changed
returns-clause-changed g c = total_changed_at
