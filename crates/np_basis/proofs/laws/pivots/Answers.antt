use Rattle.np_basis.proofs.Few.{pieces_hold, at_most_two}
use Rattle.np_basis.proofs.FromPieces.{after_is_exactly}
use Rattle.np_basis.proofs.Pivoting.{others_are_kept}
use Rattle.np_basis.proofs.ToPieces.{pivot_replaces}
use Rattle.np_basis.proofs.Unique.{pivot_is_unique, after_is_unique}
use Rattle.np_basis.proofs.laws.pivots.Goals as goal

pub returns-clause-kept : goal.returns-clause-kept
returns-clause-kept c = others_are_kept

pub returns-clause-needed : goal.returns-clause-needed
returns-clause-needed c = pieces_hold

pub returns-clause-few : goal.returns-clause-few
returns-clause-few c = at_most_two

pub returns-clause-of_pieces : goal.returns-clause-of_pieces
returns-clause-of_pieces c = after_is_exactly

pub returns-clause-replaces : goal.returns-clause-replaces
returns-clause-replaces c = pivot_replaces

pub returns-clause-unique : goal.returns-clause-unique
returns-clause-unique c = pivot_is_unique

pub returns-clause-one_after : goal.returns-clause-one_after
returns-clause-one_after c = after_is_unique
