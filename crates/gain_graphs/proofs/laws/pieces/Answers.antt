use Rattle.gain_graphs.proofs.Theorems as theorems
use Rattle.gain_graphs.proofs.laws.pieces.Goals as goal

pub returns-clause-exist : goal.returns-clause-exist
returns-clause-exist g c = λ field. theorems.piece_exists field

pub returns-clause-unique : goal.returns-clause-unique
returns-clause-unique g c = λ field. theorems.piece_is_unique field

pub returns-clause-kept : goal.returns-clause-kept
returns-clause-kept g c = λ field. theorems.piece_is_kept field
